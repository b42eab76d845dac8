-- What the C function of a tail leaves: an answer that `peak_tail::fit` may give, told by a number and what it carries.
-- Assumes nothing.
use Rattle.std.specs.Prelude.{ℕ, ◌≡◌, List, Result, Ok, Err}
use Rattle.peak_tail.specs.Fitting.{FitsTo}
use Rattle.capi.specs.Told.{Told, refused, told}
use Rattle.refusal.specs.declared.Refusal.{Refusal}

-- the sum is carried, and the lent array is that of the sorted peaks
abbrev pub fit_told : Result ℕ Refusal → List ℕ → Told
fit_told (Ok s) after = told 0 s after
fit_told (Err f) after = refused f after

pub record FitTold (peaks : List ℕ) (k : ℕ) (before : List ℕ) (number carried : ℕ) (after : List ℕ) : Type 0 where
  pub answer : Result ℕ Refusal
  pub fits : FitsTo peaks k before answer after
  pub tells : told number carried after ≡ fit_told answer after
