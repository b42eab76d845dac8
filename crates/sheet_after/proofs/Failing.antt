-- How many of the records failed, counted from the first on: `So` holds on the way. Assumes nothing.
use Prim.Native.Nat.{ℕ, ◌+◌, ◌≤◌, ◌<◌}
use mathlib.Core.Path.{◌≡◌, refl, sym, ap, ◌∙◌}
use mathlib.Core.Bool.{Bool, true, false, cond}
use mathlib.Core.List.{List, []}
use native.Mathlib.Numerals.{add-one}
use native.Mathlib.Omega.{arith}
use lib.IntN.{ℤ, pos}
use lib.ListN.{length, drop, get_or, drop_of_length-le}
use lib.Seq.{drop-cons}
use Rattle.sheet_records.specs.Ledger.{failed_in}
use Rattle.sheet_files.specs.Files.{failures_in}

pub record So (records : List ℤ) (n i : ℕ) : Type 0 where
  pub within : i ≤ length records
  pub sum : n + failures_in (drop i records) ≡ failures_in records
  pub few : n ≤ i

pub so_start : (records : List ℤ) → So records 0 0
so_start records = record { within = omega arith; sum = omega arith; few = omega arith }

one : (b : Bool) (n rest : ℕ) → cond b (n + 1) n + rest ≡ n + (cond b 1 0 + rest)
one true n rest = omega arith
one false n rest = omega arith

one_few : (b : Bool) (n i : ℕ) → n ≤ i → cond b (n + 1) n ≤ i + 1
one_few true n i h = omega arith
one_few false n i h = omega arith

module _ (records : List ℤ) (n i : ℕ) (s : So records n i) where
  pub so_next : i < length records → So records (cond (failed_in (get_or records i (pos 0))) (n + 1) n) (i + 1)
  unfolding failures_in
  so_next h =
      let x = get_or records i (pos 0) in
      let here : failures_in (drop i records) ≡ cond (failed_in x) 1 0 + failures_in (drop (i + 1) records) = rw (add-one, drop-cons records i (pos 0) h) in
      record {
        within = omega arith;
        sum = one (failed_in x) n (failures_in (drop (i + 1) records)) ∙ ap (λ m. n + m) (sym here) ∙ s.sum;
        few = one_few (failed_in x) n i s.few;
      }

  pub so_end : length records ≤ i → n ≡ failures_in records
  unfolding failures_in
  so_end h = omega (arith, ap failures_in (drop_of_length-le records h), s.sum)
