-- Two answers that a promise allows are the same answer: the promise equates it with a definition's value. Assumes
-- nothing.
use mathlib.Core.Path.{◌≡◌, sym, ◌∙◌}
use Rattle.peak_groups.specs.declared.Peak.{Peak}
use Rattle.peak_groups.specs.Groups.{larger}
use Prim.Native.Nat.{ℕ}
use mathlib.Core.List.{List}
use lib.IntN.{ℤ}
use Rattle.peak_groups.specs.declared.Run.{Run}
use Rattle.peak_groups.specs.Runs.{zeros, first_run, second}
use mathlib.Core.Bool.{Bool}
use Rattle.peak_groups.specs.declared.Group.{Group}
use Rattle.peak_groups.specs.Peaks.{high, alike, close, short}

pub larger_unique : (p q x y : Peak) → x ≡ larger p q → y ≡ larger p q → x ≡ y
larger_unique p q x y e f = e ∙ sym f

pub zeros_unique : (xs : List ℤ) (x y : ℕ) → x ≡ zeros xs → y ≡ zeros xs → x ≡ y
zeros_unique xs x y e f = e ∙ sym f

pub first_run_unique : (xs : List ℤ) (x y : Run) → x ≡ first_run xs → y ≡ first_run xs → x ≡ y
first_run_unique xs x y e f = e ∙ sym f

pub second_run_unique : (xs : List ℤ) (x y : ℕ) → x ≡ second xs → y ≡ second xs → x ≡ y
second_run_unique xs x y e f = e ∙ sym f

pub high_unique : (n s : ℕ) (p : Peak) (x y : Bool) → x ≡ high n s p → y ≡ high n s p → x ≡ y
high_unique n s p x y e f = e ∙ sym f

pub in_stretch_unique : (n s : ℕ) (g : Group) (p : Peak) (x y : Bool) → x ≡ alike n s g.last p → y ≡ alike n s g.last p → x ≡ y
in_stretch_unique n s g p x y e f = e ∙ sym f

pub in_chain_unique : (τ : ℕ) (g : Group) (p : Peak) (x y : Bool) → x ≡ close τ g.last p → y ≡ close τ g.last p → x ≡ y
in_chain_unique τ g p x y e f = e ∙ sym f

pub short_unique : (sizes times k : ℕ) (x y : Bool) → x ≡ short sizes times k → y ≡ short sizes times k → x ≡ y
short_unique sizes times k x y e f = e ∙ sym f
