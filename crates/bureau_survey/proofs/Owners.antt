-- What is seen after a place, by its owner. Assumes nothing.
use mathlib.Core.Path.{◌≡◌, refl, ap}
use mathlib.Core.Bool.{Bool, cond, false, or-false, true, ◌&&◌, ◌||◌}
use Prim.Native.Nat.{ℕ}
use lib.Dec.{eqb}
use borrow.Author.Tests.{ne_eqb}
use Rattle.campaign_state.specs.State.{sound}
use Rattle.bureau_table.specs.declared.Place.{Place}
use Rattle.bureau_table.specs.Table.{zeros}
use Rattle.bureau_survey.specs.declared.Seen.{Seen}
use Rattle.bureau_survey.specs.Survey.{more, surveyed}

or-true : (b : Bool) → (b || true) ≡ true
or-true true = refl
or-true false = refl

and-false : (b : Bool) → (b && false) ≡ false
and-false true = refl
and-false false = refl

module _ (s : Seen) (i : ℕ) (p : Place) where
  -- the tests of an owner that is n
  test : {n : ℕ} → p.owner ≡ n → (m : ℕ) → eqb p.owner m ≡ eqb n m
  test e m = ap (λ (k : ℕ). eqb k m) e

  pub free_seen : {w : Bool} {l : ℕ} → p.owner ≡ 0 → w ≡ (s.whole && zeros p.campaign) → l ≡ cond s.found s.lowest i
      → record { whole = w; found = true; lowest = l; first = s.first; second = s.second } ≡ surveyed s i p
  free_seen e ew el = rw (test e 0, test e 1, test e 2, or-true s.found, ew, el)

  pub first_seen : {w : Bool} {f : ℕ} → p.owner ≡ 1 → w ≡ (s.whole && sound p.campaign) → f ≡ more s.first
      → record { whole = w; found = s.found; lowest = s.lowest; first = f; second = s.second } ≡ surveyed s i p
  first_seen e ew ef = rw (test e 0, test e 1, test e 2, or-false s.found, ew, ef)

  pub second_seen : {w : Bool} {f : ℕ} → p.owner ≡ 2 → w ≡ (s.whole && sound p.campaign) → f ≡ more s.second
      → record { whole = w; found = s.found; lowest = s.lowest; first = s.first; second = f } ≡ surveyed s i p
  second_seen e ew ef = rw (test e 0, test e 1, test e 2, or-false s.found, ew, ef)

  pub nobody_seen : ¬ (p.owner ≡ 0) → ¬ (p.owner ≡ 1) → ¬ (p.owner ≡ 2)
      → record { whole = false; found = s.found; lowest = s.lowest; first = s.first; second = s.second } ≡ surveyed s i p
  nobody_seen a b c = rw (ne_eqb p.owner 0 a, ne_eqb p.owner 1 b, ne_eqb p.owner 2 c, or-false s.found, and-false s.whole)
