-- Two sets of numbers and tables that a promise allows are the same: each promise equates them with what is told of the
-- call's answer, and with the rows that it leaves. Assumes nothing.
use mathlib.Core.Path.{◌≡◌}
use mathlib.Core.List.{List}
use Prim.Native.Nat.{ℕ}
use lib.Ieee.{Float}
use Rattle.bureau_table.specs.declared.Ask.{Ask}
use Rattle.bureau_table.specs.declared.Ask.TheVariants.{On, Take}
use Rattle.bureau_table.specs.declared.Work.TheVariants.{Enter, GiveBack, Judge, Rate}
use Rattle.bureau_table.specs.Calls.{called}
use Rattle.capi_verdict.specs.Told.{Count, Judgement, Rating, rates}
use Rattle.truth.proofs.Unique.{settled}
use Rattle.capi_bureau.specs.Rows.{outcome_of, places_of, rows_left}
use Rattle.capi_bureau.specs.Told.{judged, plain, rated}

-- what a promise says: x is told, and the rows are left
abbrev Says : {A : Type 0} → List (List ℕ) → ℕ → Ask → A → A → List (List ℕ) → Type 0
Says rows b a told x left = (x ≡ told) × (left ≡ rows_left rows (called (places_of rows) b a).table)

module _ (rows : List (List ℕ)) (b : ℕ) where
  both_settled : {A : Type 0} (a : Ask) {t x y : A} {u v : List (List ℕ)} → Says rows b a t x u → Says rows b a t y v → (x ≡ y) × (u ≡ v)
  both_settled a p q = (settled p.0 q.0, settled p.1 q.1)

  abbrev plainly : Ask → Count → List (List ℕ) → Type 0
  plainly a x u = Says rows b a (plain (called (places_of rows) b a).answer) x u

  pub bench_take_unique : (q : ℕ) (x y : Count) (u v : List (List ℕ)) → plainly (Take q) x u → plainly (Take q) y v → (x ≡ y) × (u ≡ v)
  bench_take_unique q x y u v = both_settled (Take q)

  pub bench_enter_unique : (i f t : ℕ) (x y : Count) (u v : List (List ℕ)) → plainly (On i (Enter (outcome_of f t))) x u → plainly (On i (Enter (outcome_of f t))) y v → (x ≡ y) × (u ≡ v)
  bench_enter_unique i f t x y u v = both_settled (On i (Enter (outcome_of f t)))

  pub bench_give_back_unique : (i : ℕ) (x y : Count) (u v : List (List ℕ)) → plainly (On i GiveBack) x u → plainly (On i GiveBack) y v → (x ≡ y) × (u ≡ v)
  bench_give_back_unique i x y u v = both_settled (On i GiveBack)

  pub bench_verdict_unique : (i : ℕ) (l h : Float) (x y : Judgement) (u v : List (List ℕ))
      → Says rows b (On i Judge) (judged (called (places_of rows) b (On i Judge)).answer l h) x u
      → Says rows b (On i Judge) (judged (called (places_of rows) b (On i Judge)).answer l h) y v
      → (x ≡ y) × (u ≡ v)
  bench_verdict_unique i l h x y u v = both_settled (On i Judge)

  pub bench_rates_unique : (i : ℕ) (e l h : Float) (x y : Rating) (u v : List (List ℕ))
      → Says rows b (On i Rate) (rated (called (places_of rows) b (On i Rate)).answer (rates e l h)) x u
      → Says rows b (On i Rate) (rated (called (places_of rows) b (On i Rate)).answer (rates e l h)) y v
      → (x ≡ y) × (u ≡ v)
  bench_rates_unique i e l h x y u v = both_settled (On i Rate)
