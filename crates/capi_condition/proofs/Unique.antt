-- Two answers that a promise allows are the same answer, with the same later contents of everything that was lent.
-- Assumes nothing.
use Prim.Native.Nat.{ℕ}
use mathlib.Core.Path.{◌≡◌}
use mathlib.Core.List.{List}
use Rattle.truth.proofs.Unique.{settled}
use Rattle.capi.specs.Told.{Told}
use Rattle.capi_condition.specs.Told.{condition_judged, condition_reported}

pub condition_judge_unique : (rows : List (List ℕ)) (x y : Told) → x ≡ condition_judged rows → y ≡ condition_judged rows → x ≡ y
condition_judge_unique rows x y = settled

pub condition_report_unique : (rows : List (List ℕ)) (out : List ℕ) (x y : Told) → x ≡ condition_reported rows out → y ≡ condition_reported rows out → x ≡ y
condition_report_unique rows out x y = settled
