-- `decimal::run_at` meets its contract. The invariant of its loop: the value, with the digits pushed that are left at
-- i, is the value of the whole run; their number, from i on, ends where the run ends; and the value is below ten to the
-- digits passed, so that no sum wraps. What is left of the way to `stop`, the measure, falls by one. Assumes nothing.
use mathlib.Core.Path.{◌≡◌}
use mathlib.Core.List.{foldl}
use Prim.Native.Nat.{◌+◌, ◌-◌, ◌^◌, ◌≤◌, ◌<◌}
use lib.ListN.{length}
use Rattle.decimal.specs.Decimal.{push, value_of}
use Rattle.decimal.proofs.Reading.{run, left}
use Rattle.decimal.proofs.run_at.Given as goal

abbrev pub invariant-loop-i : goal.invariant-loop-i
invariant-loop-i l = (l.at ≤ l.i) ×
    ((l.value < 10 ^ (l.i - l.at)) ×
    ((foldl push l.value (left l.s l.at l.i) ≡ value_of (run l.s l.at)) ×
    (l.i + length (left l.s l.at l.i) ≡ l.at + length (run l.s l.at))))
