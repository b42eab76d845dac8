-- The campaigns stored are those of the rows passed; what is left of these is the measure.
use Rattle.std.proofs.Common.{◌≡◌, ◌≤◌, ◌-◌, length, take}
use Rattle.capi_condition.specs.Told.{campaigns_of}
use Rattle.capi_condition.proofs.campaigns_of.Given as goal

abbrev pub invariant-loop-i : goal.invariant-loop-i
invariant-loop-i l =
    (l.i ≤ length l.rows) × (length l.all ≡ 64) × (take l.i l.all ≡ campaigns_of (take l.i l.rows))
