-- The survey of what is left of the table goes on to the survey of the whole.
use Rattle.std.proofs.Common.{◌≡◌, ◌≤◌, length, drop}
use Rattle.bureau_survey.specs.Survey.{looked, unseen}
use Rattle.capi_bureau.specs.Rows.{places_of}
use Rattle.capi_bureau.proofs.look.Given as goal

abbrev pub invariant-loop-i : goal.invariant-loop-i
invariant-loop-i l =
    (l.i ≤ length l.table)
    × (looked l.s l.i (drop l.i (places_of l.table)) ≡ looked unseen 0 (places_of l.table))
