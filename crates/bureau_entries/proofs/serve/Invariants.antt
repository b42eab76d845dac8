-- `bureau_entries::serve` meets its contract. The loop looks at every place: the survey of what is left of the table goes
-- on to the survey of the whole. That choosing and acting come to what the call is said to
-- answer and leave is `serves`. Assumes nothing.
use Rattle.std.proofs.Common.{◌≡◌, ◌≤◌, length, drop}
use Rattle.bureau_survey.specs.Survey.{looked, unseen}
use Rattle.bureau_entries.proofs.serve.Given as goal

abbrev pub invariant-loop-i : goal.invariant-loop-i
invariant-loop-i l = (l.i ≤ length l.place-items) × (looked l.s l.i (drop l.i l.place-items) ≡ looked unseen 0 l.place-items)
