-- `sheet_reply::letter` meets its contract: of a state that keeps its relations the campaign gives its verdict, and
-- each has its letter. Assumes nothing.
use mathlib.Core.Path.{◌≡◌}
use Rattle.campaign_verdict.specs.Figures.{verdict_of}
use Rattle.sheet_reply.specs.Written.{letter_for}
use Rattle.campaign_verdict.proofs.Given.{has_verdict}
use Rattle.sheet_reply.proofs.letter.Goals as goal
use Rattle.sheet_reply.proofs.letter.Goals.{In-Ok}

given : (c : In-Ok) → c.in-Ok.v ≡ verdict_of c.args.c
given c =
    has_verdict _ c.requires _ c.judge.ensures c.in-Ok.is

pub returns-in-Accept : goal.returns-in-Accept
unfolding letter_for
returns-in-Accept c =
    rw (← given (goal.at.returns-in-Accept c).In-Ok, c.in-Accept.is)

pub returns-in-Reject : goal.returns-in-Reject
unfolding letter_for
returns-in-Reject c =
    rw (← given (goal.at.returns-in-Reject c).In-Ok, c.in-Reject.is)

pub returns-in-Continue : goal.returns-in-Continue
unfolding letter_for
returns-in-Continue c =
    rw (← given (goal.at.returns-in-Continue c).In-Ok, c.in-Continue.is)

pub returns-in-NoRecord : goal.returns-in-NoRecord
unfolding letter_for
returns-in-NoRecord c =
    rw (← given (goal.at.returns-in-NoRecord c).In-Ok, c.in-NoRecord.is)
