-- `campaign_report::letter` meets its contract: of a state that keeps its relations the campaign gives its verdict,
-- which has its letter. Assumes nothing.
use mathlib.Core.Path.{ap, ◌∙◌}
use Rattle.campaign_verdict.proofs.Given.{has_verdict}
use Rattle.campaign_report.specs.Report.{letter_for, verdict_letter}
use Rattle.campaign_report.proofs.letter.Goals as goal

pub returns-in-Ok : goal.returns-in-Ok
unfolding letter_for
returns-in-Ok c =
    c.verdict_letter.ensures ∙ ap verdict_letter (has_verdict _ c.requires c.judge.result c.judge.ensures c.in-Ok.is)
