-- `campaign_report::censored` meets its contract: of a state that keeps its relations the campaign answers the count.
-- Assumes nothing.
use Rattle.campaign_verdict.proofs.Given.{count_not_refused, has_count}
use Rattle.campaign_report.proofs.censored.Goals as goal

pub returns-in-Ok : goal.returns-in-Ok
returns-in-Ok c =
    has_count _ c.requires c.censored.ensures c.in-Ok.is

pub returns-in-Err : goal.returns-in-Err
returns-in-Err c =
    absurd (count_not_refused _ c.requires c.censored.ensures c.in-Err.is)
