-- `campaign_verdict::low` meets its contract: the row's promise allows one answer, which is l(N). Assumes nothing.
use Rattle.poisson.specs.Tables.{l}
use Rattle.poisson.proofs.Rows.{lower_met}
use Rattle.poisson.proofs.Unique.{lower_row_unique}
use Rattle.campaign_verdict.proofs.low.Goals as goal

pub returns : goal.returns
returns c = let n = c.args.c.failures in let e = c.lower_row.ensures in (lower_row_unique n c.lower_row.result (l n) e (lower_met n), e.bound)
