-- `campaign_verdict::high` meets its contract: the row's promise allows one answer, which is u(N*). Assumes nothing.
use mathlib.Core.Path.{ap, ◌∙◌}
use Rattle.poisson.specs.Tables.{u}
use Rattle.poisson.proofs.Rows.{upper_met}
use Rattle.poisson.proofs.Unique.{upper_row_unique}
use Rattle.campaign_verdict.proofs.high.Goals as goal

pub returns : goal.returns
returns c = let n = c.censored_of.result in let e = c.upper_row.ensures in
    (upper_row_unique n c.upper_row.result (u n) e (upper_met n) ∙ ap u c.censored_of.ensures, e.bound)
