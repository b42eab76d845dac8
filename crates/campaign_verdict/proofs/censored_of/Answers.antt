-- `campaign_verdict::censored_of` meets its contract. A last record that failed is one of the failures, so the
-- subtraction stays above 0. Assumes nothing.
use borrow.Author.Tests.{eq-eqb, ne_eqb}
use Rattle.campaign_state.specs.State.{censored}
use Rattle.campaign_verdict.proofs.censored_of.Goals as goal

pub returns-then-c-eq0 : goal.returns-then-c-eq0
unfolding censored
returns-then-c-eq0 c = rw (eq-eqb _ _ c.if-c-eq0.true)

pub returns : goal.returns
unfolding censored
returns c = rw (ne_eqb _ _ c.if-c-eq0.false, c.pick.ensures)
