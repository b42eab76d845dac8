-- `campaign_condition::said` meets its contract: the verdict that is answered is the campaign's only one. Assumes
-- nothing.
use mathlib.Core.Path.{ap, sym, ◌∙◌}
use Rattle.campaign_verdict.proofs.Only.{only}
use Rattle.campaign_condition.specs.declared.Told.{Told}
use Rattle.campaign_condition.specs.Standing.{accepted, acceptance, holds_in, rejected, rejection}
use Rattle.campaign_condition.proofs.said.Goals as goal
use Rattle.refusal.specs.declared.Refusal.{Refusal}
use Rattle.campaign_verdict.specs.declared.Verdict.{Verdict}
use Rattle.std.specs.Prelude.{Result}

pub returns-in-Ok : goal.returns-in-Ok
unfolding rejected accepted
returns-in-Ok c =
    let is = sym c.in-Ok.is ∙ only _ _ c.judge.ensures in
    rw (c.rejection.ensures ∙ ap (holds_in rejection) is, c.acceptance.ensures ∙ ap (holds_in acceptance) is)

pub returns-in-Err : goal.returns-in-Err
unfolding rejected accepted
returns-in-Err c =
    let is = sym c.in-Err.is ∙ only _ _ c.judge.ensures in
    let tells : Result Verdict Refusal → Told = λ j. record { rejected = holds_in rejection j; accepted = holds_in acceptance j } in
    ap tells is
