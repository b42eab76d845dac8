-- `campaign_verdict::rate` meets its contract: each answer follows from the tests that led to it. Assumes nothing.
use mathlib.Core.Path.{ap}
use mathlib.Core.Bool.{true}
use borrow.Author.Tests.{eq-eqb, ne_eqb}
use Rattle.truth.proofs.Laws.{holds}
use Rattle.campaign_verdict.specs.Answers.{rating}
use Rattle.campaign_state.proofs.Relations.{kept_from}
use Rattle.campaign_verdict.proofs.rate.Goals as goal
use mathlib.Core.Path.{sym}
use mathlib.Core.Path.{◌∙◌}
use Rattle.std.specs.Prelude.{Ok, Some}

pub returns-then-not-sound : goal.returns-then-not-sound
unfolding rating
returns-then-not-sound c = rw ((sym c.sound.ensures ∙ c.if-not-sound.true))

pub returns-then-c-eq0 : goal.returns-then-c-eq0
unfolding rating
returns-then-c-eq0 c =
    rw ((sym c.sound.ensures ∙ c.if-not-sound.false), eq-eqb _ _ c.if-c-eq0.true)

pub three-requires : goal.three-requires
three-requires c =
    kept_from _ (holds ((sym c.sound.ensures ∙ c.if-not-sound.false)))

pub returns : goal.returns
unfolding rating
returns c =
    rw ((sym c.sound.ensures ∙ c.if-not-sound.false), ne_eqb _ _ c.if-c-eq0.false) (ap (λ r. Ok (Some r)) c.three.ensures)
