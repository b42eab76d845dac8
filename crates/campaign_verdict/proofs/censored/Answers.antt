-- `campaign_verdict::censored` meets its contract: a sound state is counted, a broken one refused. Assumes nothing.
use mathlib.Core.Path.{ap}
use Rattle.truth.proofs.Laws.{holds}
use Rattle.campaign_verdict.specs.Answers.{counting}
use Rattle.campaign_state.proofs.Relations.{kept_from}
use Rattle.campaign_verdict.proofs.censored.Goals as goal
use mathlib.Core.Path.{sym}
use mathlib.Core.Path.{◌∙◌}
use Rattle.std.specs.Prelude.{Ok}

pub returns-then-not-sound : goal.returns-then-not-sound
unfolding counting
returns-then-not-sound c = rw ((sym c.sound.ensures ∙ c.if-not-sound.true))

pub censored_of-requires : goal.censored_of-requires
censored_of-requires c = kept_from _ (holds ((sym c.sound.ensures ∙ c.if-not-sound.false)))

pub returns : goal.returns
unfolding counting
returns c =
    rw ((sym c.sound.ensures ∙ c.if-not-sound.false)) (ap Ok c.censored_of.ensures)
