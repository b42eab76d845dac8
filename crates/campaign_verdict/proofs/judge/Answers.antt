-- `campaign_verdict::judge` meets its contract: each answer follows from the tests that led to it. Assumes nothing.
use native.Mathlib.Omega.{arith}
use Rattle.truth.proofs.Laws.{holds}
use Rattle.campaign_state.proofs.Relations.{kept_from}
use Rattle.campaign_verdict.proofs.judge.Goals as goal
use mathlib.Core.Path.{sym}
use mathlib.Core.Path.{◌∙◌}

pub weigh-requires : goal.weigh-requires
weigh-requires c =
    (kept_from _ (holds ((sym c.sound.ensures ∙ c.if-not-sound.false))), omega arith)
