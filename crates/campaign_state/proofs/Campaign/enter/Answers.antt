-- `Campaign::enter` meets its contract: each answer follows from the tests that led to it. Assumes nothing.
use borrow.Author.Tests.{leb-true}
use lib.Dec.{leb}
use Rattle.sample_items.specs.Limits.{longest_time}
use Rattle.truth.proofs.Laws.{and-true, holds}
use Rattle.campaign_state.specs.Answers.{entering}
use Rattle.campaign_state.proofs.Relations.{kept_from}
use Rattle.campaign_state.proofs.Campaign.enter.Goals as goal
use mathlib.Core.Path.{sym}
use mathlib.Core.Path.{◌∙◌}

pub returns-then-not-sound : goal.returns-then-not-sound
unfolding entering
returns-then-not-sound c = rw ((sym c.sound.ensures ∙ c.if-not-sound.true))

pub returns-then-not-both : goal.returns-then-not-both
unfolding entering
returns-then-not-both c =
    rw ((sym c.sound.ensures ∙ c.if-not-sound.false), (sym c.both.ensures ∙ c.if-not-both.true))

pub take-requires : goal.take-requires
take-requires c =
    let s = c.args in
    let e = (sym c.both.ensures ∙ c.if-not-both.false) in (
      kept_from s.self (holds ((sym c.sound.ensures ∙ c.if-not-sound.false))),
      leb-true _ _ (and-true (leb 1 s.o.exposure) (leb s.o.exposure longest_time) e).1,
    )

pub returns : goal.returns
unfolding entering
returns c =
    rw ((sym c.sound.ensures ∙ c.if-not-sound.false), (sym c.both.ensures ∙ c.if-not-both.false)) c.take.ensures
