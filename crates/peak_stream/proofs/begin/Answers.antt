-- `peak_stream::begin` meets its contract, test by test. Assumes nothing.
use mathlib.Core.Path.{sym, ◌∙◌}
use Rattle.peak_stream.specs.Hands.{begun}
use Rattle.peak_stream.proofs.begin.Goals as goal

pub returns-then-not-both : goal.returns-then-not-both
unfolding begun
returns-then-not-both c = rw ((sym c.both.ensures ∙ c.if-not-both.true))

pub returns-then-not-both-2 : goal.returns-then-not-both-2
unfolding begun
returns-then-not-both-2 c =
    rw ((sym c.both.ensures ∙ c.if-not-both.false), (sym c.both-2.ensures ∙ c.if-not-both-2.true))

pub returns : goal.returns
unfolding begun
returns c =
    rw (
      (sym c.both.ensures ∙ c.if-not-both.false),
      (sym c.both-2.ensures ∙ c.if-not-both-2.false),
      c.fresh-reading.ensures,
      c.fresh-envelope.ensures,
    )
