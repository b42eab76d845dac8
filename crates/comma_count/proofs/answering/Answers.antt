-- `comma_count::answering` meets its contract: whether a sample was out of range settles it. Assumes nothing.
use mathlib.Core.Path.{◌≡◌}
use borrow.Author.Rules.{rules}
use borrow.Author.Tests.{eq-eqb, ne_eqb}
use Rattle.comma_count.specs.Taking.{answering}
use Rattle.comma_count.proofs.answering.Goals as goal

pub returns-then-f-eq0 : goal.returns-then-f-eq0
unfolding answering
returns-then-f-eq0 c =
    rw (eq-eqb c.args.f.outside 0 c.if-f-eq0.true) c.onward.ensures

pub returns : goal.returns
unfolding answering
returns c = rw (ne_eqb c.args.f.outside 0 c.if-f-eq0.false)
