-- `peak_stream::add` meets its contract, by its test. Assumes nothing.
use borrow.Author.Rules.{rules}
use mathlib.Core.Path.{sym, ap, ◌∙◌}
use native.Mathlib.Omega.{arith}
use mir.Facts.{to_z-of_z}
use Rattle.peak_stream.specs.Reading.{read}
use Rattle.peak_stream.proofs.Bounds.{most_few}
use Rattle.peak_stream.proofs.Passing.{add_yes, add_no}
use Rattle.peak_stream.proofs.add.Goals as goal
use Rattle.peak_stream.proofs.add.Goals.{After-read-next}

pub overflow_add-result : goal.overflow_add-result
overflow_add-result c =
    omega (arith, c.requires.2, c.requires.0, most_few c.args.s.reading.step)

pub returns-then-closes : goal.returns-then-closes
returns-then-closes c = (
  add_yes c.args.s c.args.x c.read-next.result (c.read-next.ensures ∙ ap (read c.args.s.reading) (to_z-of_z c.ranges.x)) (sym c.closes.ensures ∙ c.if-closes.true),
  omega
      arith,
)

pub returns : goal.returns
returns c =
    let b : After-read-next = search rules in (
      add_no c.args.s c.args.x b.read-next.result (b.read-next.ensures ∙ ap (read c.args.s.reading) (to_z-of_z c.ranges.x)) (sym c.closes.ensures ∙ c.if-closes.false),
      omega arith,
    )
