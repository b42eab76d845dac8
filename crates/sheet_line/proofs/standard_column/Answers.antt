-- `sheet_line::standard_column` meets its contract: the line as a whole goes first. Assumes nothing.
use mathlib.Core.Path.{◌∙◌}
use Rattle.sheet_line.specs.Column.{standard_column}
use Rattle.sheet_line.proofs.standard_column.Goals as goal
use mathlib.Core.Path.{sym}

pub returns-then-not-is_line : goal.returns-then-not-is_line
unfolding standard_column
returns-then-not-is_line c = rw (sym c.is_line.ensures ∙ c.if-not-is_line.true)

pub returns : goal.returns
unfolding standard_column
returns c =
    c.pick.ensures ∙ rw ((sym c.is_line.ensures ∙ c.if-not-is_line.false), c.is_parted.ensures, c.standard_fields.ensures)
