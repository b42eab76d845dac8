-- `sheet_line::standard_fields` meets its contract: the word, then the number. Assumes nothing.
use Rattle.sheet_line.specs.Column.{standard_fields}
use Rattle.sheet_line.proofs.standard_fields.Goals as goal
use mathlib.Core.Path.{sym}
use mathlib.Core.Path.{◌∙◌}

pub returns-then-not-begins : goal.returns-then-not-begins
unfolding standard_fields
returns-then-not-begins c = rw (sym c.begins.ensures ∙ c.if-not-begins.true)

pub returns : goal.returns
unfolding standard_fields
returns c =
    rw (sym c.begins.ensures ∙ c.if-not-begins.false) c.look_at-number.ensures.column_value
