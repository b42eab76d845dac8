-- `sheet_line::record_fields` meets its contract: field by field from the left (`Columns`). Assumes nothing.
use Rattle.sheet_line.proofs.Columns.{by_number, by_flag, by_exposure}
use Rattle.sheet_line.proofs.record_fields.Goals as goal

pub returns-then-number-ne0 : goal.returns-then-number-ne0
returns-then-number-ne0 c = by_number _ _ c.look_at-number.ensures.column_value c.if-number-ne0.true

pub returns-then-flag-ne0 : goal.returns-then-flag-ne0
returns-then-flag-ne0 c =
    by_flag _ _ c.look_at-number.ensures.column_value c.if-number-ne0.false c.look_at-number.ensures.next_value c.look_at-flag.ensures.column_value c.if-flag-ne0.true

pub returns : goal.returns
returns c =
    by_exposure _ _ c.look_at-number.ensures.column_value c.if-number-ne0.false c.look_at-number.ensures.next_value c.look_at-flag.ensures.column_value
    c.if-flag-ne0.false c.look_at-flag.ensures.next_value c.look_at-exposure.ensures.column_value
