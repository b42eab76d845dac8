-- `sheet_line::standard_line` meets its contract: each answer follows from the word, the field and the tests that led
-- to it. Assumes nothing.
use mathlib.Core.Path.{◌≡◌, sym, ap, ◌∙◌}
use mathlib.Core.Bool.{true}
use borrow.Author.Tests.{eq-eqb, ne_eqb}
use lib.ListN.{length}
use Rattle.decimal.specs.Field.{line_feed}
use Rattle.sheet_line.specs.declared.Field.TheVariants.{Number}
use Rattle.sheet_line.specs.Form.{standard_start, begins, is_sheet_line}
use Rattle.sheet_line.specs.Line.{field_then, outcome, standard_line}
use Rattle.sheet_line.proofs.Fields.{other_field}
use Rattle.sheet_line.proofs.standard_line.Goals as goal
use Rattle.sheet_line.proofs.standard_line.Goals.{Else-not-begins, Else-not-is_line, In-Number}

-- what is known past each test and the field
within : (c : Else-not-is_line) → is_sheet_line c.args.text.now ≡ true
within c = (sym c.is_line.ensures ∙ c.if-not-is_line.false)

worded : (c : Else-not-begins)
    → begins standard_start c.args.text.now ≡ true
worded c = (sym c.begins.ensures ∙ c.if-not-begins.false)

number : (c : In-Number) → field_then line_feed
    c.args.text.now
    (length standard_start) ≡ Number c.in-Number.q c.in-Number.end
number c =
    sym c.field_then.ensures ∙ c.in-Number.is

pub returns-then-not-is_line : goal.returns-then-not-is_line
unfolding standard_line
returns-then-not-is_line c =
    rw (sym c.is_line.ensures ∙ c.if-not-is_line.true) c.bad_standard.ensures

pub returns-then-not-begins : goal.returns-then-not-begins
unfolding standard_line
returns-then-not-begins c =
    rw (within (goal.at.returns-then-not-begins c).Else-not-is_line, (sym c.begins.ensures ∙ c.if-not-begins.true)) c.bad_standard-then-not-begins.ensures

pub returns-in_default : goal.returns-in_default
unfolding standard_line
returns-in_default c =
    rw (within (goal.at.returns-in_default c).Else-not-is_line, worded (goal.at.returns-in_default c).Else-not-begins, ← c.field_then.ensures) (c.bad_standard-in_default.ensures ∙ sym (other_field c.field_then.result _ _ c.in_default.not-Number))

pub returns-then-end-text : goal.returns-then-end-text
unfolding standard_line
returns-then-end-text c =
    rw (within (goal.at.returns-then-end-text c).Else-not-is_line, worded (goal.at.returns-then-end-text c).Else-not-begins, number (goal.at.returns-then-end-text c).In-Number, ne_eqb _ _ c.if-end-text.true) c.bad_standard-then-end-text.ensures

pub returns : goal.returns
unfolding standard_line
returns c =
    rw (within (goal.at.returns c).Else-not-is_line, worded (goal.at.returns c).Else-not-begins, number (goal.at.returns c).In-Number, eq-eqb _ _ c.if-end-text.false)
    (c.outcome.ensures ∙ ap (outcome 1) c.open.ensures)
