-- `sheet_line::record_line` meets its contract: the line is taken apart field by field, and each answer follows from
-- the fields and tests that led to it. A campaign that keeps its relations has few enough records for the line's number
-- to fit. Assumes nothing.
use Prim.Native.Nat.{ℕ}
use mathlib.Core.Path.{◌≡◌, sym, ap, ◌∙◌}
use mathlib.Core.Bool.{true}
use mathlib.Core.List.{List}
use native.Mathlib.Omega.{arith}
use Rattle.truth.proofs.Laws.{holds}
use Rattle.campaign_state.proofs.Relations.{kept_from}
use Rattle.decimal.specs.Field.{tab, line_feed}
use Rattle.sheet_line.specs.declared.Field.TheVariants.{Number}
use Rattle.sheet_line.specs.Form.{is_sheet_line}
use Rattle.sheet_line.specs.Line.{field_then, is_record, line_after, outcome, record_line}
use Rattle.sheet_line.proofs.Fields.{other_field}
use Rattle.sheet_line.proofs.record_line.Goals as goal
use Rattle.sheet_line.proofs.record_line.Goals.{After-both-2, Else-not-is_line, In-Number, In-Number-field_then, In-Number-field_then-2}

-- a field's number, and the place after it
abbrev Found : Type 0
Found = ℕ × ℕ

-- what is known past each
abbrev Text : Else-not-is_line → List ℕ
Text c = c.args.text.now

abbrev Text₂ : In-Number → List ℕ
Text₂ c = c.args.text.now

abbrev Text₃ : In-Number-field_then → List ℕ
Text₃ c = c.args.text.now

abbrev Text₄ : In-Number-field_then-2 → List ℕ
Text₄ c = c.args.text.now

abbrev Text₅ : After-both-2 → List ℕ
Text₅ c = c.args.text.now

abbrev number : In-Number → Found
number c = (c.in-Number.number, c.in-Number.second)

abbrev number₂ : In-Number-field_then → Found
number₂ c = (c.in-Number.number, c.in-Number.second)

abbrev number₃ : After-both-2 → Found
number₃ c = (c.in-Number.number, c.in-Number.second)

abbrev flag : In-Number-field_then → Found
flag c = (c.in-Number-field_then.flag, c.in-Number-field_then.third)

abbrev flag₂ : In-Number-field_then-2 → Found
flag₂ c = (c.in-Number-field_then.flag, c.in-Number-field_then.third)

abbrev flag₃ : After-both-2 → Found
flag₃ c = (c.in-Number-field_then.flag, c.in-Number-field_then.third)

abbrev exposure : In-Number-field_then-2 → Found
exposure c = (c.in-Number-field_then-2.exposure, c.in-Number-field_then-2.end)

abbrev exposure₂ : After-both-2 → Found
exposure₂ c = (c.in-Number-field_then-2.exposure, c.in-Number-field_then-2.end)

within : (c : Else-not-is_line) → is_sheet_line (Text c) ≡ true
within c = (sym c.is_line.ensures ∙ c.if-not-is_line.false)

first : (c : In-Number) → field_then tab (Text₂ c) 0 ≡ Number (number c).0 (number c).1
first c = sym c.field_then.ensures ∙ c.in-Number.is

second : (c : In-Number-field_then) → field_then tab (Text₃ c) (number₂ c).1 ≡ Number (flag c).0 (flag c).1
second c = sym c.field_then-2.ensures ∙ c.in-Number-field_then.is

third : (c : In-Number-field_then-2) → field_then line_feed (Text₄ c) (flag₂ c).1 ≡ Number (exposure c).0 (exposure c).1
third c = sym c.field_then-3.ensures ∙ c.in-Number-field_then-2.is

tests : (c : After-both-2) → is_record c.args.c (Text₅ c) (number₃ c).0 (flag₃ c).0 (exposure₂ c).1 ≡ c.both-2.result
tests c = cc

pub returns-then-not-is_line : goal.returns-then-not-is_line
unfolding record_line
returns-then-not-is_line c =
    rw (sym c.is_line.ensures ∙ c.if-not-is_line.true) c.bad_record.ensures

pub returns-in_default : goal.returns-in_default
unfolding record_line
returns-in_default c =
    rw (within (goal.at.returns-in_default c).Else-not-is_line, ← c.field_then.ensures) (c.bad_record-in_default.ensures ∙ sym (other_field c.field_then.result _ _ c.in_default.not-Number))

pub returns-in_default-field_then : goal.returns-in_default-field_then
unfolding record_line
returns-in_default-field_then c =
    rw (within (goal.at.returns-in_default-field_then c).Else-not-is_line, first (goal.at.returns-in_default-field_then c).In-Number, ← c.field_then-2.ensures) (c.bad_record-in_default-field_then.ensures ∙ sym (other_field c.field_then-2.result _ _ c.in_default-field_then.not-Number))

pub returns-in_default-field_then-2 : goal.returns-in_default-field_then-2
unfolding record_line
returns-in_default-field_then-2 c =
    rw (within (goal.at.returns-in_default-field_then-2 c).Else-not-is_line, first (goal.at.returns-in_default-field_then-2 c).In-Number, second (goal.at.returns-in_default-field_then-2 c).In-Number-field_then, ← c.field_then-3.ensures)
    (c.bad_record-in_default-field_then-2.ensures ∙ sym (other_field c.field_then-3.result _ _ c.in_default-field_then-2.not-Number))

pub overflow_add-c : goal.overflow_add-c
overflow_add-c c =
    omega (arith, (kept_from c.args.c (holds c.requires)).records)

pub returns-then-not-both : goal.returns-then-not-both
unfolding record_line
returns-then-not-both c =
    rw (within (goal.at.returns-then-not-both c).Else-not-is_line, first (goal.at.returns-then-not-both c).In-Number, second (goal.at.returns-then-not-both c).In-Number-field_then, third (goal.at.returns-then-not-both c).In-Number-field_then-2, (sym (sym (tests (goal.at.returns-then-not-both c).After-both-2)) ∙ c.if-not-both.true)) c.bad_record-then-not-both.ensures

pub overflow_add-c-2 : goal.overflow_add-c-2
overflow_add-c-2 c =
    omega (arith, (kept_from c.args.c (holds c.requires)).records)

pub returns : goal.returns
unfolding record_line
returns c =
    rw (within (goal.at.returns c).Else-not-is_line, first (goal.at.returns c).In-Number, second (goal.at.returns c).In-Number-field_then, third (goal.at.returns c).In-Number-field_then-2, (sym (sym (tests (goal.at.returns c).After-both-2)) ∙ c.if-not-both.false))
    (c.outcome.ensures ∙ ap (outcome (line_after c.args.c)) c.tell.ensures)
