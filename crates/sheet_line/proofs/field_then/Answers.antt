-- `sheet_line::field_then` meets its contract: the field reads as decimal's reader says, and the byte after it is the
-- one asked for, or not. Assumes nothing.
use Prim.Native.Nat.{ℕ}
use mathlib.Core.List.{List}
use mathlib.Core.Path.{◌≡◌, sym, ◌∙◌}
use borrow.Author.Tests.{eq-eqb, ne_eqb}
use lib.ListN.{drop_of_length-le}
use lib.Seq.{drop-cons}
use Rattle.sheet_line.specs.Field.{field_at}
use Rattle.sheet_line.specs.Line.{starts_with, ended_by, field_then}
use Rattle.sheet_line.proofs.field_then.Goals as goal
use Rattle.sheet_line.proofs.field_then.Goals.{After-number_at-field}

abbrev text : After-number_at-field → List ℕ
text c = c.args.text.now

reads : (c : After-number_at-field) → field_at (text c) c.args.at ≡ c.number_at-field.result
reads c = sym c.number_at-field.ensures

pub returns-then-text-next : goal.returns-then-text-next
unfolding field_then ended_by starts_with
returns-then-text-next c =
    rw (reads (goal.at.returns-then-text-next c).After-number_at-field ∙ c.in-Number.is, drop_of_length-le _ c.if-text-next.true)

pub returns-then-text-next-2 : goal.returns-then-text-next-2
unfolding field_then ended_by starts_with
returns-then-text-next-2 c =
    let after-number-at = (goal.at.returns-then-text-next-2 c).After-number_at-field in
    rw (reads after-number-at ∙ c.in-Number.is, drop-cons (text after-number-at) c.in-Number.next 0 c.if-text-next.false, ne_eqb _ _ c.if-text-next-2.true)

pub returns-else-text-next-2 : goal.returns-else-text-next-2
unfolding field_then ended_by starts_with
returns-else-text-next-2 c =
    let after-number-at = (goal.at.returns-else-text-next-2 c).After-number_at-field in
    rw (reads after-number-at ∙ c.in-Number.is, drop-cons (text after-number-at) c.in-Number.next 0 c.if-text-next.false, eq-eqb _ _ c.if-text-next-2.false)
