-- `decimal::end_line` meets its contract: one field, or, where there is room for both, the one and then the other.
-- Assumes nothing.
use mathlib.Core.Path.{◌≡◌, sym, ◌∙◌}
use Prim.Native.Nat.{ℕ, ◌+◌, ◌≤◌}
use native.Mathlib.Omega.{arith}
use lib.ListN.{length, length-append}
use borrow.Author.Tests.{leb-true, leb-false}
use Rattle.std.specs.Prelude.{Some}
use Rattle.text.proofs.Laws.{wrote_short}
use Rattle.text.proofs.Parts.{left_all, left_next, left_last}
use Rattle.decimal.specs.Decimal.{digits_of}
use Rattle.decimal.specs.Field.{tab, line_feed, ending, field_text}
use Rattle.decimal.proofs.end_line.Goals as goal

-- how many bytes two fields have
ending_length : (number more : ℕ) → length (ending number (Some more)) ≡ length (digits_of number) + length (digits_of more) + 2
unfolding ending field_text
ending_length number more = simp length-append (omega arith)

pub returns-in_default : goal.returns-in_default
unfolding ending
returns-in_default c = rw c.in_default.is (record { value = c.write_field.ensures.value; out_after = c.write_field.ensures.out_after })

pub returns-then-not-has_room : goal.returns-then-not-has_room
returns-then-not-has_room c =
    let a = c.args in
    let no_room = leb-false _ (length a.out.now) (sym c.has_room.ensures ∙ c.if-not-has_room.true) in
    let whole = wrote_short a.out.now a.at (ending a.number (Some c.in-Some.value))
    (omega (arith, ending_length a.number c.in-Some.value)) in
    rw c.in-Some.is (record { value = whole.0; out_after = whole.1 })

pub returns : goal.returns
unfolding ending
returns c =
    let a = c.args in
    let more = c.in-Some.value in
    let fits = leb-true _ (length a.out.now) (sym c.has_room.ensures ∙ c.if-not-has_room.false) in
    let room : a.at + length (ending a.number (Some more)) ≤ length a.out.now = omega (arith, ending_length a.number more) in
    let first = c.write_field-next.ensures in
    let second = c.write_field-2.ensures in
    let left = left_next (field_text a.number tab) (field_text more line_feed)
    (left_all a.out.now a.at (ending a.number (Some more)) room) (first.value, first.out_after) in
    let whole = left_last left (second.value, second.out_after) in
    rw c.in-Some.is (record { value = whole.0; out_after = whole.1 })
