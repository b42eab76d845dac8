-- `decimal::write_field` meets its contract: where there is room for both, the number, then the byte. Assumes nothing.
use Prim.Native.Nat.{◌+◌, ◌≤◌}
use mathlib.Core.Path.{sym, ◌∙◌}
use mathlib.Core.List.{[], ◌∷◌}
use native.Mathlib.Omega.{arith}
use lib.ListN.{length, length-append}
use borrow.Author.Tests.{leb-true, leb-false}
use Rattle.text.proofs.Laws.{wrote_short}
use Rattle.text.proofs.Parts.{left_all, left_next, left_last}
use Rattle.decimal.specs.Decimal.{digits_of}
use Rattle.decimal.specs.Field.{field_text}
use Rattle.decimal.proofs.write_field.Goals as goal
use Rattle.decimal.proofs.write_field.Goals.{After-has_room, Else-not-has_room, Start}

-- ways back to earlier places of the function
abbrev start : After-has_room → Start
start c = c.before.before.before.before

pub returns-then-not-has_room : goal.returns-then-not-has_room
unfolding field_text
returns-then-not-has_room c =
    let a = c.args in
    let no_room = leb-false _ (length a.out.now) (sym c.has_room.ensures ∙ c.if-not-has_room.true) in
    let whole = wrote_short a.out.now a.at (field_text a.v a.end)
    (omega (arith, length-append (digits_of a.v) (a.end ∷ []))) in record { value = whole.0; out_after = whole.1 }

room : (c : Else-not-has_room) → let a = c.args in a.at + length (field_text a.v a.end) ≤ length a.out.now
unfolding field_text
room c =
    let a = c.args in
    let fits = leb-true _ (length a.out.now) (sym c.has_room.ensures ∙ c.if-not-has_room.false) in
    omega (arith, length-append (digits_of a.v) (a.end ∷ []))

pub returns : goal.returns
unfolding field_text
returns c =
    let else1 = (goal.at.returns c).Else-not-has_room in
    let a = c.args in
    let whole = left_last (left_next (digits_of a.v) (a.end ∷ []) (left_all a.out.now a.at (field_text a.v
    a.end) (room else1)) (c.write_number-next.ensures.value, c.write_number-next.ensures.out_after))
    (c.write_byte.ensures.value, c.write_byte.ensures.out_after) in record { value = whole.0; out_after = whole.1 }
