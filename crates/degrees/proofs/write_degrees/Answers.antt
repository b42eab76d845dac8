-- `degrees::write_degrees` meets its contract: the text is written part by part, each taking itself off what is left of
-- it. Assumes nothing.
use mathlib.Core.Path.{◌≡◌}
use mathlib.Core.List.{List, ◌∷◌, ◌++◌}
use Prim.Native.Nat.{ℕ, ◌+◌, ◌/◌, ◌≤◌}
use native.Mathlib.Omega.{arith}
use lib.ListN.{length}
use mir.Facts.{to_z-of_z}
use borrow.Author.Tests.{leb-true, leb-false}
use Rattle.text.proofs.Laws.{wrote_short}
use Rattle.text.proofs.Parts.{Left, left_all, left_next, left_last}
use Rattle.decimal.specs.Decimal.{digits_of}
use Rattle.degrees.specs.Degrees.{point, sign, three_digits, degrees_text}
use Rattle.degrees.proofs.write_degrees.Goals as goal
use Rattle.degrees.proofs.write_degrees.Goals.{After-put_sign-whole}
use mathlib.Core.Path.{sym}
use mathlib.Core.Path.{◌∙◌}

room : (c : After-put_sign-whole) → let a = c.args in a.at + length (degrees_text a.x) ≤ length a.out.now
room c =
    let a = c.args in
    let needed = rw (to_z-of_z c.ranges.x) at c.degrees_length.ensures.value in
    rw (← needed) (leb-true (a.at + c.degrees_length.result) (length a.out.now) (sym c.has_room.ensures ∙ c.if-not-has_room.false))

-- the text in its parts, by the size that was answered
abbrev Tail : After-put_sign-whole → List ℕ
Tail c = point ∷ three_digits c.magnitude-size.result

abbrev Whole : After-put_sign-whole → List ℕ
Whole c = digits_of (c.magnitude-size.result / 1000)

parts : (c : After-put_sign-whole) → let a = c.args in degrees_text a.x ≡ sign a.x ++ (Whole c ++ Tail c)
unfolding degrees_text
parts c = rw (rw (to_z-of_z c.ranges.x) at c.magnitude-size.ensures)

-- of the text at this place, so much is left
abbrev Stands : After-put_sign-whole → List ℕ → List ℕ → ℕ → Type 0
Stands c rest out at = let a = c.args in Left a.out.now a.at (sign a.x ++ (Whole c ++ Tail c)) rest out at

left1 : (c : After-put_sign-whole) → Stands c (Whole c ++ Tail c) c.put_sign-whole.new.out c.put_sign-whole.result
left1 c =
    let a = c.args in
    let signed = c.put_sign-whole.ensures in
    left_next (sign a.x) _ (left_all a.out.now a.at _ (rw (← parts c) (room c))) (rw (to_z-of_z c.ranges.x) at signed.value, rw (to_z-of_z c.ranges.x) at signed.out_after)

pub returns-then-not-has_room : goal.returns-then-not-has_room
returns-then-not-has_room c =
    let a = c.args in
    let needed = rw (to_z-of_z c.ranges.x) at c.degrees_length.ensures.value in
    let short = leb-false _ (length a.out.now) (sym c.has_room.ensures ∙ c.if-not-has_room.true) in
    let whole = wrote_short a.out.now a.at (degrees_text a.x) (omega (arith, needed)) in
    record { value = whole.0; out_after = whole.1 }

pub returns : goal.returns
returns c =
    let p = (goal.at.returns c).After-put_sign-whole in
    let number = c.write_number-point.ensures in
    let decimals = c.put_decimals.ensures in
    let left2 = left_next (Whole p) (Tail p) (left1 p) (number.value, number.out_after) in
    let whole = left_last left2 (decimals.value, decimals.out_after) in
    rw (parts p) (record { value = whole.0; out_after = whole.1 })
