-- `comma_word::bytes_at` meets its contract: the tests one by one. Assumes nothing.
use mathlib.Core.Path.{◌≡◌, sym, ◌∙◌}
use mathlib.Core.Bool.{true, false}
use mathlib.Core.List.{List}
use Prim.Native.Nat.{ℕ, ◌+◌}
use borrow.Author.Tests.{eq-eqb, ne_eqb}
use lib.Dec.{eqb, leb}
use lib.ListN.{length}
use Rattle.degrees.specs.Degrees.{point}
use Rattle.comma_word.specs.Plain.{byte_at, plain_bytes}
use Rattle.comma_word.proofs.bytes_at.Goals as goal
use Rattle.comma_word.proofs.bytes_at.Goals.{After-is_long, After-is_short, Else-not-has_room}

has : (c : Else-not-has_room) → let a = c.args in leb (a.at + 7) (length a.s.now) ≡ true
has c = (sym c.has_room.ensures ∙ c.if-not-has_room.false)

pub returns-then-not-has_room : goal.returns-then-not-has_room
unfolding plain_bytes
returns-then-not-has_room c = rw (sym c.has_room.ensures ∙ c.if-not-has_room.true)

-- with a point after two bytes
module _ (c : After-is_long) where
  two : eqb (byte_at c.args.s.now c.args.at 2) point ≡ true
  two = eq-eqb _ point c.if-s-at-eq-POINT.true

pub returns-then-is_long : goal.returns-then-is_long
unfolding plain_bytes
returns-then-is_long c =
    let else1 = (goal.at.returns-then-is_long c).Else-not-has_room in
    rw (has else1, two (goal.at.returns-then-is_long c).After-is_long, sym c.is_long.ensures ∙ c.if-is_long.true)

pub returns-then-s-at-eq-POINT : goal.returns-then-s-at-eq-POINT
unfolding plain_bytes
returns-then-s-at-eq-POINT c =
    let else1 = (goal.at.returns-then-s-at-eq-POINT c).Else-not-has_room in
    rw (has else1, two (goal.at.returns-then-s-at-eq-POINT c).After-is_long, sym c.is_long.ensures ∙ c.if-is_long.false)

-- with none there, and one after the first byte
module _ (c : After-is_short) where
  abbrev S : List ℕ
  S = c.args.s.now

  abbrev At : ℕ
  At = c.args.at

  not-two : eqb (byte_at S At 2) point ≡ false
  not-two = ne_eqb _ point c.if-s-at-eq-POINT.false

  one : eqb (byte_at S At 1) point ≡ true
  one = eq-eqb _ point c.if-s-at-eq-POINT-2.true

pub returns-then-is_short : goal.returns-then-is_short
unfolding plain_bytes
returns-then-is_short c =
    let else1 = (goal.at.returns-then-is_short c).Else-not-has_room in
    rw (has else1, not-two (goal.at.returns-then-is_short c).After-is_short, one (goal.at.returns-then-is_short c).After-is_short, sym c.is_short.ensures ∙ c.if-is_short.true)

pub returns-then-s-at-eq-POINT-2 : goal.returns-then-s-at-eq-POINT-2
unfolding plain_bytes
returns-then-s-at-eq-POINT-2 c =
    let else1 = (goal.at.returns-then-s-at-eq-POINT-2 c).Else-not-has_room in
    rw (has else1, not-two (goal.at.returns-then-s-at-eq-POINT-2 c).After-is_short, one (goal.at.returns-then-s-at-eq-POINT-2 c).After-is_short, sym c.is_short.ensures ∙ c.if-is_short.false)

pub returns : goal.returns
unfolding plain_bytes
returns c =
    let b = (goal.at.returns c).Else-not-has_room in let a = c.args in
    let s = a.s.now in
    let at = a.at in
    rw (has b, ne_eqb (byte_at s at 2) point c.if-s-at-eq-POINT.false, ne_eqb (byte_at s at 1) point c.if-s-at-eq-POINT-2.false)
