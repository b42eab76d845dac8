-- `comma_word::size_at` meets its contract: the form is chosen by the bytes, once there is room. Assumes nothing.
use mathlib.Core.Path.{◌≡◌}
use mathlib.Core.Bool.{true}
use Prim.Native.Nat.{◌+◌}
use borrow.Author.Tests.{eq-eqb, ne_eqb}
use lib.Dec.{leb}
use lib.ListN.{length}
use Rattle.comma_word.specs.Plain.{plain_size}
use Rattle.comma_word.proofs.size_at.Goals as goal
use Rattle.comma_word.proofs.size_at.Goals.{Else-not-has_room}
use mathlib.Core.Path.{sym}
use mathlib.Core.Path.{◌∙◌}

has : (c : Else-not-has_room) → let a = c.args in leb (a.at + 7) (length a.s.now) ≡ true
has c = (sym c.has_room.ensures ∙ c.if-not-has_room.false)

pub returns-then-not-has_room : goal.returns-then-not-has_room
unfolding plain_size
returns-then-not-has_room c = rw (sym c.has_room.ensures ∙ c.if-not-has_room.true)

pub returns-then-bytes-eq5 : goal.returns-then-bytes-eq5
unfolding plain_size
returns-then-bytes-eq5 c = rw (has (goal.at.returns-then-bytes-eq5 c).Else-not-has_room, eq-eqb _ 5 c.if-bytes-eq5.true) c.short_size.ensures

pub returns : goal.returns
unfolding plain_size
returns c = rw (has (goal.at.returns c).Else-not-has_room, ne_eqb _ 5 c.if-bytes-eq5.false) c.long_size.ensures
