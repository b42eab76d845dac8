-- `sheet_reply::write_record` meets its contract: a state that keeps its relations has its line, and the line its room
-- or not. Assumes nothing.
use Prim.Native.Nat.{◌+◌, ◌≤◌}
use mathlib.Core.Path.{◌≡◌, refl}
use mathlib.Core.Bool.{true}
use native.Mathlib.Omega.{arith}
use lib.ListN.{length}
use borrow.Author.Tests.{leb-true}
use Rattle.campaign_state.specs.State.{sound}
use Rattle.sheet_reply.specs.Written.{record_text, record_left, record_writing}
use Rattle.sheet_reply.proofs.Few.{record_few}
use Rattle.sheet_reply.proofs.Room.{has_room, no_room, upto}
use mathlib.Core.Path.{ap}
use mathlib.Core.Bool.{not}
use Rattle.sheet_reply.proofs.write_record.Goals as goal
use Rattle.sheet_reply.proofs.write_record.Goals.{Else-not-sound, Joined-not-has_room, else-not-has_room, then-not-has_room+else-not-has_room-2}
use mathlib.Core.Path.{sym}
use mathlib.Core.Path.{◌∙◌}

-- past the first test the state is sound
state : (c : Else-not-sound) → sound c.args.c ≡ true
state c = (sym c.sound.ensures ∙ c.if-not-sound.false)

state₂ : (c : Joined-not-has_room) → sound c.args.c ≡ true
state₂ c = (sym c.sound.ensures ∙ c.if-not-sound.false)

pub returns-then-not-sound : goal.returns-then-not-sound
unfolding record_writing record_left
returns-then-not-sound c =
    rw (sym c.sound.ensures ∙ c.if-not-sound.true) (record { value = refl; out_after = refl })

pub record_length-needed-requires : goal.record_length-needed-requires
record_length-needed-requires c = state (goal.at.record_length-needed-requires c).Else-not-sound

pub returns-then-not-has_room-2 : goal.returns-then-not-has_room-2
unfolding record_writing record_left
returns-then-not-has_room-2 c =
    let a = c.args in
    rw (state (goal.at.returns-then-not-has_room-2 c).Else-not-sound) (let whole = no_room a.out.now a.at (record_text a.c) c.has_room-then-not-has_room.ensures c.record_length-needed.ensures (ap not c.if-not-has_room-2.true) in record { value = whole.0; out_after = whole.1 })

-- either way the line has its room: the most that a line may need, or its own
fits : (c : Joined-not-has_room) → let a = c.args in a.at + length (record_text a.c) ≤ length a.out.now
fits c =
    let a = c.args in
    elim c.if-not-has_room.branch [
      | then-not-has_room+else-not-has_room-2 w ↦ has_room a.out.now a.at (record_text a.c) w.has_room-then-not-has_room.ensures w.record_length-needed.ensures (ap not w.if-not-has_room-2.false)
      | else-not-has_room w ↦ omega (arith, record_few a.c (state₂ c), leb-true (a.at + 30) (length a.out.now) (sym c.has_room.ensures ∙ w.if-not-has_room.false))
    ]

pub put_record-requires : goal.put_record-requires
put_record-requires c = (state (goal.at.put_record-requires c).Else-not-sound, fits (goal.at.put_record-requires c).Joined-not-has_room)

pub returns : goal.returns
unfolding record_writing record_left
returns c =
    rw (state (goal.at.returns c).Else-not-sound) (let whole = upto _ _ (record_text c.args.c) (fits (goal.at.returns c).Joined-not-has_room) (c.put_record.ensures.value, c.put_record.ensures.out_after) in record { value = whole.0; out_after = whole.1 })
