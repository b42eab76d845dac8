-- `comma_pair::take` meets its contract: what is over, what stands nowhere, or where the lines side by side lead and what
-- is left after them. Assumes nothing.
use Prim.Native.Nat.{◌≤◌, ◌<◌}
use mathlib.Core.Path.{◌≡◌, sym, subst, ◌∙◌}
use mathlib.Core.Bool.{true}
use native.Mathlib.Omega.{arith}
use lib.ListN.{length}
use Rattle.truth.proofs.Laws.{said_no, said_yes}
use Rattle.comma_count.proofs.Piece.{sound_step, sound_lines}
use Rattle.comma_pair.specs.declared.Took.{Took}
use Rattle.comma_pair.specs.Taking.{agreeing, taking}
use Rattle.comma_pair.proofs.Piece.{Spare, spare_ended, both_stand, acceleration_spare, roll_spare, taking_over, taking_broken, taking_ahead, taking_not_ahead, few_lines}
use borrow.Author.Rules.{rules}
use Rattle.comma_pair.proofs.take.Goals as goal
use Rattle.comma_pair.proofs.take.Goals.{After-side_by_side-s, Else-not-sound, Start}

well : (c : Else-not-sound) → let w = c.args.w in agreeing w.roll w.acceleration w.answer ≡ true
well c = (sym c.sound.ensures ∙ c.if-not-sound.false)

well₂ : (c : After-side_by_side-s) → let w = c.args.w in agreeing w.roll w.acceleration w.answer ≡ true
well₂ c = (sym c.sound.ensures ∙ c.if-not-sound.false)

short_roll : (c : After-side_by_side-s) → length c.args.roll.now ≤ 9223372036854775807
short_roll c = search rules

short-acceleration : (c : After-side_by_side-s) → length c.args.acceleration.now ≤ 9223372036854775807
short-acceleration c = search rules

few : (c : After-side_by_side-s) → let s = c.side_by_side-s.result in (s.roll.lines < 18446744073709551615) × (s.acceleration.lines < 18446744073709551615)
few c =
    let w = c.args.w in
    let p = both_stand w.roll w.acceleration w.answer (well₂ c) in
    let l = few_lines w.roll w.acceleration w.answer c.args.roll.now c.args.acceleration.now c.side_by_side-s.ensures.value in
    (omega (arith, l.0, sound_lines w.roll p.0, short_roll c), omega (arith, l.1, sound_lines w.acceleration p.1, short-acceleration c))

-- a promise in its parts
whole : (c : Start) {t u : Took} → let a = c.args in
    t ≡ u → u ≡ taking a.w a.roll.now a.roll_more a.acceleration.now a.acceleration_more → Spare a.roll.now a.acceleration.now u
    → (t ≡ taking a.w a.roll.now a.roll_more a.acceleration.now a.acceleration_more) × Spare a.roll.now a.acceleration.now t
whole c {t} {u} e f s = (e ∙ f, subst (Spare c.args.roll.now c.args.acceleration.now) (sym e) s)

pub returns-then-w : goal.returns-then-w
returns-then-w c =
    let a = c.args in
    let r = whole (goal.at.returns-then-w c).Start c.ended.ensures (taking_over a.w a.roll.now a.roll_more a.acceleration.now
    a.acceleration_more c.if-w.true) (spare_ended a.roll.now a.acceleration.now) in
    record { value = r.0; roll_in_bounds = r.1.0; acceleration_bound = r.1.1 }

pub returns-then-not-sound : goal.returns-then-not-sound
returns-then-not-sound c =
    let a = c.args in
    let broken = (sym c.sound.ensures ∙ c.if-not-sound.true) in
    let r = whole (goal.at.returns-then-not-sound c).Start (c.ended-then-not-sound.ensures ∙ rw c.stopped.ensures)
    (taking_broken a.w a.roll.now a.roll_more a.acceleration.now a.acceleration_more
    c.if-w.false broken) (spare_ended a.roll.now a.acceleration.now) in
    record { value = r.0; roll_in_bounds = r.1.0; acceleration_bound = r.1.1 }

pub side_by_side-s-requires : goal.side_by_side-s-requires
side_by_side-s-requires c =
    let w = c.args.w in
    let p = both_stand w.roll w.acceleration w.answer (well c) in
    (sound_step w.roll p.0, sound_step w.acceleration p.1)

pub acceleration_behind-requires : goal.acceleration_behind-requires
acceleration_behind-requires c =
    (c.side_by_side-s.ensures.at_in_bounds.0, (few (goal.at.acceleration_behind-requires c).After-side_by_side-s).1)

pub returns-then-s : goal.returns-then-s
returns-then-s c =
    let a = c.args in
    let r = whole (goal.at.returns-then-s c).Start c.acceleration_behind.ensures
    (taking_ahead a.w a.roll.now a.roll_more a.acceleration.now a.acceleration_more
    c.if-w.false (well (goal.at.returns-then-s c).Else-not-sound) c.side_by_side-s.ensures.value c.if-s.true
    c.left-rest.ensures.value) (acceleration_spare a.roll.now a.acceleration.now c.side_by_side-s.result
    c.side_by_side-s.ensures.at_in_bounds.0 c.side_by_side-s.ensures.at_in_bounds.1 a.roll_more a.acceleration_more
    c.left-rest.result c.left-rest.ensures.value) in
    record { value = r.0; roll_in_bounds = r.1.0; acceleration_bound = r.1.1 }

pub roll_behind-requires : goal.roll_behind-requires
roll_behind-requires c = (c.side_by_side-s.ensures.at_in_bounds.1, (few (goal.at.roll_behind-requires c).After-side_by_side-s).0)

pub returns : goal.returns
returns c =
    let a = c.args in
    let r = whole (goal.at.returns c).Start c.roll_behind.ensures
    (taking_not_ahead a.w a.roll.now a.roll_more a.acceleration.now a.acceleration_more
    c.if-w.false (well (goal.at.returns c).Else-not-sound) c.side_by_side-s.ensures.value c.if-s.false
    c.left-rest-2.ensures.value) (roll_spare a.roll.now a.acceleration.now c.side_by_side-s.result
    c.side_by_side-s.ensures.at_in_bounds.0 c.side_by_side-s.ensures.at_in_bounds.1 a.acceleration_more a.roll_more
    c.left-rest-2.result c.left-rest-2.ensures.value) in
    record { value = r.0; roll_in_bounds = r.1.0; acceleration_bound = r.1.1 }
