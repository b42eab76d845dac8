-- `record_feed::step_all` meets its contract: the samples up to the first timed one at once, the others by `run`.
-- Assumes nothing.
use borrow.Author.Rules.{rules}
use Prim.Native.Nat.{◌+◌, ◌-◌, ◌≤◌}
use mathlib.Core.Path.{◌≡◌, sym, ap, ◌∙◌}
use mathlib.Core.List.{foldl}
use native.Mathlib.Omega.{arith}
use lib.ListN.{drop, length, length-drop}
use lib.Seq.{take_all}
use Rattle.sample_channels.specs.Channels.{moments}
use Rattle.sample_channels.proofs.Moments.{moments_length, moments_drop}
use Rattle.record_step.specs.Step.{moved, stepped}
use Rattle.record_feed.proofs.Ramp.{led, led_good, led_on, led_sound}
use Rattle.record_state.proofs.Relations.{kept_from}
use Rattle.record_state.proofs.Bounds.{small}
use Rattle.record_feed.proofs.step_all.Goals as goal
use Rattle.record_feed.proofs.step_all.Goals.{Start}

pub moved-s-requires : goal.moved-s-requires
moved-s-requires c =
    omega (arith, c.requires.0.room, small (kept_from c.args.r c.requires.0.state), c.leading-lead.ensures)

pub returns-then-lead-roll : goal.returns-then-lead-roll
returns-then-lead-roll c =
    let start : Start = search rules in let a = start in
    let r = a.args.r in
    let xs = a.args.roll.now in
    let ys = a.args.acceleration.now in
    let p = moments xs ys in
    let k : length p ≡ length xs = moments_length xs ys a.requires.0.equal in
    let j = c.leading-lead.result in
    let l = c.leading-lead.ensures in
    c.moved-s.ensures ∙ ap (moved r j) c.moment_at-x.ensures ∙ sym (led r p j (omega arith) (omega arith) (omega arith)) ∙ ap (foldl stepped r) (take_all j p (omega arith))

pub run-requires-2 : goal.run-requires-2
run-requires-2 c =
    let d = c.before.before.before in let b = d.before.before.before in
    let a = b.before in
    let r = a.args.r in
    let xs = a.args.roll.now in
    let ys = a.args.acceleration.now in
    let p = moments xs ys in
    let k : length p ≡ length xs = moments_length xs ys a.requires.0.equal in
    let j = b.leading-lead.result in
    let l = b.leading-lead.ensures in
    let s = d.moved-s.ensures ∙ ap (moved r j) d.moment_at-x.ensures in
    let e = take_all (length xs - j) (drop j xs) (omega (arith, length-drop j xs)) in
    let f = take_all (length ys - j) (drop j ys) (omega (arith, length-drop j ys)) in
    let i : r.n + j ≤ r.items.ramp + 1 = omega arith in
    rw (s, e, f) (
      record {
        state = led_sound r p j (omega arith) (omega arith) i a.requires.0.good a.requires.0.state (omega (arith, a.requires.0.room));
        equal = omega (arith, a.requires.0.equal, length-drop j xs, length-drop j ys);
        good = rw (moments_drop j xs ys) (led_good r p j (omega arith) (omega arith) i a.requires.0.good);
        room = omega (arith, a.requires.0.room, length-drop j xs);
        short = omega (arith, a.requires.0.short, length-drop j xs);
      },
      omega arith,
    )

pub returns : goal.returns
returns c =
    let start : Start = search rules in let a = start in
    let r = a.args.r in
    let xs = a.args.roll.now in
    let ys = a.args.acceleration.now in
    let p = moments xs ys in
    let k : length p ≡ length xs = moments_length xs ys a.requires.0.equal in
    let j = c.leading-lead.result in
    let l = c.leading-lead.ensures in
    let s = c.moved-s.ensures ∙ ap (moved r j) c.moment_at-x.ensures in
    let e = take_all (length xs - j) (drop j xs) (omega (arith, length-drop j xs)) in
    let f = take_all (length ys - j) (drop j ys) (omega (arith, length-drop j ys)) in
    c.run-2.ensures ∙ rw (s, e, f, moments_drop j xs ys) (led_on r p j (omega arith) (omega arith) (omega arith))
