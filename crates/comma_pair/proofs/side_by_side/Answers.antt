use Prim.Native.Nat.{ℕ, ◌-◌, ◌≤◌}
use mathlib.Core.Path.{◌≡◌, sym, ap, subst, ◌∙◌}
use mathlib.Core.Bool.{true}
use native.Mathlib.Omega.{arith}
use lib.IntN.{pos}
use lib.ListN.{length, take, drop, length-replicate}
use Rattle.sample_items.specs.Limits.{step_in_range}
use Rattle.comma_stream.specs.declared.Follow.{Follow}
use Rattle.comma_stream.specs.Follow.{after_lines}
use Rattle.comma_count.proofs.Way.{from}
use Rattle.comma_pair.specs.Step.{Both}
use Rattle.comma_pair.proofs.Way.{Way, way_start, way_on, on_within, on_falls, way_ends, step_same}
use borrow.Author.Rules.{rules}
use Rattle.comma_pair.proofs.side_by_side.Goals as goal
use Rattle.comma_pair.proofs.side_by_side.Goals.{After-next_pairs-p, Start}

short_roll : (c : Start) → length c.args.roll.now ≤ 18446744073709551615
short_roll c = search rules

short-acceleration : (c : Start) → length c.args.acceleration.now ≤ 18446744073709551615
short-acceleration c = search rules

-- lines of both were taken
module _ (c : After-next_pairs-p) where
  abbrev w : Way c.args.f c.args.g c.args.before c.args.roll.now
      c.args.acceleration.now c.loop-rolls.r c.loop-rolls.s c.loop-rolls.answer c.loop-rolls.at c.loop-rolls.beside
  w = c.loop-rolls.invariant.4

  taken : Both c.loop-rolls.r c.loop-rolls.s c.loop-rolls.answer (drop c.loop-rolls.at c.args.roll.now) (drop c.loop-rolls.beside c.args.acceleration.now)
      c.next_pairs-p.result.roll c.next_pairs-p.result.acceleration c.next_pairs-p.result.answer
      c.next_pairs-p.result.at c.next_pairs-p.result.beside c.next_pairs-p.result.number
      c.next_pairs-p.result.ahead
  taken =
      let p = c.next_pairs-p.result in
      let x = c.args.roll.now in
      let y = c.args.acceleration.now in
      subst (λ v. Both c.loop-rolls.r c.loop-rolls.s c.loop-rolls.answer (drop c.loop-rolls.at x) v p.roll p.acceleration p.answer p.at p.beside p.number p.ahead)
      (from y c.loop-rolls.beside)
      (subst (λ u. Both c.loop-rolls.r c.loop-rolls.s c.loop-rolls.answer u
      (take (length y - c.loop-rolls.beside) (drop c.loop-rolls.beside y)) p.roll p.acceleration p.answer p.at
      p.beside p.number p.ahead)
      (from x c.loop-rolls.at)
      c.next_pairs-p.ensures)

pub loop-rolls-init : goal.loop-rolls-init
loop-rolls-init c = (length-replicate 1024 (pos 0), length-replicate 1024 (pos 0), omega arith, omega arith, way_start _ _ _ _ _)

pub next_pairs-p-requires : goal.next_pairs-p-requires
next_pairs-p-requires c =
    let w = c.loop-rolls.invariant.4 in
    (ap step_in_range (ap (λ h. h.step) w.roll ∙ step_same _ _) ∙ c.requires.0, ap step_in_range (ap (λ h. h.step) w.acceleration ∙ step_same _ _) ∙ c.requires.1, c.loop-rolls.invariant.0, c.loop-rolls.invariant.1)

pub overflow_add-at : goal.overflow_add-at
overflow_add-at c =
    let k = (goal.at.overflow_add-at c).After-next_pairs-p in
    omega (arith, (on_within (w k) (taken k)).0, short_roll (goal.at.overflow_add-at c).Start)

pub overflow_add-beside : goal.overflow_add-beside
overflow_add-beside c =
    let k = (goal.at.overflow_add-beside c).After-next_pairs-p in
    omega (arith, (on_within (w k) (taken k)).1, short-acceleration (goal.at.overflow_add-beside c).Start)

pub returns-then-p-lt-LINES : goal.returns-then-p-lt-LINES
returns-then-p-lt-LINES c =
    let k = (goal.at.returns-then-p-lt-LINES c).After-next_pairs-p in
    record { value = way_ends (w k) (taken k) c.if-p-lt-LINES.true; at_in_bounds = on_within (w k) (taken k) }

pub loop-rolls-smaller : goal.loop-rolls-smaller
loop-rolls-smaller c =
    let k = (goal.at.loop-rolls-smaller c).After-next_pairs-p in
    on_falls (w k) (taken k) c.if-p-lt-LINES.false

pub loop-rolls-preserved : goal.loop-rolls-preserved
loop-rolls-preserved c =
    let k = (goal.at.loop-rolls-preserved c).After-next_pairs-p in
    (search rules, search rules, (on_within (w k) (taken k)).0, (on_within (w k) (taken k)).1, way_on (w k) (taken k))
