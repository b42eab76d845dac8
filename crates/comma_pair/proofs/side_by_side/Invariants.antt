-- `comma_pair::side_by_side` meets its contract. The loop's invariant is `Way`; the measure is what is left of the roll,
-- of which a turn that goes on takes 1,024 lines. Assumes nothing.
use Prim.Native.Nat.{ℕ, ◌-◌, ◌≤◌}
use mathlib.Core.Path.{◌≡◌, sym, ap, subst, ◌∙◌}
use mathlib.Core.Bool.{true}
use native.Mathlib.Omega.{arith}
use lib.IntN.{pos}
use lib.ListN.{length, take, drop, length-replicate}
use Rattle.sample_items.specs.Limits.{step_in_range}
use Rattle.comma_stream.specs.declared.Follow.{Follow}
use Rattle.comma_stream.specs.Follow.{after_lines}
use Rattle.comma_count.proofs.Way.{from}
use Rattle.comma_pair.specs.Step.{Both}
use Rattle.comma_pair.proofs.Way.{Way, way_start, way_on, on_within, on_falls, way_ends, step_same}
use borrow.Author.Rules.{rules}
use Rattle.comma_pair.proofs.side_by_side.Given as goal

abbrev pub invariant-loop-rolls : goal.invariant-loop-rolls
invariant-loop-rolls l = (length l.rolls ≡ 1024) × (length l.accelerations ≡ 1024) × (l.at ≤ length l.roll) × (l.beside ≤ length l.acceleration) × Way l.initial.r l.initial.s l.initial.answer l.roll l.acceleration l.r l.s l.answer l.at l.beside

abbrev pub decreases-loop-rolls : goal.decreases-loop-rolls
decreases-loop-rolls l = length l.roll - l.at
