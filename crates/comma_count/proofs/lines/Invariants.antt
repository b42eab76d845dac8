-- `comma_count::lines` meets its contract. The loop's invariant is `Way`; the measure is what is left of the text, of
-- which a turn that goes on takes 1024 lines. Assumes nothing.
use Prim.Native.Nat.{ℕ, ◌-◌, ◌≤◌}
use mathlib.Core.Path.{◌≡◌, sym, ap, ◌∙◌}
use mathlib.Core.Bool.{true}
use mathlib.Core.List.{List}
use native.Mathlib.Omega.{arith}
use lib.IntN.{ℤ, pos}
use lib.ListN.{length, drop, length-replicate, length-take}
use lib.Seq.{length-take-le}
use borrow.Author.Rules.{rules}
use Rattle.sample_items.specs.Limits.{step_in_range}
use Rattle.comma_count.proofs.Way.{Way, Took, way_start, took, never_refused, from, turn_few, turn_within, turn_falls, turn_on, turn_ends}
use Rattle.comma_count.proofs.lines.Given as goal

abbrev pub invariant-loop-f : goal.invariant-loop-f
invariant-loop-f l = (length l.samples ≡ 1024) × Way l.initial.follow l.initial.answer l.text l.follow l.answer l.at

abbrev pub decreases-loop-f : goal.decreases-loop-f
decreases-loop-f l = length l.text - l.at
