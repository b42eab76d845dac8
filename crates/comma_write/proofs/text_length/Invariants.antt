-- `comma_write::text_length` meets its contract: what was added up and what is left are the whole.
-- Assumes nothing.
use mathlib.Core.Path.{◌≡◌}
use Prim.Native.Nat.{◌+◌, ◌*◌, ◌≤◌}
use lib.ListN.{length, drop}
use Rattle.comma_line.specs.Text.{text_from, text_of}
use Rattle.comma_write.proofs.text_length.Given as goal

abbrev pub invariant-loop-x : goal.invariant-loop-x
invariant-loop-x l = (l.total + length (text_from l.step l.time (drop l.x-index l.samples)) ≡ length (text_of l.step l.samples)) × (l.total ≤ 34 * l.x-index) × (l.time ≤ 10000 * l.x-index)
