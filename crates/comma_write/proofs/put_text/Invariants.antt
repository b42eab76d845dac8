-- `comma_write::put_text` meets its contract: each line takes itself off what is left of the text.
-- Assumes nothing.
use Prim.Native.Nat.{◌*◌, ◌≤◌}
use lib.ListN.{drop}
use Rattle.text.proofs.Parts.{Left}
use Rattle.comma_line.specs.Text.{text_from, text_of}
use Rattle.comma_write.proofs.put_text.Given as goal

abbrev pub invariant-loop-x : goal.invariant-loop-x
invariant-loop-x l = Left l.initial.out 0 (text_of l.step l.samples) (text_from l.step l.time (drop l.x-index l.samples)) l.out l.at × (l.time ≤ 10000 * l.x-index)
