-- `sheet_text::line_end` meets its contract. The invariant: the search from i on, over what is left of the 64 bytes,
-- ends where that from `at` on does. What is left falls. Assumes nothing.
use Prim.Native.Nat.{◌+◌, ◌≤◌}
use mathlib.Core.Path.{◌≡◌}
use lib.ListN.{drop}
use Rattle.sheet_line.specs.Form.{longest_sheet_line}
use Rattle.sheet_text.specs.Cut.{cut}
use Rattle.sheet_text.proofs.Lines.{reached}
use Rattle.sheet_text.proofs.line_end.Given as goal

abbrev pub invariant-loop-i : goal.invariant-loop-i
invariant-loop-i l = (l.at ≤ l.i) × (l.i ≤ l.stop) × (reached l.text l.at l.i ≡ l.at + cut longest_sheet_line (drop l.at l.text))
