-- The bytes of the sheet that are still to come fall; the buffer keeps its length, and a line begun is less than a
-- line, so there is room to read after it.
use Rattle.std.proofs.Common.{◌≡◌, ◌<◌, length}
use Rattle.sheet_line.specs.Form.{longest_sheet_line}
use Rattle.prog_condition.proofs.one.Given as goal

abbrev pub invariant-loop-begun : goal.invariant-loop-begun
invariant-loop-begun l = (length l.text ≡ length l.initial.text) × (l.begun.kept < longest_sheet_line)

abbrev pub decreases-loop-begun : goal.decreases-loop-begun
decreases-loop-begun l = l.begun.coming
