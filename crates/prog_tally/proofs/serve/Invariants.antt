-- A line begun is less than a line, so there is room to read after it.
use Rattle.std.proofs.Common.{◌≡◌, ◌<◌, length}
use Rattle.sheet_line.specs.Form.{longest_sheet_line}
use Rattle.prog_tally.proofs.serve.Given as goal

abbrev pub invariant-loop : goal.invariant-loop
invariant-loop l = (length l.text ≡ length l.initial.text) × (l.begun.kept < longest_sheet_line)
