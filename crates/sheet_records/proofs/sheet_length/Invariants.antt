-- `sheet_records::sheet_length` meets its contract: what was added up and what is left are the whole.
-- Assumes nothing.
use mathlib.Core.Path.{◌≡◌}
use Prim.Native.Nat.{◌+◌, ◌*◌, ◌≤◌}
use lib.ListN.{length, drop}
use Rattle.sheet_records.specs.Ledger.{lines_from, sheet_text}
use Rattle.sheet_records.proofs.sheet_length.Given as goal

abbrev pub invariant-loop-i : goal.invariant-loop-i
invariant-loop-i l = (l.total + length (lines_from (l.i + 1) (drop l.i l.records)) ≡ length (sheet_text l.q l.records)) × (l.total ≤ 30 + 44 * l.i)
