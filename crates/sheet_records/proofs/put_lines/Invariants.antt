-- `sheet_records::put_lines` meets its contract: each line takes itself off what is left of them.
-- Assumes nothing.
use Prim.Native.Nat.{◌+◌}
use lib.ListN.{drop}
use Rattle.text.proofs.Parts.{Left}
use Rattle.sheet_records.specs.Ledger.{lines_from}
use Rattle.sheet_records.proofs.put_lines.Given as goal

abbrev pub invariant-loop-i : goal.invariant-loop-i
invariant-loop-i l = Left l.initial.out l.at (lines_from 1 l.records) (lines_from (l.i + 1) (drop l.i l.records)) l.out l.place
