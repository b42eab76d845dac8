-- `sheet_records::judge` meets its contract. The invariant is `Along`: what is judged of all records is what is judged
-- of those left. Assumes nothing.
use Rattle.sheet_records.proofs.Judging.{Along}
use Rattle.sheet_records.proofs.judge.Given as goal

abbrev pub invariant-loop-i : goal.invariant-loop-i
invariant-loop-i l = Along l.q l.records l.i l.failures
