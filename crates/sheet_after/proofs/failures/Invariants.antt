-- `sheet_after::failures` meets its contract: what is counted and what is left come to all (`So`). Assumes nothing.
use lib.ListN.{length}
use Rattle.sheet_after.proofs.Failing.{So}
use Rattle.sheet_after.proofs.failures.Given as goal

abbrev pub invariant-loop-record : goal.invariant-loop-record
invariant-loop-record l = So l.records l.n l.record-index
