-- `exponential::rows_of` meets its contract. The invariant of its loop is `AfterOf`. Assumes nothing.
use mathlib.Core.Bool.{not}
use lib.Dec.{eqb}
use Rattle.exponential.proofs.Sides.{AfterOf}
use Rattle.exponential.proofs.rows_of.Given as goal

abbrev pub invariant-loop-i : goal.invariant-loop-i
invariant-loop-i g l = AfterOf (not (eqb g.row.UP 0)) l.x l.i l.rest l.p
