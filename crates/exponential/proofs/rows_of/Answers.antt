use mathlib.Core.Path.{◌≡◌}
use mathlib.Core.Bool.{Bool, not, cond}
use Prim.Native.Nat.{◌%◌}
use native.Mathlib.Omega.{arith}
use borrow.Author.Tests.{eq-eqb, ne_eqb}
use lib.Dec.{eqb}
use Rattle.exponential.proofs.Sides.{factors_of, next_fits, none_of, starts_of, times_of, turned_of, whole_of}
use Rattle.exponential.proofs.rows_of.Goals as goal
use Rattle.exponential.proofs.rows_of.Goals.{then-rest-eq1, else-rest-eq1}

pub returns-then-x-ge67108864 : goal.returns-then-x-ge67108864
returns-then-x-ge67108864 g c = none_of (not (eqb g.row.UP 0)) c.args.x (omega arith)

pub loop-i-init : goal.loop-i-init
loop-i-init g c = starts_of (not (eqb g.row.UP 0)) c.args.x

pub overflow_add-r : goal.overflow_add-r
overflow_add-r g c = rw c.row-r.ensures (omega (arith, next_fits (not (eqb g.row.UP 0)) c.loop-i.i c.loop-i-test.true))

pub times-p-requires : goal.times-p-requires
times-p-requires g c =
    rw c.row-r.ensures (factors_of (not (eqb g.row.UP 0)) c.args.x _ _ c.loop-i.p c.loop-i.invariant c.loop-i-test.true)

pub loop-i-preserved : goal.loop-i-preserved
loop-i-preserved g c =
    let l = c.loop-i in
    let up : Bool = not (eqb g.row.UP 0) in
    let e : c.if-rest-eq1.p ≡ cond (eqb (l.rest % 2) 1) (times_of up l.p l.i) l.p =
    elim c.if-rest-eq1.branch [ then-rest-eq1 w ↦ rw (w.p-is, w.times-p.ensures, w.row-r.ensures, eq-eqb _ _ w.if-rest-eq1.true) | else-rest-eq1 w ↦ rw (w.p-is, ne_eqb _ _ w.if-rest-eq1.false) ]
    in
    rw e (turned_of up c.args.x l.i l.rest l.p l.invariant c.loop-i-test.true)

pub returns : goal.returns
returns g c = whole_of (not (eqb g.row.UP 0)) c.args.x _ _ c.loop-i.p c.loop-i.invariant (omega arith) (omega arith)
