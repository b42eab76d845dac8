-- `peak_tail::copy` meets its contract: nothing is left once the loop is over. Assumes nothing.
use mathlib.Core.Path.{◌∙◌}
use native.Mathlib.Nat.{zero-add}
use native.Mathlib.Omega.{arith}
use lib.ListN.{drop_of_length-le}
use lib.Seq.{sets-eq}
use Rattle.peak_tail.proofs.copy.Goals as goal

pub returns : goal.returns
returns c =
    let a = c.args in
    let l = c.loop-i in
    let p = a.peaks.now in
    rw (drop_of_length-le p {i = l.i} (omega arith)) at l.invariant.1
    ∙ sets-eq p a.to.now 0 (omega arith)
    ∙ rw zero-add
