use Rattle.peak_reach.proofs.Dividing.{a_bit, no_bit}
use Rattle.peak_reach.proofs.quotient.Goals as goal
use Rattle.peak_reach.proofs.quotient.Goals.{then-rest-d, else-rest-d}

pub loop-preserved : goal.loop-preserved
loop-preserved c =
    let t = c.loop.invariant in
    let more = c.loop-test.true in
    elim c.if-rest-d.branch [
      | then-rest-d w ↦ rw (w.whole-is, w.rest-is) (no_bit _ _ _ _ _ t more w.if-rest-d.true)
      | else-rest-d w ↦ rw (w.whole-is, w.rest-is) (a_bit _ _ _ _ _ t more w.if-rest-d.false)
    ]
