use native.Mathlib.Omega.{arith}
use Rattle.peak_tail.proofs.Summing.{ends, goes_on, starts}
use Rattle.peak_tail.proofs.sum_of_first.Goals as goal

pub loop-i-init : goal.loop-i-init
loop-i-init c = starts _ _

pub loop-i-preserved : goal.loop-i-preserved
loop-i-preserved c =
    let l = c.loop-i in
    goes_on _ _ _ _ l.invariant c.requires.1 _ (omega arith) c.log2-sum.ensures

pub returns : goal.returns
returns c =
    ends _ _ _ _ c.loop-i.invariant c.requires.1 (omega arith) (omega arith)
