use mathlib.Core.Path.{refl}
use native.Mathlib.Omega.{arith}
use lib.Dec.{lit<}
use Rattle.logarithm.proofs.Figure.{equal_near}
use Rattle.logarithm.proofs.Turn.{ends, figure_fits, starts, turn}
use Rattle.logarithm.proofs.log2.Goals as goal
use Rattle.logarithm.proofs.log2.Goals.{then-b-eq0-via-then-b-eq0, then-b-eq0-via-else-b-eq0+then-a-b}

pub returns-then-b-eq0 : goal.returns-then-b-eq0
returns-then-b-eq0 c =
    elim c.then-b-eq0.branch [
      | then-b-eq0-via-then-b-eq0 w ↦ record { near = λ h l. absurd (omega arith); no_ratio = λ h. refl; below_one = λ h. refl; bound = lit< tt }
      | then-b-eq0-via-else-b-eq0+then-a-b w ↦ record { near = λ h l. equal_near _ _ h (omega arith); no_ratio = λ h. refl; below_one = λ h. refl; bound = lit< tt }
    ]

pub loop-init : goal.loop-init
loop-init c = starts _ _ _ _ (omega arith) (omega arith) (omega arith) c.scale-m.ensures

pub loop-preserved : goal.loop-preserved
loop-preserved c = rw c.pick-x.ensures (turn _ _ _ _ _ c.loop.invariant (omega arith))

pub returns : goal.returns
returns c =
    let s = c.loop.invariant in
    record {
      near = λ h l. ends _ _ _ _ _ s (omega arith) (omega arith);
      no_ratio = λ h. absurd (omega arith);
      below_one = λ h. absurd (omega arith);
      bound = figure_fits _ _ _ _ _ s;
    }
