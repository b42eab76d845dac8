-- `peak_tail::sum_of_largest` meets its contract: the values sorted hold no 0 either, so the k-th is at least 1.
-- Assumes nothing.
use mathlib.Core.Path.{sym, ◌∙◌}
use native.Mathlib.Omega.{arith}
use Rattle.peak_tail.proofs.Bad.{some_at}
use Rattle.peak_tail.proofs.sum_of_largest.Goals as goal

pub returns : goal.returns
returns c =
    let s = c.sort in
    let pre = c.requires in (
      s.ensures,
      c.sum_of_first.ensures.sums s.ensures.downwards
          (some_at s.new.s (sym (s.ensures.same 0) ∙ pre.3) _ (omega (arith, s.auto.s))),
    )
