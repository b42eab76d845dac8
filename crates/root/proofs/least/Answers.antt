-- `root::least` meets its contract: what was found is the least such number (`Rounding`), which is the only one.
-- Assumes nothing.
use mathlib.Core.Path.{◌≡◌, sym}
use native.Mathlib.Omega.{arith}
use Rattle.root.proofs.First.{least_root_lem, no_root, only_least}
use Rattle.root.proofs.Rounding.{least_of, rounded}
use Rattle.root.proofs.least.Goals as goal

pub returns-then-p-eq0 : goal.returns-then-p-eq0
returns-then-p-eq0 c = let e : c.args.p ≡ 0 = c.if-p-eq0.true in rw e (sym (no_root c.args.a))

pub returns : goal.returns
returns c =
    let a = c.args in
    only_least (least_of (rw c.div_ceil.ensures (rounded a.a a.p (omega arith))) c.root_of.ensures) (least_root_lem a.a a.p (omega arith))
