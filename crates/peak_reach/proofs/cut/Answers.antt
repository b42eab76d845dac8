-- `peak_reach::cut` meets its contract (`Product`): far off any number that is within serves, and near by the two parts
-- are exact. Assumes nothing.
use Prim.Native.Nat.{◌*◌, ◌^◌}
use native.Mathlib.Nat.{mod-eq_of_lt}
use native.Mathlib.Omega.{arith}
use Rattle.peak_reach.proofs.Product.{far_shift, far_time, far_within, near_time}
use Rattle.peak_reach.proofs.Product.{near_within}
use Rattle.peak_reach.proofs.cut.Goals as goal

pub returns-then-s-ge60 : goal.returns-then-s-ge60
returns-then-s-ge60 c =
    let a = c.args in
    let f = c.requires in
    far_within a.r a.m a.s a.less f.0 f.1 (far_shift a.r a.s f.0.some (omega arith))

pub returns-then-r-s : goal.returns-then-r-s
returns-then-r-s c =
    let a = c.args in
    let f = c.requires in
    far_within a.r a.m a.s a.less f.0 f.1 (far_time a.r a.s (omega arith) c.if-r-s.true)

pub returns : goal.returns
returns c =
    let a = c.args in
    let f = c.requires in
    let n = near_time a.r a.s c.if-r-s.false in
    rw (mod-eq_of_lt {n = a.r * 2 ^ a.s} {m = 2 ^ 64} (omega arith))
    (near_within a.r a.m a.s a.less f.0 f.1)
