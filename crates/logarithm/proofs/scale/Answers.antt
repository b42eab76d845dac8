-- `logarithm::scale` meets its contract: both values fit 32 bits once shifted, so no shift loses a bit, and `Scaling`
-- has the quotient of the two cases. Assumes nothing.
use Prim.Native.Nat.{◌-◌, ◌*◌, ◌^◌}
use native.Mathlib.Nat.{mod-eq_of_lt}
use native.Mathlib.Omega.{arith}
use Rattle.logarithm.proofs.Scaling.{quotient, shift_below, shift_less}
use Rattle.logarithm.proofs.scale.Goals as goal

pub overflow_sub-whole : goal.overflow_sub-whole
overflow_sub-whole c =
    let a = c.args in
    let y = c.shift-za in
    let z = c.shift-zb in
    shift_less a.a a.b y.result z.result (omega arith) z.ensures.0 y.ensures.1

pub overflow_sub-result : goal.overflow_sub-result
overflow_sub-result c =
    let a = c.args in
    let l = shift_below a.a a.b c.shift-za.result c.shift-zb.result (omega arith) (omega arith) in
    omega arith

pub returns-then-top-bottom : goal.returns-then-top-bottom
returns-then-top-bottom c =
    let a = c.args in
    let y = c.shift-za.result in
    let z = c.shift-zb.result in
    let l = shift_below a.a a.b y z (omega arith) (omega arith) in
    rw (
      mod-eq_of_lt {n = a.a * 2 ^ y} {m = 2 ^ 64} (omega arith),
      mod-eq_of_lt {n = a.a * 2 ^ y * 4294967296} {m = 2 ^ 64} (omega arith),
      mod-eq_of_lt {n = a.b * 2 ^ z} {m = 2 ^ 64} (omega arith),
    )
    (quotient a.a a.b y z 1 (z - y - 1) (omega arith) (omega arith) (omega arith) (omega arith) (omega arith))

pub returns-else-top-bottom : goal.returns-else-top-bottom
returns-else-top-bottom c =
    let a = c.args in
    let y = c.shift-za.result in
    let z = c.shift-zb.result in
    let l = shift_less a.a a.b y z (omega arith) c.shift-zb.ensures.0 c.shift-za.ensures.1 in
    rw (
      mod-eq_of_lt {n = a.a * 2 ^ y} {m = 2 ^ 64} (omega arith),
      mod-eq_of_lt {n = a.a * 2 ^ y * 2147483648} {m = 2 ^ 64} (omega arith),
      mod-eq_of_lt {n = a.b * 2 ^ z} {m = 2 ^ 64} (omega arith),
    )
    (quotient a.a a.b y z 0 (z - y) (omega arith) (omega arith) (omega arith) (omega arith) (omega arith))
