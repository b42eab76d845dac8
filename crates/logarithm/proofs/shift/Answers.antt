-- `logarithm::shift` meets its contract: v is not 0, so it has a highest set bit j, and its leading zeros make 32 with
-- j + 1. Assumes nothing.
use mathlib.Core.Path.{◌≡◌}
use Prim.Native.Nat.{suc, ◌+◌, ◌^◌}
use native.Mathlib.Nat.{mul-le-mul_right, mul-lt-mul_of_pos_right}
use native.Mathlib.Omega.{arith}
use lib.Count.{count_leading_zeros, leading_top}
use lib.Pow.{pow-add, pow_pos}
use Rattle.logarithm.proofs.shift.Goals as goal

pub returns : goal.returns
returns c =
    let v = c.args.v in
    let z = count_leading_zeros 32 v in
    let (j, e, lo, hi) = leading_top 32 v c.requires c.ranges.v.fits in
    let e' : j + z ≡ 31 = omega arith in
    let e'' : suc j + z ≡ 32 = omega arith in (
      rw e' at (rw (← pow-add 2 j z) at (mul-le-mul_right (2 ^ z) lo)),
      rw e'' at (rw (← pow-add 2 (suc j) z) at (mul-lt-mul_of_pos_right hi (pow_pos z))),
      omega arith,
    )
