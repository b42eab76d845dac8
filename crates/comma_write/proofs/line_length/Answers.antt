-- `comma_write::line_length` meets its contract: the digits, the comma, the degrees, the LF. Assumes nothing.
use native.Mathlib.Omega.{arith}
use mir.Facts.{to_z-of_z}
use Rattle.comma_write.proofs.Puts.{line_bytes}
use Rattle.comma_write.proofs.line_length.Goals as goal

pub returns : goal.returns
returns c =
    let roll = rw (to_z-of_z c.ranges.x) at c.degrees_length.ensures.value in
    (omega (arith, c.digits.ensures.value, roll, line_bytes c.args.time c.args.x), omega (arith, c.digits.ensures.upper_bound, c.degrees_length.ensures.upper_bound))
