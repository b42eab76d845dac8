-- `sheet_records::line_length` meets its contract: two numbers, two tabs, the flag and the LF. Assumes nothing.
use mathlib.Core.Path.{ap, ◌∙◌}
use native.Mathlib.Omega.{arith}
use lib.ListN.{length}
use mir.Facts.{to_z-of_z}
use Rattle.record_end.specs.declared.Outcome.{Outcome}
use Rattle.decimal.specs.Decimal.{digits_of}
use Rattle.sheet_records.proofs.Puts.{line_bytes}
use Rattle.sheet_records.proofs.line_length.Goals as goal

pub returns : goal.returns
returns c =
    let is = rw (to_z-of_z c.ranges.x) at c.outcome-o.ensures in
    let digits = c.digits-2.ensures.value ∙ ap (λ (r : Outcome). length (digits_of r.exposure)) is in
    (omega (arith, c.digits.ensures.value, digits, line_bytes c.args.number c.args.x), omega (arith, c.digits.ensures.upper_bound, c.digits-2.ensures.upper_bound))
