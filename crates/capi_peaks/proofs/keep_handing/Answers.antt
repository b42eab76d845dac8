-- The numbers of a pass that was taken are put into an array of their length.
use Rattle.std.proofs.Common.{ap, sym, length, eq-eqb, ◌∙◌}
use Rattle.capi.proofs.Placed.{placed_right}
use Rattle.capi_peaks.specs.Told.{handing_kept, handing_told}
use Rattle.capi_peaks.proofs.keep_handing.Goals as goal

pub returns-in-Ok : goal.returns-in-Ok
unfolding handing_kept handing_told
returns-in-Ok c =
    let l = c.if-state-ne-HANDING_NUMBERS.false in
    let e = c.of_handing-numbers.ensures in
    rw (
      eq-eqb _ _ l,
      c.in-Ok.is,
      c.give.ensures.0,
      c.give.ensures.1,
      c.put.ensures,
      placed_right _ _ (l ∙ sym (ap length e)),
      e,
    )
