-- Times that were found are put into an array of their length.
use Rattle.std.proofs.Common.{ap, sym, length, eq-eqb, ◌∙◌}
use Rattle.capi.proofs.Placed.{placed_right}
use Rattle.capi_reach.specs.Told.{beyond_told, reach_told}
use Rattle.capi_reach.proofs.chim_extrapolate.Goals as goal

pub returns-in-Ok : goal.returns-in-Ok
unfolding beyond_told reach_told
returns-in-Ok c =
    let l = c.if-times-ne-TIMES_NUMBERS.false in
    let e = c.of_times-numbers.ensures in
    rw (
      eq-eqb _ _ l,
      ← c.extrapolate-a.ensures.answers,
      c.in-Ok.is,
      c.give.ensures.0,
      c.give.ensures.1,
      c.letter_code.ensures,
      c.put.ensures,
      placed_right _ _ (l ∙ sym (ap length e)),
      e,
    )
