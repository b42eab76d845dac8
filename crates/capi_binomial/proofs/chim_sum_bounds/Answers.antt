-- Bounds that were given are put into an array of their length.
use Rattle.std.proofs.Common.{ap, sym, length, eq-eqb, ◌∙◌}
use Rattle.capi.proofs.Placed.{placed_right}
use Rattle.capi_binomial.specs.Told.{bounds_told, sum_bounded}
use Rattle.capi_binomial.proofs.chim_sum_bounds.Goals as goal

pub returns-in-Ok : goal.returns-in-Ok
unfolding sum_bounded bounds_told
returns-in-Ok c =
    let l = c.if-bounds-ne-BOUNDS_NUMBERS.false in
    let e = c.of_bounds-numbers.ensures in
    rw (
      eq-eqb _ _ l,
      ← c.sum_of.ensures,
      ← c.bound-a.ensures,
      c.in-Ok.is,
      c.give.ensures.0,
      c.give.ensures.1,
      c.flag.ensures,
      c.put.ensures,
      placed_right _ _ (l ∙ sym (ap length e)),
      e,
    )
