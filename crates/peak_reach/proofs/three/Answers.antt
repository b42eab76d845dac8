-- `peak_reach::three` meets its contract (`Steps`): no product passes 64 bits, and each time is that of the definition.
-- Assumes nothing.
use native.Mathlib.Omega.{arith}
use borrow.Author.Rules.{rules}
use Rattle.peak_reach.proofs.Steps.{given, given_estimate, level_most, small}
use Rattle.peak_reach.proofs.Steps.{small_count, small_shape}
use Rattle.peak_reach.proofs.Steps.{three_is, time_some}
use Rattle.peak_reach.proofs.three.Goals as goal
use Rattle.peak_reach.proofs.three.Goals.{After-half_width-h, After-least-w, After-pick-level, Start}

pub longest-requires : goal.longest-requires
longest-requires c =
    let a = c.args in (
      given_estimate a.u a.c a.k a.sum a.step a.samples a.g c.requires.0 c.requires.1,
      small a.u a.c a.k a.sum a.step a.samples a.g c.requires.0 c.requires.1,
      omega arith,
    )

pub overflow_add-k : goal.overflow_add-k
overflow_add-k c =
    let start : Start = search rules in let o = start in
    let a = o.args in
    omega (
      arith,
      small_count a.u a.c a.k a.sum a.step a.samples a.g o.requires.0 o.requires.1 _ c.half_width-h.ensures,
      o.requires.0.few,
    )

pub longest-requires-2 : goal.longest-requires-2
longest-requires-2 c =
    let after-half-width : After-half_width-h = search rules in let start : Start = search rules in
    let h = after-half-width in
    let o = start in
    let a = o.args in (
      given a.u a.c a.k a.sum a.step a.samples a.g o.requires.0 o.requires.1 _ _
          (small_count a.u a.c a.k a.sum a.step a.samples a.g o.requires.0 o.requires.1 _ h.half_width-h.ensures)
          (small_shape a.u a.c a.k a.sum a.step a.samples a.g o.requires.0 o.requires.1 _ c.least-w.ensures),
      small a.u a.c a.k a.sum a.step a.samples a.g o.requires.0 o.requires.1,
      omega arith,
    )

pub rejected-requires : goal.rejected-requires
rejected-requires c =
    let after-least : After-least-w = search rules in let after-half-width : After-half_width-h = search rules in
    let start : Start = search rules in let w = after-least in
    let h = after-half-width in
    let o = start in
    let a = o.args in
    let p = o.requires.0 in (
      p.two,
      p.few,
      level_most a.u a.c a.k a.sum a.step a.samples a.g p o.requires.1 _ c.pick-level.ensures,
      p.spread,
      p.sum_most,
      small_shape a.u a.c a.k a.sum a.step a.samples a.g p o.requires.1 _ w.least-w.ensures,
      time_some a.u a.c a.k a.sum a.step a.samples a.g p o.requires.1,
    )

pub returns : goal.returns
returns c =
    let after-pick : After-pick-level = search rules in let after-least : After-least-w = search rules in
    let after-half-width : After-half_width-h = search rules in let start : Start = search rules in
    let l = after-pick in
    let w = after-least in
    let h = after-half-width in
    let o = start in
    let a = o.args in
    three_is a.u a.c a.k a.sum a.step a.samples a.g o.requires.0 o.requires.1 _ _ _ _ _ _
    h.half_width-h.ensures w.least-w.ensures l.pick-level.ensures c.longest.ensures c.longest-2.ensures
    c.rejected.ensures
