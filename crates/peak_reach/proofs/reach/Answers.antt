-- `peak_reach::reach` meets its contract: each return has the tests that led to it (`Order`). Assumes nothing.
use mathlib.Core.Path.{◌≡◌, ap, ◌∙◌}
use mathlib.Core.Bool.{not}
use native.Mathlib.Omega.{arith}
use Rattle.logarithm.proofs.Whole.{is_ours}
use Rattle.peak_tail.specs.Hill.{hill_sum}
use Rattle.peak_reach.proofs.Order.{finds, hill_within_lem, ready, refuses_level, refuses_samples}
use Rattle.peak_reach.proofs.Order.{refuses_spread}
use Rattle.peak_reach.proofs.Order.{spread_is, sum_most, tail_inside}
use Rattle.peak_reach.proofs.reach.Goals as goal
use mathlib.Core.Path.{sym}

pub returns-then-not-between : goal.returns-then-not-between
returns-then-not-between c =
    let a = c.args in
    refuses_samples a.peaks.now a.k a.level a.step a.samples a.standard
    ((sym c.between.ensures ∙ c.if-not-between.true))

pub returns-then-c-u : goal.returns-then-c-u
returns-then-c-u c =
    let a = c.args in
    refuses_level a.peaks.now a.k a.level a.step a.samples a.standard
    ((sym c.between.ensures ∙ c.if-not-between.false))
    c.if-c-u.true

pub no_spread-requires : goal.no_spread-requires
no_spread-requires c =
    let ys = c.args.peaks.now in
    let i = tail_inside ys c.args.k _ _ c.requires in (
      i.1,
      omega (arith, i.0, i.2),
      rw (c.hill_sum-sum.ensures, hill_within_lem ys c.args.k c.requires.tail) (sum_most ys c.args.k _ _ c.requires),
      c.log2-g.ensures.bound,
    )

pub returns-then-no_spread : goal.returns-then-no_spread
returns-then-no_spread c =
    let summed : (c.hill_sum-sum.result
    ≡ hill_sum c.args.peaks.now c.args.k) = c.hill_sum-sum.ensures ∙ hill_within_lem _ _ c.requires.tail in
    let a = c.args in
    refuses_spread a.peaks.now a.k a.level a.step a.samples a.standard
    ((sym c.between.ensures ∙ c.if-not-between.false))
    c.if-c-u.false
    (spread_is a.k (summed) (is_ours _ _ _ c.log2-g.ensures) c.no_spread.ensures c.if-no_spread.true)

pub three-t-requires : goal.three-t-requires
three-t-requires c =
    let summed : (c.hill_sum-sum.result
    ≡ hill_sum c.args.peaks.now c.args.k) = c.hill_sum-sum.ensures ∙ hill_within_lem _ _ c.requires.tail in
    let a = c.args in
    let g = is_ours _ _ _ c.log2-g.ensures in (
      rw (summed)
          (ready a.peaks.now a.k a.level a.step c.requires a.samples
          (ap not ((sym c.between.ensures ∙ c.if-not-between.false)))
          c.if-c-u.false
          (spread_is a.k (summed) g c.no_spread.ensures c.if-no_spread.false)),
      g,
    )

pub returns : goal.returns
returns c =
    let summed : (c.hill_sum-sum.result
    ≡ hill_sum c.args.peaks.now c.args.k) = c.hill_sum-sum.ensures ∙ hill_within_lem _ _ c.requires.tail in
    let a = c.args in
    finds a.peaks.now a.k a.level a.step a.samples a.standard
    ((sym c.between.ensures ∙ c.if-not-between.false))
    c.if-c-u.false
    (spread_is a.k (summed) (is_ours _ _ _ c.log2-g.ensures) c.no_spread.ensures c.if-no_spread.false)
    _ _
    (rw (summed) at c.three-t.ensures)
    c.letter_for.ensures
