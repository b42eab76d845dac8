-- `peak_stream::hand_over` meets its contract, test by test. Assumes nothing.
use mathlib.Core.Path.{sym, ◌∙◌}
use native.Mathlib.Omega.{arith}
use Rattle.peak_stream.proofs.Over.{over_broken, over_long, over_short, over_taken}
use Rattle.peak_stream.proofs.hand_over.Goals as goal

pub returns-then-not-ready : goal.returns-then-not-ready
returns-then-not-ready c =
    over_broken c.args.h c.args.samples.now c.args.sizes.now c.args.times.now ((sym c.ready.ensures ∙ c.if-not-ready.true))

pub returns-then-most_samples-r : goal.returns-then-most_samples-r
returns-then-most_samples-r c =
    over_long c.args.h c.args.samples.now c.args.sizes.now c.args.times.now ((sym c.ready.ensures ∙ c.if-not-ready.false)) (omega (arith, c.if-most_samples-r.true, c.most_samples.ensures))

pub returns-then-short : goal.returns-then-short
returns-then-short c =
    over_short c.args.h c.args.samples.now c.args.sizes.now c.args.times.now ((sym c.ready.ensures ∙ c.if-not-ready.false)) (omega (arith, c.if-most_samples-r.false, c.most_samples.ensures)) (sym c.short.ensures ∙ c.if-short.true)

pub returns : goal.returns
returns c =
    let t = c.through-gone.ensures in over_taken c.args.h c.args.samples.now c.args.sizes.now c.args.times.now ((sym c.ready.ensures ∙ c.if-not-ready.false)) (omega (
      arith,
      c.if-most_samples-r.false,
      c.most_samples.ensures,
    )) (sym c.short.ensures ∙ c.if-short.false) t.0 t.1 t.2 t.3
