-- `peak_stream::take` meets its contract, test by test. Assumes nothing.
use mathlib.Core.Path.{ap, ◌∙◌}
use native.Mathlib.Omega.{arith}
use Rattle.peak_stream.proofs.Pieces.{taken_broken, taken_long, taken_all}
use Rattle.peak_stream.proofs.take.Goals as goal
use mathlib.Core.Path.{sym}
use Rattle.std.specs.Prelude.{Ok}

-- src/lib.rt:196:9
pub returns-then-not-sound : goal.returns-then-not-sound
returns-then-not-sound c =
    taken_broken c.args.s c.args.samples.now ((sym c.sound.ensures ∙ c.if-not-sound.true))

-- src/lib.rt:201:9
pub returns-then-most-r : goal.returns-then-most-r
returns-then-most-r c =
    taken_long c.args.s c.args.samples.now ((sym c.sound.ensures ∙ c.if-not-sound.false)) (omega (
      arith,
      c.if-most-r.true,
      c.most_samples-most.ensures,
    ))

-- src/lib.rt:192:1
pub returns : goal.returns
returns c =
    ap Ok c.along.ensures ∙ taken_all c.args.s c.args.samples.now ((sym c.sound.ensures ∙ c.if-not-sound.false)) (omega (arith, c.if-most-r.false, c.most_samples-most.ensures))
