-- `comma_peaks::judge` meets its contract, test by test. Assumes nothing.
use Rattle.std.proofs.Common.{arith, rules}
use Rattle.comma_peaks.proofs.Judges.{judged_wrong, judged_outside, judged_long, judged_short, judged_peaks}
use Rattle.comma_peaks.proofs.judge.Goals as goal

pub returns-then-wrong : goal.returns-then-wrong
returns-then-wrong c =
    rw c.wrapping_add_u64-line.ensures.value (judged_wrong c.args.f c.args.ramp c.args.wrong c.if-wrong.true)

pub returns-then-f-ne0 : goal.returns-then-f-ne0
returns-then-f-ne0 c =
    judged_outside c.args.f c.args.ramp c.args.wrong c.if-wrong.false c.if-f-ne0.true

pub returns-then-most_samples-f : goal.returns-then-most_samples-f
returns-then-most_samples-f c =
    judged_long c.args.f c.args.ramp c.args.wrong c.if-wrong.false c.if-f-ne0.false (omega (arith, c.if-most_samples-f.true, c.most_samples.ensures))

pub returns-then-f-lt2 : goal.returns-then-f-lt2
returns-then-f-lt2 c =
    judged_short c.args.f c.args.ramp c.args.wrong c.if-wrong.false c.if-f-ne0.false (omega (arith, c.if-most_samples-f.false, c.most_samples.ensures)) (omega (arith, c.if-f-lt2.true))

pub returns-then-f-ramp : goal.returns-then-f-ramp
returns-then-f-ramp c =
    judged_short c.args.f c.args.ramp c.args.wrong c.if-wrong.false c.if-f-ne0.false (omega (arith, c.if-most_samples-f.false, c.most_samples.ensures)) (omega (arith, c.if-f-ramp.true, c.if-f-lt2.false))

pub returns : goal.returns
returns c =
    judged_peaks c.args.f c.args.ramp c.args.wrong c.if-wrong.false c.if-f-ne0.false (omega (arith, c.if-most_samples-f.false, c.most_samples.ensures)) (omega (arith, c.if-f-ramp.false, c.if-f-lt2.false))
