-- `peak_envelope::find_fitting` meets its contract: a bad sample is named, and else the timed samples hand out their
-- peaks. Assumes nothing.
use mathlib.Core.Path.{ap}
use native.Mathlib.Omega.{arith}
use lib.ListN.{length, length-drop}
use Rattle.sample_items.proofs.Ranges.{within_ranges}
use Rattle.peak_envelope.specs.Answers.{unlevelled}
use Rattle.peak_groups.proofs.Due.{from_place}
use Rattle.peak_envelope.proofs.Answered.{finds_bad, finds_good}
use Rattle.peak_envelope.proofs.find_fitting.Goals as goal

pub returns-then-bad-samples : goal.returns-then-bad-samples
returns-then-bad-samples c =
    let e = c.first_bad-bad.ensures in
    rw e (finds_bad _ _ _ _ _ _ c.requires (omega (arith, e, c.if-bad-samples.true)))

pub hand_out-requires : goal.hand_out-requires
hand_out-requires c =
    let a = c.args in
    let f = c.requires in
    let i = within_ranges (unlevelled a.step a.ramp a.decorrelation) f.ranged in
    (omega (arith, f.most, ap length (from_place a.ramp a.samples.now), length-drop a.ramp a.samples.now), i.decorrelation)

pub returns : goal.returns
returns c =
    let a = c.args in
    finds_good _ _ _ _ _ _ c.requires (omega (arith, c.first_bad-bad.ensures, c.if-bad-samples.false))
    (rw (from_place a.ramp a.samples.now) at c.hand_out.ensures)
