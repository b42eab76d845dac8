-- `record_list::advance` meets its contract: over a quiet block only the time moves (`quiet_block`); another is walked.
-- Assumes nothing.
use mathlib.Core.Path.{◌≡◌, sym, ap, ◌∙◌}
use native.Mathlib.Omega.{arith}
use lib.ListN.{length}
use Rattle.sample_channels.specs.Channels.{moments}
use Rattle.sample_channels.proofs.Moments.{moments_length}
use Rattle.record_list.specs.declared.Walk.{Walk}
use Rattle.record_list.specs.Walk.{passed, noting}
use Rattle.record_list.proofs.Steps.{quiet_block}
use Rattle.record_list.proofs.advance.Goals as goal

pub returns : goal.returns
returns c =
    let g = c.args in
    let n : length (moments g.roll.now g.acceleration.now) ≡ length g.roll.now = moments_length g.roll.now g.acceleration.now c.requires.1 in
    let q = quiet_block g.items.step g.items.levels g.items.decorrelation g.times.now g.w g.roll.now g.acceleration.now (sym c.requires.3 ∙ c.if-loud.false) (omega (arith, c.requires.4)) in
    ap (λ (w : Walk). noting w g.times.now) c.passed.ensures ∙ sym (rw n at q)
