-- `record_list::walk_block` meets its contract: the block is walked by what was noted of its samples (`marks_front`,
-- `noted_marks`). Assumes nothing.
use mathlib.Core.Path.{◌≡◌, sym, ap, ◌∙◌}
use mathlib.Core.Bool.{false}
use mathlib.Core.List.{foldl, map}
use native.Mathlib.Omega.{arith}
use lib.ListN.{length, take, replicate}
use Rattle.sample_channels.specs.Channels.{above, moments}
use Rattle.sample_channels.proofs.Marks.{marks_front}
use Rattle.record_list.specs.Walk.{noting, marked}
use Rattle.record_list.proofs.Steps.{noted_marks}
use Rattle.record_list.proofs.walk_block.Goals as goal

pub returns : goal.returns
returns c =
    let noted : let a = c.args in
    take (length a.roll.now) c.mark.new.ups ≡ map (above a.items.levels) (moments a.roll.now a.acceleration.now) = let g = c.args in
    ap (take (length g.roll.now)) c.mark.ensures ∙ marks_front g.items.levels g.roll.now g.acceleration.now (replicate 64 false) c.requires.1 (omega arith) in
    let g = c.args in
    let p = moments g.roll.now g.acceleration.now in
    c.along.ensures ∙ ap (foldl (marked g.items.step g.items.decorrelation) (noting g.w g.times.now)) (noted)
    ∙ sym (noted_marks g.items.step g.items.levels g.items.decorrelation (noting g.w g.times.now) p)
