-- `record_feed::run` meets its contract: what was noted of the samples is what they are (`marks_front`). Assumes
-- nothing.
use borrow.Author.Rules.{rules}
use mathlib.Core.Path.{◌≡◌, ap, ◌∙◌}
use mathlib.Core.Bool.{false}
use mathlib.Core.List.{map}
use native.Mathlib.Omega.{arith}
use lib.ListN.{length, take, replicate}
use lib.Seq.{take_all}
use Rattle.sample_channels.specs.Channels.{above, moments}
use Rattle.sample_channels.proofs.Marks.{marks_front}
use Rattle.record_feed.proofs.run.Goals as goal
use Rattle.record_feed.proofs.run.Goals.{After-mark, Start}

-- all of the acceleration is handed on
all : (c : Start) → take (length c.args.roll.now) c.args.acceleration.now ≡ c.args.acceleration.now
all c = take_all (length c.args.roll.now) c.args.acceleration.now (omega (arith, c.requires.0.equal))

noted : (c : After-mark) →
    let a = c.args in
    take (length a.roll.now) c.mark.new.ups ≡ map (above a.r.items.levels) (moments a.roll.now a.acceleration.now)
noted c =
    let a : Start = search rules in
    let g = a.args in
    ap (take (length g.roll.now)) c.mark.ensures ∙ marks_front g.r.items.levels g.roll.now g.acceleration.now (replicate 64 false) a.requires.0.equal a.requires.0.short

pub along-requires : goal.along-requires
along-requires c =
    let b : After-mark = search rules in
    let a : Start = search rules in rw (all a) (a.requires.0, a.requires.1, noted b)
