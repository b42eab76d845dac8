-- `record_list::list_at_once` meets its contract: where no sample is bad nothing is refused, since half as many times as
-- samples are the most. Assumes nothing.
use Prim.Native.Nat.{◌≤◌}
use mathlib.Core.Path.{refl, sym, ap, ◌∙◌}
use native.Mathlib.Omega.{arith}
use lib.ListN.{length}
use Rattle.sample_channels.specs.Channels.{moments}
use Rattle.sample_channels.proofs.Moments.{moments_length}
use Rattle.sample_channels.proofs.Range.{looked_bad, looked_good}
use Rattle.crossing_places.specs.Reading.{counted_times, unramped}
use Rattle.record_list.specs.Walk.{Noting}
use Rattle.record_list.proofs.Walked.{walked_count, walked_times, half_counted}
use Rattle.record_list.proofs.Answered.{writes_times}
use Rattle.record_list.proofs.list_at_once.Goals as goal

pub returns-in-Err : goal.returns-in-Err
returns-in-Err c =
    ((looked_bad _ _ _ (sym c.look_over-look.ensures ∙ c.in-Err.is)).0, refl)

pub returns : goal.returns
returns c =
    let g = c.args in
    let p = moments g.roll.now g.acceleration.now in
    let ts = counted_times (unramped g.items.step g.items.levels g.items.decorrelation) p in
    let k = moments_length g.roll.now g.acceleration.now c.requires.1 in
    let l : length ts ≤ length g.times.now = omega (arith, half_counted g.items.step g.items.levels g.items.decorrelation p, c.requires.2) in
    let e = c.walk_all-w.ensures in
    let n = ap (λ (s : Noting). s.walk.count) e ∙ walked_count g.items.step g.items.levels g.items.decorrelation p g.times.now in
    let t = ap (λ (s : Noting). s.times) e ∙ walked_times g.items.step g.items.levels g.items.decorrelation p g.times.now l in
    (looked_good g.roll.now g.acceleration.now (sym c.look_over-look.ensures ∙ c.in_default.is), rw (t, n) (writes_times ts g.times.now l))
