use Prim.Native.Nat.{◌-◌, ◌≤◌, ◌<◌}
use mathlib.Core.Path.{◌≡◌, sym, ap, ◌∙◌}
use mathlib.Core.List.{[]}
use native.Mathlib.Omega.{arith}
use lib.ListN.{length, take, drop, drop_of_length-le}
use Rattle.sample_block.proofs.Cut.{end_within, end_near, block_length}
use Rattle.sample_range.specs.Range.{first_bad}
use Rattle.sample_channels.specs.Channels.{any_bad}
use Rattle.sample_channels.proofs.Blocks.{good_on, block_equal, block_bad}
use Rattle.sample_channels.proofs.Quiet.{ends_say}
use Rattle.sample_channels.proofs.Range.{all_good, none_bad, ends_tell}
use Rattle.record_list.specs.Walk.{Noting}
use Rattle.record_list.proofs.Steps.{ready_less}
use Rattle.record_list.proofs.Underway.{goes_on, arrives}
use Rattle.record_list.proofs.pass.Goals as goal

pub slice_bounds-rolls-count : goal.slice_bounds-rolls-count
slice_bounds-rolls-count c =
    let within : (c.loop-i.i < c.end-end.result) × (c.end-end.result ≤ length c.args.roll.now) = end_within _ _ c.end-end.ensures (omega arith) in
    omega (arith, within)

pub slice_bounds-rolls-start : goal.slice_bounds-rolls-start
slice_bounds-rolls-start c =
    let within : (c.loop-i.i < c.end-end.result) × (c.end-end.result ≤ length c.args.roll.now) = end_within _ _ c.end-end.ensures (omega arith) in
    omega (arith, within)

pub slice_bounds-rolls-end : goal.slice_bounds-rolls-end
slice_bounds-rolls-end c =
    let within : (c.loop-i.i < c.end-end.result) × (c.end-end.result ≤ length c.args.roll.now) = end_within _ _ c.end-end.ensures (omega arith) in
    omega (arith, within)

pub slice_bounds-accelerations-count : goal.slice_bounds-accelerations-count
slice_bounds-accelerations-count c =
    let within : (c.loop-i.i < c.end-end.result) × (c.end-end.result ≤ length c.args.roll.now) = end_within _ _ c.end-end.ensures (omega arith) in
    omega (arith, within, c.requires.1)

pub slice_bounds-accelerations-start : goal.slice_bounds-accelerations-start
slice_bounds-accelerations-start c =
    let within : (c.loop-i.i < c.end-end.result) × (c.end-end.result ≤ length c.args.roll.now) = end_within _ _ c.end-end.ensures (omega arith) in
    omega (arith, within, c.requires.1)

pub returns-then-outside : goal.returns-then-outside
returns-then-outside c =
    let within : (c.loop-i.i < c.end-end.result) × (c.end-end.result ≤ length c.args.roll.now) = end_within _ _ c.end-end.ensures (omega arith) in
    let told : let e = c.end-end in let a = c.args in
    c.outside.result ≡ any_bad (take (e.result - c.loop-i.i) (drop c.loop-i.i a.roll.now)) (take (e.result - c.loop-i.i) (drop c.loop-i.i a.acceleration.now)) = c.outside.ensures ∙ ends_tell _ _ _ _ (c.ends_of-e.ensures.lowest_value, c.ends_of-e.ensures.highest_value) (c.ends_of-f.ensures.lowest_value, c.ends_of-f.ensures.highest_value) in
    let v = c.loop-i.invariant in
    let w = within in
    block_bad c.args.roll.now c.args.acceleration.now c.requires.1 _ _ (omega arith) w.1 v.1 v.2 (sym (told) ∙ c.if-outside.true)

pub advance-w-requires : goal.advance-w-requires
advance-w-requires c =
    let within : (c.loop-i.i < c.end-end.result) × (c.end-end.result ≤ length c.args.roll.now) = end_within _ _ c.end-end.ensures (omega arith) in
    let l = c.loop-i in
    let e = c.end-end.result in
    let w = within in
    let k = block_length c.args.roll.now l.i e (omega arith) w.1 in
    let q = ends_say c.args.items.levels _ _ _ _ (c.ends_of-e.ensures.lowest_value, c.ends_of-e.ensures.highest_value) (c.ends_of-f.ensures.lowest_value, c.ends_of-f.ensures.highest_value) in (
      ready_less (omega (arith, k)) l.invariant.0.ready,
      block_equal c.args.roll.now c.args.acceleration.now
          c.requires.1 l.i e (omega arith) w.1,
      omega (
        arith,
        end_near l.i (length c.args.roll.now)
            c.end-end.ensures,
      ),
      c.past-loud.ensures ∙ q,
      omega arith,
    )

pub loop-i-smaller : goal.loop-i-smaller
loop-i-smaller c =
    let within : (c.loop-i.i < c.end-end.result) × (c.end-end.result ≤ length c.args.roll.now) = end_within _ _ c.end-end.ensures (omega arith) in
    omega (arith, within)

pub loop-i-preserved : goal.loop-i-preserved
loop-i-preserved c =
    let within : (c.loop-i.i < c.end-end.result) × (c.end-end.result ≤ length c.args.roll.now) = end_within _ _ c.end-end.ensures (omega arith) in
    let told : let e = c.end-end in let a = c.args in
    c.outside.result ≡ any_bad (take (e.result - c.loop-i.i) (drop c.loop-i.i a.roll.now)) (take (e.result - c.loop-i.i) (drop c.loop-i.i a.acceleration.now)) = c.outside.ensures ∙ ends_tell _ _ _ _ (c.ends_of-e.ensures.lowest_value, c.ends_of-e.ensures.highest_value) (c.ends_of-f.ensures.lowest_value, c.ends_of-f.ensures.highest_value) in
    let g = c.args in
    let xs = g.roll.now in
    let ys = g.acceleration.now in
    let same = c.requires.1 in
    let i = c.loop-i.i in
    let inv = c.loop-i.invariant in
    let e = c.end-end.result in
    let h = within in
    let good = none_bad _ _ (sym (told) ∙ c.if-outside.false) in (
      goes_on same inv.0 e (omega arith) h.1 c.advance-w.ensures,
      good_on xs i e (omega arith) h.1 inv.1 good.0,
      good_on ys i e (omega arith) (omega (arith, h.1, same)) inv.2 good.1,
    )

pub returns : goal.returns
unfolding first_bad
returns c =
    let g = c.args in
    let xs = g.roll.now in
    let ys = g.acceleration.now in
    let l = c.loop-i in
    let p : drop l.i xs ≡ [] = drop_of_length-le xs {i = l.i} (omega arith) in
    let q : drop l.i ys ≡ [] = drop_of_length-le ys {i = l.i} (omega (arith, c.requires.1)) in
    let d = arrives c.requires.1 l.invariant.0 (omega arith) in (
      all_good xs ys (omega (arith, l.invariant.0.within, l.invariant.1, ap first_bad p)) (omega (
        arith,
        l.invariant.0.within,
        l.invariant.2,
        ap first_bad q,
        c.requires.1,
      )),
      ap (λ (s : Noting). s.walk.count) d,
      ap (λ (s : Noting). s.times) d,
    )
