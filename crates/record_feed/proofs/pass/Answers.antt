use Prim.Native.Nat.{◌-◌, ◌≤◌, ◌<◌}
use mathlib.Core.Path.{◌≡◌, sym, ap, ◌∙◌}
use mathlib.Core.Bool.{true}
use mathlib.Core.List.{[], foldl, foldl-append}
use native.Mathlib.Omega.{arith}
use lib.ListN.{length, take, drop, drop_of_length-le}
use Rattle.sample_channels.specs.Channels.{moments, any_bad}
use Rattle.sample_channels.proofs.Blocks.{good_on, block_equal, moments_cut, block_bad}
use Rattle.sample_channels.proofs.Moments.{moments_length}
use Rattle.sample_channels.proofs.Quiet.{ends_say}
use Rattle.sample_channels.proofs.Range.{all_in, none_bad, ends_tell}
use Rattle.record_step.specs.Step.{stepped}
use Rattle.sample_range.specs.Range.{first_bad}
use Rattle.sample_block.proofs.Cut.{end_within, end_near, block_length}
use Rattle.record_feed.specs.Fits.{Fits}
use Rattle.record_feed.proofs.Cutting.{run_n, run_most, run_sound}
use Rattle.record_feed.proofs.Fed.{fed_bad, fed_taken}
use Rattle.record_feed.proofs.pass.Goals as goal
use Rattle.std.specs.Prelude.{Ok}

pub slice_bounds-rolls-count : goal.slice_bounds-rolls-count
slice_bounds-rolls-count c =
    let within : (c.loop-i.i < c.end-end.result) × (c.end-end.result ≤ length c.args.roll.now) = end_within _ _ c.end-end.ensures (omega arith) in
    omega (arith, within)

pub slice_bounds-rolls-start : goal.slice_bounds-rolls-start
slice_bounds-rolls-start c =
    let within : (c.loop-i.i < c.end-end.result) × (c.end-end.result ≤ length c.args.roll.now) = end_within _ _ c.end-end.ensures (omega arith) in
    omega (arith, within)

pub slice_bounds-rolls-end : goal.slice_bounds-rolls-end
slice_bounds-rolls-end c =
    let within : (c.loop-i.i < c.end-end.result) × (c.end-end.result ≤ length c.args.roll.now) = end_within _ _ c.end-end.ensures (omega arith) in
    omega (arith, within)

pub slice_bounds-accelerations-count : goal.slice_bounds-accelerations-count
slice_bounds-accelerations-count c =
    let within : (c.loop-i.i < c.end-end.result) × (c.end-end.result ≤ length c.args.roll.now) = end_within _ _ c.end-end.ensures (omega arith) in
    omega (arith, within, c.requires.1)

pub slice_bounds-accelerations-start : goal.slice_bounds-accelerations-start
slice_bounds-accelerations-start c =
    let within : (c.loop-i.i < c.end-end.result) × (c.end-end.result ≤ length c.args.roll.now) = end_within _ _ c.end-end.ensures (omega arith) in
    omega (arith, within, c.requires.1)

pub returns-then-outside : goal.returns-then-outside
returns-then-outside c =
    let within : (c.loop-i.i < c.end-end.result) × (c.end-end.result ≤ length c.args.roll.now) = end_within _ _ c.end-end.ensures (omega arith) in
    let told : let e = c.end-end in c.outside.result ≡ any_bad (take (e.result - c.loop-i.i) (drop c.loop-i.i c.args.roll.now))
    (take (e.result - c.loop-i.i) (drop c.loop-i.i c.args.acceleration.now)) = c.outside.ensures ∙ ends_tell _ _ _ _ (c.ends_of-e.ensures.lowest_value, c.ends_of-e.ensures.highest_value) (c.ends_of-f.ensures.lowest_value, c.ends_of-f.ensures.highest_value) in
    let xs = c.args.roll.now in
    let ys = c.args.acceleration.now in
    let v = c.loop-i.invariant in
    let w = within in
    let k = block_bad xs ys c.requires.1 _ _ (omega arith) w.1 v.2 v.3 (sym (told) ∙ c.if-outside.true) in
    c.fault.ensures ∙ rw k (sym (fed_bad c.args.r xs ys c.requires.0 c.requires.1 k))

pub advance-s-requires : goal.advance-s-requires
advance-s-requires c =
    let within : (c.loop-i.i < c.end-end.result) × (c.end-end.result ≤ length c.args.roll.now) = end_within _ _ c.end-end.ensures (omega arith) in
    let told : let e = c.end-end in c.outside.result ≡ any_bad (take (e.result - c.loop-i.i) (drop c.loop-i.i c.args.roll.now))
    (take (e.result - c.loop-i.i) (drop c.loop-i.i c.args.acceleration.now)) = c.outside.ensures ∙ ends_tell _ _ _ _ (c.ends_of-e.ensures.lowest_value, c.ends_of-e.ensures.highest_value) (c.ends_of-f.ensures.lowest_value, c.ends_of-f.ensures.highest_value) in
    let xs = c.args.roll.now in
    let ys = c.args.acceleration.now in
    let l = c.loop-i in
    let e = c.end-end.result in
    let w = within in
    let k = block_length xs l.i e (omega arith) w.1 in
    let g = none_bad _ _ (sym (told) ∙ c.if-outside.false) in
    let fits : Fits l.s (take (e - l.i) (drop l.i xs)) (take (e - l.i) (drop l.i ys)) =
    record {
      state = l.invariant.0;
      equal = block_equal xs ys c.requires.1 l.i e (omega arith) w.1;
      good = all_in _ _ g.0 g.1;
      room = omega (arith, l.invariant.4);
      short = omega (arith, k, end_near l.i (length xs) c.end-end.ensures);
    } in
    (fits, c.past.ensures ∙ ends_say l.s.items.levels _ _ _ _ (c.ends_of-e.ensures.lowest_value, c.ends_of-e.ensures.highest_value) (c.ends_of-f.ensures.lowest_value, c.ends_of-f.ensures.highest_value), omega arith)

pub loop-i-smaller : goal.loop-i-smaller
loop-i-smaller c =
    let within : (c.loop-i.i < c.end-end.result) × (c.end-end.result ≤ length c.args.roll.now) = end_within _ _ c.end-end.ensures (omega arith) in
    omega (arith, within)

pub loop-i-preserved : goal.loop-i-preserved
loop-i-preserved c =
    let within : (c.loop-i.i < c.end-end.result) × (c.end-end.result ≤ length c.args.roll.now) = end_within _ _ c.end-end.ensures (omega arith) in
    let told : let e = c.end-end in c.outside.result ≡ any_bad (take (e.result - c.loop-i.i) (drop c.loop-i.i c.args.roll.now))
    (take (e.result - c.loop-i.i) (drop c.loop-i.i c.args.acceleration.now)) = c.outside.ensures ∙ ends_tell _ _ _ _ (c.ends_of-e.ensures.lowest_value, c.ends_of-e.ensures.highest_value) (c.ends_of-f.ensures.lowest_value, c.ends_of-f.ensures.highest_value) in
    let xs = c.args.roll.now in
    let ys = c.args.acceleration.now in
    let i = c.loop-i.i in
    let s = c.loop-i.s in
    let v = c.loop-i.invariant in
    let e = c.end-end.result in
    let w = within in
    let m : e ≤ length ys = omega (arith, w.1, c.requires.1) in
    let block = moments (take (e - i) (drop i xs)) (take (e - i) (drop i ys)) in
    let n : length block ≡ e - i = moments_length _ _ (block_equal xs ys c.requires.1 i e (omega arith) w.1) ∙ block_length xs i e (omega arith) w.1 in
    let k = moments_cut xs ys c.requires.1 i e (omega arith) w.1 in
    let g = none_bad _ _ (sym (told) ∙ c.if-outside.false) in
    rw c.advance-s.ensures (
      run_sound s block v.0 (all_in _ _ g.0 g.1) (omega (arith, v.4)),
      w.1,
      good_on xs i e (omega arith) w.1 v.2 g.0,
      good_on ys i e (omega arith) m v.3 g.1,
      omega (arith, v.4, run_n s block, run_most s block),
      sym (foldl-append stepped s block (drop e (moments xs ys))) ∙ sym (ap (foldl stepped s) k) ∙ v.5,
    )

pub returns : goal.returns
unfolding first_bad
returns c =
    let xs = c.args.roll.now in
    let ys = c.args.acceleration.now in
    let v = c.loop-i.invariant in
    let i = c.loop-i.i in
    let n : length (moments xs ys) ≡ length xs = moments_length xs ys c.requires.1 in
    let e : drop i (moments xs ys) ≡ [] = drop_of_length-le (moments xs ys) {i = i} (omega arith) in
    let f : drop i xs ≡ [] = drop_of_length-le xs {i = i} (omega arith) in
    let g : drop i ys ≡ [] = drop_of_length-le ys {i = i} (omega (arith, c.requires.1)) in
    ap Ok (sym (ap (foldl stepped _) e) ∙ v.5)
    ∙ sym (fed_taken c.args.r xs ys c.requires.0 c.requires.1 (omega (arith, v.2, ap first_bad f)) (omega (arith, v.3, ap first_bad g, c.requires.1)) c.requires.2)
