use Prim.Native.Nat.{◌-◌, ◌≤◌, ◌<◌}
use native.Mathlib.Omega.{arith}
use lib.ListN.{length}
use Rattle.sample_block.proofs.Cut.{end_within, end_near, block_length}
use Rattle.sample_channels.proofs.Blocks.{block_equal}
use Rattle.record_list.proofs.Steps.{ready_less}
use Rattle.record_list.proofs.Underway.{goes_on, arrives}
use Rattle.record_list.proofs.walk_all.Goals as goal

pub slice_bounds-walk_block-count : goal.slice_bounds-walk_block-count
slice_bounds-walk_block-count c =
    let within : (c.loop-i.i < c.end-end.result) × (c.end-end.result ≤ length c.args.roll.now) = end_within _ _ c.end-end.ensures (omega arith) in
    omega (arith, within)

pub slice_bounds-walk_block-start : goal.slice_bounds-walk_block-start
slice_bounds-walk_block-start c =
    let within : (c.loop-i.i < c.end-end.result) × (c.end-end.result ≤ length c.args.roll.now) = end_within _ _ c.end-end.ensures (omega arith) in
    omega (arith, within)

pub slice_bounds-walk_block-end : goal.slice_bounds-walk_block-end
slice_bounds-walk_block-end c =
    let within : (c.loop-i.i < c.end-end.result) × (c.end-end.result ≤ length c.args.roll.now) = end_within _ _ c.end-end.ensures (omega arith) in
    omega (arith, within)

pub slice_bounds-walk_block-count-in-loop-i : goal.slice_bounds-walk_block-count-in-loop-i
slice_bounds-walk_block-count-in-loop-i c =
    let within : (c.loop-i.i < c.end-end.result) × (c.end-end.result ≤ length c.args.roll.now) = end_within _ _ c.end-end.ensures (omega arith) in
    omega (arith, within, c.requires.1)

pub slice_bounds-walk_block-start-in-loop-i : goal.slice_bounds-walk_block-start-in-loop-i
slice_bounds-walk_block-start-in-loop-i c =
    let within : (c.loop-i.i < c.end-end.result) × (c.end-end.result ≤ length c.args.roll.now) = end_within _ _ c.end-end.ensures (omega arith) in
    omega (arith, within, c.requires.1)

pub walk_block-w-requires : goal.walk_block-w-requires
walk_block-w-requires c =
    let within : (c.loop-i.i < c.end-end.result) × (c.end-end.result ≤ length c.args.roll.now) = end_within _ _ c.end-end.ensures (omega arith) in
    let l = c.loop-i in
    let e = c.end-end in
    let w = within in
    let k = block_length c.args.roll.now l.i e.result (omega arith) w.1 in (
      ready_less (omega arith) l.invariant.ready,
      block_equal c.args.roll.now c.args.acceleration.now
          c.requires.1 l.i e.result (omega arith) w.1,
      omega (
        arith,
        k,
        end_near l.i
            (length c.args.roll.now) e.ensures,
      ),
    )

pub loop-i-smaller : goal.loop-i-smaller
loop-i-smaller c =
    let within : (c.loop-i.i < c.end-end.result) × (c.end-end.result ≤ length c.args.roll.now) = end_within _ _ c.end-end.ensures (omega arith) in
    omega (arith, within)

pub loop-i-preserved : goal.loop-i-preserved
loop-i-preserved c =
    let within : (c.loop-i.i < c.end-end.result) × (c.end-end.result ≤ length c.args.roll.now) = end_within _ _ c.end-end.ensures (omega arith) in
    let w = within in
    goes_on c.requires.1 c.loop-i.invariant _ (omega arith) w.1 c.walk_block-w.ensures

pub returns : goal.returns
returns c =
    arrives c.requires.1 c.loop-i.invariant (omega arith)
