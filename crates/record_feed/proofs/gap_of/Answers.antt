-- `record_feed::gap_of` meets its contract: a quotient rounded up. Assumes nothing.
use native.Mathlib.Omega.{arith}
use Rattle.record_feed.proofs.Gaps.{rounded_up}
use Rattle.record_state.proofs.Relations.{kept_from}
use Rattle.record_state.proofs.Bounds.{items_of}
use Rattle.record_feed.proofs.gap_of.Goals as goal

pub overflow_sub-result : goal.overflow_sub-result
overflow_sub-result c = (items_of (kept_from _ c.requires)).step_low

pub overflow_add-result : goal.overflow_add-result
overflow_add-result c =
    let k = items_of (kept_from _ c.requires) in omega (arith, k.step-high, k.decorrelation)

pub nonzero_div-result : goal.nonzero_div-result
nonzero_div-result c = omega (arith, (items_of (kept_from _ c.requires)).step_low)

pub returns : goal.returns
returns c =
    rounded_up c.args.r.items.step c.args.r.items.decorrelation (items_of (kept_from c.args.r c.requires)).step_low
