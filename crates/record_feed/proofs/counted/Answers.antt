-- `record_feed::counted` meets its contract, which it follows word for word; the sums fit since n does and bounds the
-- counts. Assumes nothing.
use native.Mathlib.Omega.{arith}
use Rattle.record_state.proofs.Relations.{kept_from}
use Rattle.record_state.proofs.Bounds.{small, crossings_below, groups_within, last_crossing_earlier}
use Rattle.record_feed.proofs.counted.Goals as goal

pub far-g-requires : goal.far-g-requires
far-g-requires c =
    let e = last_crossing_earlier (kept_from _ c.requires.0) in
    (c.requires.3, e.within, e.timed)

pub overflow_add-result : goal.overflow_add-result
overflow_add-result c =
    let k = kept_from c.args.r c.requires.0 in omega (arith, k.length, small k)

pub overflow_add-result-2 : goal.overflow_add-result-2
overflow_add-result-2 c =
    let k = kept_from c.args.r c.requires.0 in omega (arith, k.length, small k, crossings_below k)

pub overflow_add-result-3 : goal.overflow_add-result-3
overflow_add-result-3 c =
    let k = kept_from c.args.r c.requires.0 in omega (arith, k.length, small k, crossings_below k, k.counts)

pub overflow_add-r : goal.overflow_add-r
overflow_add-r c =
    let k = kept_from c.args.r c.requires.0 in omega (arith, k.length, small k, crossings_below k, k.counts, groups_within k)
