-- `record_feed::leading` meets its contract. Assumes nothing.
use native.Mathlib.Omega.{arith}
use Rattle.record_state.proofs.Relations.{kept_from}
use Rattle.record_state.proofs.Bounds.{items_of}
use Rattle.record_feed.proofs.leading.Goals as goal

pub overflow_add-left : goal.overflow_add-left
overflow_add-left c =
    let k = items_of (kept_from _ c.requires) in omega (arith, k.ramp)
