-- `record_feed::joining` meets its contract: a crossing near the largest set's last is not the first, and near the
-- crossing just before it (`near_both`); the sums fit since n does and bounds the crossings. Assumes nothing.
use native.Mathlib.Omega.{arith}
use Rattle.record_state.proofs.Relations.{kept_from}
use Rattle.record_state.proofs.Bounds.{small, crossings_below}
use Rattle.record_step.proofs.Steps.{near_both}
use Rattle.record_feed.proofs.joining.Goals as goal

pub overflow_add-result : goal.overflow_add-result
overflow_add-result c =
    let k = kept_from c.args.r c.requires.0 in omega (arith, k.length, small k)

pub overflow_add-result-2 : goal.overflow_add-result-2
overflow_add-result-2 c =
    let k = kept_from c.args.r c.requires.0 in omega (arith, k.length, small k, crossings_below k)

pub returns : goal.returns
returns c =
    let r = c.args.r in
    let n = near_both r c.args.x (kept_from r c.requires.0) c.requires.1 c.requires.2 in
    rw (n.0, n.1, n.2)
