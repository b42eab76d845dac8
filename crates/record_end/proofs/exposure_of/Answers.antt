-- `record_end::exposure_of` meets its contract: the record's laws bound both times. Assumes nothing.
use native.Mathlib.Omega.{arith}
use mathlib.Core.Path.{◌≡◌, ap}
use mathlib.Core.Bool.{not, true}
use Prim.Native.Nat.{◌+◌}
use borrow.Author.Tests.{le-ltb, ne_eqb}
use Rattle.record_state.specs.declared.Record.{Record}
use Rattle.record_state.specs.State.{failed}
use Rattle.record_state.proofs.Times.{failed_failure, first_time_lem, whole_time_lem}
use Rattle.record_end.proofs.exposure_of.Goals as goal
use Rattle.record_end.proofs.exposure_of.Goals.{After-struct_known-else-r-eq0-1, Start}

-- ways back to earlier places of the function
abbrev start : After-struct_known-else-r-eq0-1 → Start
start c = c.before.before.before

-- a first place other than 0 is a failure
failed-of : (r : Record) → ¬ (r.first ≡ 0) → failed r ≡ true
failed-of r h = ap not (ne_eqb r.first 0 h)

pub overflow_mul-result : goal.overflow_mul-result
overflow_mul-result c =
    let b = c.before.before.before.before.before in
    let r = b.args.r in let t = whole_time_lem r b.requires.0 (le-ltb r.n (r.items.ramp + 2) b.requires.1) in omega arith

pub overflow_sub-result-else-r-eq0 : goal.overflow_sub-result-else-r-eq0
overflow_sub-result-else-r-eq0 c =
    let b = start c in
    let r = b.args.r in omega (arith, (failed_failure r b.requires.0 (failed-of r c.if-r-eq0.false)).above)

pub overflow_mul-result-else-r-eq0 : goal.overflow_mul-result-else-r-eq0
overflow_mul-result-else-r-eq0 c =
    let b = start c.before in
    let r = b.args.r in let e = failed-of r c.if-r-eq0.false in let t = first_time_lem r b.requires.0 e in omega arith
