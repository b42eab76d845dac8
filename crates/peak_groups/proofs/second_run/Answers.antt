-- `peak_groups::second_run` meets its contract: the zeros and the first run are within the samples. Assumes nothing.
use Prim.Native.Nat.{ℕ, ◌+◌, ◌≤◌}
use mathlib.Core.Path.{◌≡◌, ap, ◌∙◌}
use native.Mathlib.Omega.{arith}
use lib.ListN.{length, drop}
use Rattle.peak_groups.specs.Runs.{first_run, second}
use Rattle.peak_groups.specs.declared.Run.{Run}
use Rattle.peak_groups.proofs.Due.{zeros_fit, from_place, second_fits}
use Rattle.peak_groups.proofs.second_run.Goals as goal
use Rattle.peak_groups.proofs.second_run.Goals.{After-zeros-start}

within : (c : After-zeros-start) → c.zeros-start.result ≤ length c.args.samples.now
within c = omega (arith, c.zeros-start.ensures, zeros_fit c.args.samples.now)

pub offset_bounds-samples-start : goal.offset_bounds-samples-start
offset_bounds-samples-start c = omega (arith, within c)

pub slice_bounds-first_run-count : goal.slice_bounds-first_run-count
slice_bounds-first_run-count c = omega (arith, within c)

pub slice_bounds-first_run-start : goal.slice_bounds-first_run-count
slice_bounds-first_run-start c = omega (arith, within c)

pub overflow_add-result : goal.overflow_add-result
overflow_add-result c =
    let p = c.args.samples.now in
    let f = c.first_run-run.ensures ∙ ap first_run (from_place _ p) in
    let found : c.zeros-start.result + c.first_run-run.result.length ≡ second p =
    ap (λ (r : Run). c.zeros-start.result + r.length) f ∙ ap (λ (k : ℕ). k + (first_run (drop k p)).length) c.zeros-start.ensures in
    omega (arith, found, second_fits p)
