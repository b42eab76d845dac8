-- `comma_stream::take` meets its contract: what `comma_read` takes of the piece, as the reading stands after it. Assumes
-- nothing.
use mathlib.Core.Path.{sym, ap, ◌∙◌}
use Prim.Native.Nat.{◌+◌}
use native.Mathlib.Omega.{arith}
use Rattle.truth.proofs.Answers.{handed_on}
use Rattle.comma_stream.proofs.Going.{follows, said, number_fits}
use Rattle.comma_stream.proofs.take.Goals as goal
use Rattle.std.specs.Prelude.{Ok}

pub overflow_add-after : goal.overflow_add-after
overflow_add-after c =
    omega (arith, number_fits c.args.f.lines c.in_ok-number.was c.take.ensures.result_bound)

pub noted-requires : goal.noted-requires
noted-requires c =
    number_fits c.args.f.lines c.in_ok-number.was c.take.ensures.result_bound

pub returns-in_err-number : goal.returns-in_err-number
unfolding follows
returns-in_err-number c =
    let a = c.args in
    let t = c.take in
    let same = handed_on c.from_residual.result c.from_residual.ensures in
    let whole = said a.f a.text.now a.samples.now (ap (follows a.f) c.in_err-number.was ∙ sym same) t.ensures.value t.ensures.samples_after in
    record { value = whole.0; samples_after = whole.1.0; result_in_bounds = whole.1.1 }

pub returns : goal.returns
unfolding follows
returns c =
    let a = c.args in
    let t = c.take in
    let n = c.in_ok-number in
    let whole = said a.f a.text.now a.samples.now
    (ap (follows a.f) n.was
    ∙ (λ i. Ok (record { step = a.f.step; lines = a.f.lines + n.number; outside = sym c.noted.ensures i }, n.bytes, n.number)))
    t.ensures.value t.ensures.samples_after in
    record { value = whole.0; samples_after = whole.1.0; result_in_bounds = whole.1.1 }
