-- `degrees::size_at` meets its contract: the number, the byte after it and the digits after a point decide, each
-- return by its law of `Sizes`. Assumes nothing.
use mathlib.Core.Path.{◌≡◌, sym, ◌∙◌}
use mathlib.Core.Bool.{Bool, true, cond}
use mathlib.Core.List.{List}
use Prim.Native.Nat.{ℕ, ◌+◌, ◌-◌, ◌*◌, ◌<◌, ◌≤◌}
use native.Mathlib.Nat.{lt_of_lt_of_le, pow-le-pow_right}
use native.Mathlib.Omega.{arith}
use lib.Dec.{eqb}
use lib.ListN.{length, get_or, drop}
use Rattle.truth.proofs.Cases.{by_test}
use Rattle.decimal.specs.Decimal.{longest, leading_digits, value_of}
use Rattle.decimal.specs.Leading.{stands_at}
use Rattle.decimal.proofs.Text.{value_below}
use Rattle.decimal.proofs.Reading.{leading_all}
use Rattle.decimal.proofs.Leading.{leads_number, leads_none, stands_byte}
use Rattle.degrees.specs.Degrees.{point}
use Rattle.degrees.proofs.Sizes.{size_bad, size_plain, size_none, size_many, size-some}
use Rattle.degrees.proofs.size_at.Goals as goal
use Rattle.degrees.proofs.size_at.Goals.{Else-count-gt3}

-- filled up with zeros, three digits are below 100,000
cond_below : (n v : ℕ) → v < 1000 → cond (eqb n 1) (v * 100) (cond (eqb n 2) (v * 10) v) < 100000
cond_below n v h = by_test (eqb n 1) (λ e. rw e (omega arith)) (λ e. rw e (by_test (eqb n 2) (λ f. rw f (omega arith)) (λ f. rw f (omega arith))))

-- at each later place: the digits after the point, the number before it, and that the point stands there
abbrev Run : List ℕ → ℕ → List ℕ
Run s end = leading_digits longest (drop (end + 1) s)

pointed : (s : List ℕ) (end : ℕ) (said : Bool) → said ≡ stands_at s end point → said ≡ true → eqb (get_or s end 0) point ≡ true
pointed s end said told stood = sym (stands_byte s end point (omega arith)) ∙ (sym told ∙ stood)

-- no more than three digits are below a thousand
below : (s : List ℕ) (end value : ℕ) → value ≡ value_of (Run s end) → length (Run s end) ≤ 3 → value < 1000
below s end value told few =
    rw told
    (lt_of_lt_of_le (value_below (Run s end) (leading_all longest (drop (end + 1) s))) (pow-le-pow_right {n = 10} (omega arith) {j = 3} few))

pub returns-in_err-whole : goal.returns-in_err-whole
returns-in_err-whole c =
    let a = c.args in
    c.from_residual.ensures ∙ sym (size_bad a.s.now a.at a.minus (leads_none a.s.now a.at (sym c.leading_at.ensures ∙ c.in_err-whole.was)))

pub overflow_mul-result : goal.overflow_mul-result
overflow_mul-result c =
    let n = c.in_ok-whole in
    omega (arith, (leads_number c.args.s.now c.args.at n.whole n.end (sym c.leading_at.ensures ∙ n.was)).small)

pub returns-then-not-stands : goal.returns-then-not-stands
returns-then-not-stands c =
    let a = c.args in
    let n = c.in_ok-whole in
    let leads = leads_number a.s.now a.at n.whole n.end (sym c.leading_at.ensures ∙ n.was) in
    sym (size_plain a.s.now a.at a.minus n.whole n.end leads (sym (stands_byte a.s.now n.end point (omega arith)) ∙ (sym c.stands.ensures ∙ c.if-not-stands.true)))

pub returns-then-count-eq0 : goal.returns-then-count-eq0
returns-then-count-eq0 c =
    let a = c.args in
    let n = c.in_ok-whole in
    let leads = leads_number a.s.now a.at n.whole n.end (sym c.leading_at.ensures ∙ n.was) in
    let point = pointed a.s.now n.end c.stands.result c.stands.ensures c.if-not-stands.false in
    sym (size_none a.s.now a.at a.minus n.whole n.end leads point (omega (arith, c.run_at-run.ensures.end_value, c.if-count-eq0.true)))

pub returns-then-count-gt3 : goal.returns-then-count-gt3
returns-then-count-gt3 c =
    let a = c.args in
    let n = c.in_ok-whole in
    let leads = leads_number a.s.now a.at n.whole n.end (sym c.leading_at.ensures ∙ n.was) in
    let point = pointed a.s.now n.end c.stands.result c.stands.ensures c.if-not-stands.false in
    sym (size_many a.s.now a.at a.minus n.whole n.end leads point (omega (arith, c.run_at-run.ensures.end_value, c.if-count-gt3.true)))

few : (c : Else-count-gt3) → length (Run c.args.s.now c.in_ok-whole.end) ≤ 3
few c = omega (arith, c.run_at-run.ensures.end_value, c.if-count-gt3.false)

small : (c : Else-count-gt3) → c.run_at-run.result.value < 1000
small c = below c.args.s.now c.in_ok-whole.end c.run_at-run.result.value c.run_at-run.ensures.value_value (few c)

pub overflow_mul-result-2 : goal.overflow_mul-result-2
overflow_mul-result-2 c =
    let n = c.in_ok-whole in
    omega (arith, (leads_number c.args.s.now c.args.at n.whole n.end (sym c.leading_at.ensures ∙ n.was)).small)

pub filled-requires : goal.filled-requires
filled-requires c = small c

pub overflow_add-result : goal.overflow_add-result
overflow_add-result c =
    let n = c.in_ok-whole in
    let leads = leads_number c.args.s.now c.args.at n.whole n.end (sym c.leading_at.ensures ∙ n.was) in
    let r = c.run_at-run.result in
    omega (arith, leads.small, c.filled.ensures, cond_below (r.end - (n.end + 1)) r.value (small (goal.at.overflow_add-result c).Else-count-gt3))

pub returns : goal.returns
returns c =
    let a = c.args in
    let n = c.in_ok-whole in
    let leads = leads_number a.s.now a.at n.whole n.end (sym c.leading_at.ensures ∙ n.was) in
    let point = pointed a.s.now n.end c.stands.result c.stands.ensures c.if-not-stands.false in
    let some : 1 ≤ length (Run a.s.now n.end) = omega (arith, c.run_at-run.ensures.end_value, c.if-count-eq0.false) in
    let count : c.run_at-run.result.end - (n.end + 1) ≡ length (Run a.s.now n.end) = omega (arith, c.run_at-run.ensures.end_value) in
    let value = c.run_at-run.ensures.value_value in
    let end = c.run_at-run.ensures.end_value in
    let worth = c.filled.ensures in
    rw (size-some a.s.now a.at a.minus n.whole n.end leads point some (few (goal.at.returns c).Else-count-gt3)) (cc)
