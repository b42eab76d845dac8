use mathlib.Core.Path.{◌≡◌, sym, ◌∙◌}
use mathlib.Core.Bool.{true}
use mathlib.Core.List.{List, [], ◌∷◌, foldl}
use Prim.Native.Nat.{ℕ, ◌+◌, ◌-◌, ◌^◌, ◌<◌}
use native.Mathlib.Nat.{lt_of_lt_of_le, pow-le-pow_right}
use native.Mathlib.Omega.{arith}
use lib.ListN.{length, get_or}
use Rattle.decimal.specs.Decimal.{longest, is_digit, push, value_of}
use Rattle.decimal.proofs.Text.{push_below}
use Rattle.decimal.proofs.Reading.{run, left, left_digit, left_other, left_none}
use Rattle.decimal.proofs.run_at.Goals as goal
use Rattle.decimal.proofs.run_at.Goals.{Else-not-is_digit}

-- where no digit is left, the value and the place are the run's
stopped : (s : List ℕ) (at i value : ℕ)
    → (foldl push value (left s at i) ≡ value_of (run s at)) × (i + length (left s at i) ≡ at + length (run s at))
    → left s at i ≡ []
    → (value ≡ value_of (run s at)) × (i ≡ at + length (run s at))
stopped s at i value (v, e) none = (rw none at v, omega (arith, rw none at e))

pub loop-i-init : goal.loop-i-init
unfolding value_of
loop-i-init c =
    let a = c.args in
    let whole : a.at + longest - a.at ≡ longest = omega arith in
    let none : a.at - a.at ≡ 0 = omega arith in
    (omega arith, (rw none (omega arith), (rw whole, rw whole)))

pub returns-then-not-is_digit : goal.returns-then-not-is_digit
returns-then-not-is_digit c =
    let a = c.args in
    let l = c.loop-i in
    let other = sym c.is_digit.ensures ∙ c.if-not-is_digit.true in
    let whole = stopped a.s.now a.at l.i l.value l.invariant.1.1
    (left_other a.s.now a.at l.i (omega arith) (omega arith) other) in
    record { value_value = whole.0; end_value = whole.1 }

abbrev S : Else-not-is_digit → List ℕ
S c = c.args.s.now

abbrev At : Else-not-is_digit → ℕ
At c = c.args.at

abbrev B : Else-not-is_digit → ℕ
B c = get_or (S c) c.loop-i.i 0

digit : (c : Else-not-is_digit) → is_digit (B c) ≡ true
digit c = sym c.is_digit.ensures ∙ c.if-not-is_digit.false

below : (c : Else-not-is_digit) → push c.loop-i.value (B c) < 10 ^ (c.loop-i.i + 1 - At c)
below c =
    let e : c.loop-i.i + 1 - At c ≡ c.loop-i.i - At c + 1 = omega arith in
    rw e (push_below c.loop-i.value (B c) (c.loop-i.i - At c) c.loop-i.invariant.1.0 (digit c))

small : (c : Else-not-is_digit) → push c.loop-i.value (B c) < 10 ^ longest
small c = lt_of_lt_of_le (below c)
    (pow-le-pow_right {n = 10} (omega arith) {i = c.loop-i.i + 1 - At c} {j = longest} (omega arith))

pub overflow_mul-value : goal.overflow_mul-value
overflow_mul-value c = omega (arith, small c)

pub overflow_add-value : goal.overflow_add-value
overflow_add-value c = omega (arith, small c)

pub loop-i-preserved : goal.loop-i-preserved
loop-i-preserved c =
    let l = c.loop-i in
    let turn : left (S c) (At c) l.i ≡ B c ∷ left (S c) (At c) (l.i + 1) = left_digit (S c) (At c) l.i (omega arith)
    (omega arith) (digit c) in
    (omega arith, (below c, (rw turn at l.invariant.1.1.0, omega (arith, rw turn at l.invariant.1.1.1))))

pub returns : goal.returns
returns c =
    let a = c.args in
    let l = c.loop-i in
    let end : l.i ≡ c.last_place-stop.result = omega arith in
    let whole = stopped a.s.now a.at l.i l.value l.invariant.1.1 (left_none a.s.now a.at l.i (omega arith)) in
    record { value_value = whole.0; end_value = sym end ∙ whole.1 }
