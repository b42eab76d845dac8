-- The digits of a number put from the last to the first: what is left to put is the text of what is left of the number,
-- and nothing once the place of the first digit is reached. Assumes nothing.
use mathlib.Core.Path.{◌≡◌, refl, sym, ◌∙◌}
use mathlib.Core.List.{List, []}
use Prim.Native.Nat.{ℕ, zero, suc, ◌+◌, ◌-◌, ◌/◌, ◌%◌, ◌≤◌, ◌<◌}
use native.Mathlib.Omega.{arith}
use native.Mathlib.Nat.{add-zero}
use lib.ListN.{length, set, length-set}
use Rattle.truth.proofs.Cases.{by_order}
use Rattle.text.specs.Write.{laid}
use Rattle.text.proofs.Laws.{laid_none, laid_one, laid_last}
use Rattle.decimal.specs.Decimal.{zero_byte, digits_of}
use Rattle.decimal.proofs.Text.{digits_one, digits_more, digits_some, length_more}

-- the k digits that are left to put
abbrev pub rest_of : ℕ → ℕ → List ℕ
rest_of zero rest = []
rest_of (suc k) rest = digits_of rest

rest_all : (k v : ℕ) → k ≡ length (digits_of v) → rest_of k v ≡ digits_of v
rest_all zero v e = absurd (omega (arith, digits_some v))
rest_all (suc k) v e = refl

-- `out` was lent, and holds the digits of v from the place i on; those of `rest` are left to put
pub record Putting (out₀ out : List ℕ) (at v rest i : ℕ) : Type 0 where
  pub room : at + length (digits_of v) ≤ length out₀
  pub same : length out ≡ length out₀
  pub from : at ≤ i
  pub to : i ≤ at + length (digits_of v)
  pub few : length (rest_of (i - at) rest) ≡ i - at
  pub bytes : laid out at (rest_of (i - at) rest) ≡ laid out₀ at (digits_of v)

pub none_put : (out : List ℕ) (at v i : ℕ) → at + length (digits_of v) ≤ length out → i ≡ at + length (digits_of v)
    → Putting out out at v v i
none_put out at v i room e =
    let all : rest_of (i - at) v ≡ digits_of v = rest_all (i - at) v (omega arith) in
    record { room = room; same = refl; from = omega arith; to = omega arith; few = rw all (omega arith); bytes = rw all }

-- one digit more
put_one : (k : ℕ) (out : List ℕ) (at rest b : ℕ) → length (digits_of rest) ≡ suc k → at + suc k ≤ length out
    → b ≡ zero_byte + rest % 10
    → (laid (set out (at + k) b) at (rest_of k (rest / 10)) ≡ laid out at (digits_of rest)) × (length (rest_of k (rest / 10)) ≡ k)
put_one zero out at rest b few room byte =
    by_order rest 10
    (λ l. (rw (digits_one rest l, ← byte, laid_none, add-zero, laid_one out at b (omega arith)), refl))
    (λ l. absurd (omega (arith, length_more rest l, digits_some (rest / 10))))
put_one (suc k) out at rest b few room byte =
    by_order rest 10
    (λ l. absurd (omega (arith, rw (digits_one rest l) at few)))
    (λ l.
    let n = length_more rest l in
    let less : length (digits_of (rest / 10)) ≡ suc k = omega arith in
    (rw (digits_more rest l, ← byte, laid_last out at (digits_of (rest / 10)) b (omega arith), less), less))

pub one_put : {out₀ out : List ℕ} {at v rest i : ℕ} (b : ℕ) → Putting out₀ out at v rest i → at < i → b ≡ zero_byte + rest % 10
    → Putting out₀ (set out (i - 1) b) at v (rest / 10) (i - 1)
one_put {out₀} {out} {at} {v} {rest} {i} b p more byte =
    let k = i - 1 - at in
    let here : i - at ≡ suc k = omega arith in
    let place : at + k ≡ i - 1 = omega arith in
    let few : length (digits_of rest) ≡ suc k = rw here at p.few in
    let bytes : laid out at (digits_of rest) ≡ laid out₀ at (digits_of v) = rw here at p.bytes in
    let (put, less) = put_one k out at rest b few (omega (arith, p.room, p.same, p.to)) byte in
    record {
      room = p.room;
      same = rw length-set p.same;
      from = omega arith;
      to = omega (arith, p.to);
      few = less;
      bytes = (rw place at put) ∙ bytes;
    }

pub all_put : {out₀ out : List ℕ} {at v rest i : ℕ} → Putting out₀ out at v rest i → i ≤ at → out ≡ laid out₀ at (digits_of v)
all_put {out₀} {out} {at} {v} {rest} {i} p end =
    let none : i - at ≡ 0 = omega arith in
    sym (laid_none out at) ∙ rw none at p.bytes
