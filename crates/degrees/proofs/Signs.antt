-- Laws of a sample's sign and of its text. Assumes nothing.
use mathlib.Core.Path.{◌≡◌, refl, sym, ap, ◌∙◌}
use mathlib.Core.Bool.{Bool, true, false, cond, not}
use mathlib.Core.List.{List, [], ◌∷◌}
use Prim.Native.Nat.{ℕ, zero, suc, ◌+◌, ◌/◌, ◌≤◌}
use native.Mathlib.Nat.{add_assoc}
use native.Mathlib.Omega.{arith}
use borrow.Author.Tests.{ltb-true, lt-ltb, eq-eqb, ne_eqb}
use lib.Dec.{eqb}
use lib.IntN.{ℤ, pos, negsuc, neg_ℤ, nat_abs, ◌-ℤ◌}
use lib.ListN.{length, drop, length-append}
use lib.Seq.{drop-drop}
use lib.Signed.{lt_z}
use mir.Syntax.{w32}
use mir.Val.{SFits}
use Rattle.truth.proofs.Cases.{by_test}
use Rattle.truth.proofs.Laws.{impossible, true≢false}
use Rattle.decimal.specs.Decimal.{digits_of}
use Rattle.degrees.specs.Degrees.{minus, below, sign_length, unsigned, size, is_degrees, degrees_length, degrees_at, size_at, sign, degrees_text}
use Rattle.std.specs.Prelude.{Some, None}
use Rattle.truth.proofs.Answers.{none_not_some, same_some, some_not_none}

pub sign_below : (x : ℤ) → lt_z x (pos 0) ≡ true → sign x ≡ minus ∷ []
sign_below (pos n) t = absurd (omega (arith, ltb-true n 0 t))
sign_below (negsuc n) t = refl

pub sign_other : (x : ℤ) → lt_z x (pos 0) ≡ false → sign x ≡ []
sign_other (pos n) t = refl
sign_other (negsuc n) t = absurd (true≢false t)

pub text_length : (x : ℤ) → length (degrees_text x) ≡ length (sign x) + (length (digits_of (nat_abs x / 1000)) + 4)
unfolding degrees_text
text_length x = simp length-append

pub below-zero : (n : ℕ) → pos 0 -ℤ pos n ≡ neg_ℤ (pos n)
below-zero zero = refl
below-zero (suc n) = rw (lt-ltb 0 (suc n) (omega arith)) (ap negsuc (omega arith))

-- the size of a sample of 32 bits
pub abs_small : (x : ℤ) → SFits w32 x → nat_abs x ≤ 2147483648
abs_small (pos n) f = omega arith
abs_small (negsuc n) f = omega arith

-- whether there is a minus is told by the place after it
sign_told : (b : Bool) (at : ℕ) → not (eqb (at + cond b 1 0) at) ≡ b
sign_told true at = rw (ne_eqb (at + 1) at (λ e. omega arith))
sign_told false at = rw (eq-eqb (at + 0) at (omega arith))

-- degrees are read after their sign
by_size : (s : List ℕ) (at : ℕ) → degrees_at s at ≡ size_at s (at + sign_length (drop at s)) (below (drop at s))
unfolding degrees_at size_at
by_size s at = simp (drop-drop, add_assoc)

pub after_sign : (s : List ℕ) (at from : ℕ) → from ≡ at + sign_length (drop at s) → size_at s from (not (eqb from at)) ≡ degrees_at s at
after_sign s at from e =
    let b = below (drop at s) in
    ap (λ f. size_at s f (not (eqb f at))) e ∙ ap (size_at s (at + cond b 1 0)) (sign_told b at) ∙ sym (by_size s at)

-- what an answer of the reader says
pub record ReadsAs (s : List ℕ) (at : ℕ) (b : Bool) (n next : ℕ) : Type 0 where
  pub right : is_degrees (drop at s) ≡ true
  pub sign : below (drop at s) ≡ b
  pub value : size (unsigned (drop at s)) ≡ n
  pub place : next ≡ at + degrees_length (drop at s)

module _ (s : List ℕ) (at : ℕ) where
  pub degrees_read : (b : Bool) (n next : ℕ) → degrees_at s at ≡ Some (b, n, next) → ReadsAs s at b n next
  unfolding degrees_at
  degrees_read b n next r =
      by_test (is_degrees (drop at s))
      (λ h.
      let e : ◌≡◌ {A = Bool × ℕ × ℕ} (below (drop at s), size (unsigned (drop at s)), at + degrees_length (drop at s)) (b, n, next) = same_some (rw h at r) in
      record {
        right = h;
        sign = ap (λ (p : Bool × ℕ × ℕ). p.0) e;
        value = ap (λ (p : Bool × ℕ × ℕ). p.1) e;
        place = sym (ap (λ (p : Bool × ℕ × ℕ). p.2) e);
      })
      (λ h. absurd (none_not_some (rw h at r)))

  pub degrees_none : degrees_at s at ≡ None → is_degrees (drop at s) ≡ false
  unfolding degrees_at
  degrees_none r = by_test (is_degrees (drop at s)) (λ h. absurd (some_not_none (rw h at r))) (λ h. h)
