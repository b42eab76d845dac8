-- An exposure at a place of a text, from its digits: at most seven whose first is not 0 are a number from 1 to
-- 9,999,999; more are read. Assumes nothing.
use mathlib.Core.Path.{◌≡◌, refl, ap, sym, ◌∙◌}
use mathlib.Core.Bool.{true, false, and-false}
use mathlib.Core.List.{List, [], ◌∷◌, ◌++◌}
use Prim.Native.Nat.{ℕ, zero, suc, ◌+◌, ◌^◌, ◌≤◌, ◌<◌}
use native.Mathlib.Nat.{add-zero}
use native.Mathlib.Omega.{arith}
use lib.Dec.{ltb}
use lib.ListN.{length, drop, get_or}
use lib.Seq.{get_or-drop}
use borrow.Author.Tests.{eq-eqb, eqb-true, le-leb, ne_eqb}
use Rattle.truth.proofs.Cases.{by_order}
use Rattle.truth.proofs.Laws.{impossible, true≢false}
use Rattle.sample_items.specs.Limits.{longest_time}
use Rattle.decimal.specs.Decimal.{digits_of, is_digit, is_number, longest, value_of, zero_byte}
use Rattle.decimal.specs.Leading.{leading, leading_at, stands_at}
use Rattle.decimal.proofs.Leading.{leading_is, leads_number, led, stands_byte}
use Rattle.decimal.proofs.Text.{all_digits_lem, digits_above, digits_first, digits_one, digits_some, digits_value, number_digits, value_digits}
use Rattle.sheet_records.specs.Pass.{ExposureHere}
use Rattle.sheet_records.proofs.At.{lead_bytes}
use Rattle.std.specs.Prelude.{Some, None}

-- ---- the digits at a place
module _ (s : List ℕ) (at : ℕ) where
  abbrev Digits : List ℕ
  Digits = leading (drop at s)

  -- no exposure that ends with a byte that is no digit
  abbrev pub NoExposure : Type 0
  NoExposure = (t b : ℕ) (rest : List ℕ) → 1 ≤ t → t ≤ longest_time → is_digit b ≡ false → ¬ (drop at s ≡ digits_of t ++ (b ∷ rest))

  are : (t b : ℕ) (rest : List ℕ) → is_digit b ≡ false → drop at s ≡ digits_of t ++ (b ∷ rest) → Digits ≡ digits_of t
  are t b rest d e = ap leading e ∙ leading_is (digits_of t) (b ∷ rest) (all_digits_lem t) d

  pub no_digits : (end : ℕ) → end ≡ at + length Digits → end ≡ at → NoExposure
  no_digits end e same t b rest low high d h = absurd (omega (arith, e, same, ap length (are t b rest d h), digits_some t))

  -- the first digit
  first : (t b : ℕ) (rest : List ℕ) → drop at s ≡ digits_of t ++ (b ∷ rest) → get_or s at 0 ≡ get_or (digits_of t ++ (b ∷ rest)) 0 0
  first t b rest e = rw (← add-zero at, ← get_or-drop) (ap (λ (l : List ℕ). get_or l 0 0) e)

  front : (l m : List ℕ) → 1 ≤ length l → get_or (l ++ m) 0 0 ≡ get_or l 0 0
  front [] m h = absurd (omega arith)
  front (x ∷ l) m h = refl

  pub zero_first : stands_at s at zero_byte ≡ true → NoExposure
  zero_first e t b rest low high d h =
      let byte = first t b rest h ∙ front (digits_of t) (b ∷ rest) (digits_some t) in
      let is = eqb-true (get_or s at 0) zero_byte (sym (stands_byte s at zero_byte (omega arith)) ∙ e) in
      absurd (omega (arith, byte, is, digits_first t low))

  pub no_number : leading_at s at ≡ None → NoExposure
  unfolding leading_at
  no_number e t b rest low high d h =
      impossible (cc (rw (are t b rest d h, number_digits t (omega arith)) at e))

  pub too_much : (v end : ℕ) → leading_at s at ≡ Some (v, end) → longest_time < v → NoExposure
  too_much v end e more t b rest low high d h =
      let l = leads_number s at v end e in
      absurd (omega (arith, l.value ∙ ap value_of (are t b rest d h) ∙ value_digits t))

  here : get_or (drop at s) 0 0 ≡ get_or s at 0
  here = rw (get_or-drop, add-zero)

  -- a number whose first digit is not 0
  module _ (other : stands_at s at zero_byte ≡ false) where
    byte : 1 ≤ length Digits → get_or s at 0 ≡ get_or Digits 0 0
    byte some = sym here ∙ ap (λ (l : List ℕ). get_or l 0 0) (led (drop at s)).parts ∙ front Digits _ some

    not_zero_byte : 1 ≤ length Digits → ¬ (get_or Digits 0 0 ≡ zero_byte)
    not_zero_byte some e = true≢false (sym (stands_byte s at zero_byte (omega arith) ∙ eq-eqb (get_or s at 0) zero_byte (byte some ∙ e)) ∙ other)

    not-zero : (v : ℕ) → digits_of v ≡ Digits → 1 ≤ v
    not-zero zero is = absurd (not_zero_byte (omega (arith, ap length is, digits_some 0)) (ap (λ (l : List ℕ). get_or l 0 0) (sym is ∙ digits_one 0 (omega arith))))
    not-zero (suc v) is = omega arith

    pub read : (v end : ℕ) → leading_at s at ≡ Some (v, end) → v ≤ longest_time → ExposureHere s at end
    read v end e high =
        let l = leads_number s at v end e in
        record {
          exposure = v;
          bytes = lead_bytes s at v end e;
          place = l.place;
          low = not-zero v (ap digits_of l.value ∙ digits_value Digits l.number);
          high = high;
          within = l.within;
        }

    pub few : (end : ℕ) → end ≡ at + length Digits → ¬ (end ≡ at) → end ≤ at + 7 → ExposureHere s at end
    unfolding is_number leading_at
    few end e more short =
        let some : 1 ≤ length Digits = omega (arith, e, more) in
        let number : is_number Digits ≡ true = rw (
          (led (drop at s)).all,
          le-leb 1 (length Digits) some,
          le-leb (length Digits) longest (omega (arith, e)),
          ne_eqb (get_or Digits 0 0) zero_byte
              (not_zero_byte some),
          and-false (ltb 1 (length Digits)),
        ) in
        let v = value_of Digits in
        let reads : leading_at s at ≡ Some (v, end) = rw (number, e) in
        let high : v ≤ longest_time = by_order v (10 ^ 7) (λ h. omega arith) (λ h. absurd (omega (arith, e, ap length (digits_value Digits number), digits_above 7 v h))) in
        read v end reads high
