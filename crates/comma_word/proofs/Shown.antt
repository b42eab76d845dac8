-- Bytes that are a number's digits side by side, each with the byte of 0 on it, read as that number. By induction on
-- how many of the bytes are looked at: the last one's digit is the number's last, and those before it show the number
-- without it. Assumes nothing.
use mathlib.Core.Path.{◌≡◌, refl, ◌∙◌}
use mathlib.Core.Bool.{true}
use mathlib.Core.List.{List}
use Prim.Native.Nat.{ℕ, zero, suc, ◌+◌, ◌-◌, ◌*◌, ◌/◌, ◌%◌, ◌^◌, ◌≤◌, ◌<◌}
use native.Mathlib.Nat.{pow-suc, pow-le-pow_right, mul-le-mul_right, div-lt_iff_lt-mul}
use native.Mathlib.Omega.{arith}
use lib.ListN.{length, get_or, take}
use lib.Pow.{pow-add}
use lib.Seq.{take-suc, take-length}
use Rattle.truth.proofs.Cases.{by_order}
use Rattle.decimal.specs.Decimal.{zero_byte, all_digits, value_of}
use Rattle.decimal.proofs.Text.{value_last, all_append, digit_byte}
use Rattle.comma_word.specs.Dial.{dial, each}
use Rattle.comma_word.specs.Word.{word}
use Rattle.comma_word.proofs.Dial.{parts, zero_alone}
use Rattle.comma_word.proofs.Bytes.{Bytes, word_suc, word_below}

first : (bytes : List ℕ) → Bytes bytes → (k n : ℕ) → k ≤ length bytes → word (take k bytes) ≡ dial k n + each zero_byte k → n < 10 ^ k
    → (all_digits (take k bytes) ≡ true) × (value_of (take k bytes) ≡ n)
unfolding dial each all_digits value_of word
first bytes hs zero n few e h = (refl, omega arith)
first bytes hs (suc k) n few e h =
    let small : n < 10 ^ k * 10 = rw pow-suc at h in
    let byte = hs k in
    let sum = rw (word_suc bytes k few) at e in
    let digit : get_or bytes k 0 ≡ zero_byte + n % 10 = omega arith in
    let (all, value) = first bytes hs k (n / 10) (omega arith) (omega arith) (omega arith) in
    rw (take-suc bytes k 0 few, all_append, all, value_last, value, digit, digit_byte (n % 10) (omega arith)) (refl, omega arith)

pub shown : (bytes : List ℕ) (n : ℕ) → Bytes bytes → word bytes ≡ dial (length bytes) n + each 48 (length bytes) → n < 10 ^ length bytes
    → (all_digits bytes ≡ true) × (value_of bytes ≡ n)
shown bytes n hs e h = rw (take-length bytes) at (first bytes hs (length bytes) n (omega arith) (rw (take-length bytes) e) h)

-- the same of more digits than there are bytes: the digits before them would make the number too large, so there are
-- none
wide : (bytes : List ℕ) (j n : ℕ) → Bytes bytes → word bytes ≡ dial (j + length bytes) n + each 48 (length bytes) → n < 10 ^ (j + length bytes)
    → (all_digits bytes ≡ true) × (value_of bytes ≡ n)
wide bytes j n hs e h = shown bytes n hs (rw (parts j k n, none) at e ∙ omega arith) few
  where
    k : ℕ
    k = length bytes

    none : dial j (n / 10 ^ k) ≡ 0
    none =
        let whole = rw (parts j k n) at e in
        let most : word bytes < 256 ^ k = rw (take-length bytes) at (word_below bytes hs k (omega arith)) in
        by_order (dial j (n / 10 ^ k)) 1
        (λ l. omega arith)
        (λ l. absurd (omega (arith, mul-le-mul_right (256 ^ k) l)))

    few : n < 10 ^ k
    few =
        let some : 1 ≤ 10 ^ k = pow-le-pow_right {n = 10} (omega arith) {i = 0} {j = k} (omega arith) in
        let before = zero_alone j (n / 10 ^ k) ((div-lt_iff_lt-mul some).1 (rw pow-add at h)) none in
        omega (arith, (div-lt_iff_lt-mul {x = n} {y = 1} some).0 (omega arith))

pub shown_wide : (bytes : List ℕ) (n : ℕ) → Bytes bytes → length bytes ≤ 8 → word bytes ≡ dial 8 n + each 48 (length bytes) → n < 10 ^ 8
    → (all_digits bytes ≡ true) × (value_of bytes ≡ n)
shown_wide bytes n hs l e h =
    let width : 8 - length bytes + length bytes ≡ 8 = omega arith in
    wide bytes (8 - length bytes) n hs (rw width e) (rw width h)
