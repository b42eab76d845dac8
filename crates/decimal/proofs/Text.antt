-- Laws of a number's decimal text. `digits_one` and `digits_more` are its definition without the count of steps, and
-- `by_digits` is induction along it, from v / 10 to v; the laws after them go by those three. Assumes nothing.
use mathlib.Core.Path.{◌≡◌, refl, sym, ◌∙◌}
use mathlib.Core.Bool.{true, false, ◌&&◌, and_assoc, and-false}
use mathlib.Core.List.{List, [], ◌∷◌, ◌++◌, foldl, foldl-append, append_assoc, append-nil}
use Prim.Native.Nat.{ℕ, zero, suc, ◌+◌, ◌-◌, ◌*◌, ◌/◌, ◌%◌, ◌^◌, ◌≤◌, ◌<◌}
use native.Mathlib.Nat.{lt_of_lt_of_le, zero-add, not-suc-le-zero, add-zero, mod-eq_of_lt, pow-suc, pow-le-pow_right}
use native.Mathlib.Numerals.{add-one}
use native.Mathlib.Omega.{arith}
use lib.Dec.{ltb, leb}
use lib.ListN.{length, get_or, length-append, get_or-append}
use borrow.Author.Tests.{lt-ltb, le-ltb, le-leb, ne_eqb, leb-true, ltb-true, eqb-false, not-true}
use Rattle.truth.proofs.Cases.{by_order}
use Rattle.truth.proofs.Laws.{and-true}
use Rattle.decimal.specs.Field.{field_text}
use Rattle.decimal.specs.Decimal.{zero_byte, longest, is_digit, all_digits, leading_zero, is_number, push, value_of, digits_within, digits_of}

abbrev last_digit : ℕ → List ℕ
last_digit v = (zero_byte + v % 10) ∷ []

within_one : (n v : ℕ) → v < 10 → digits_within (suc n) v ≡ last_digit v
unfolding digits_within
within_one n v h = rw (lt-ltb v 10 h)

within_more : (n v : ℕ) → 10 ≤ v → digits_within (suc n) v ≡ digits_within n (v / 10) ++ last_digit v
unfolding digits_within
within_more n v h = rw (le-ltb v 10 h)

-- any number of steps above v is enough
enough : (n m v : ℕ) → v < n → v < m → digits_within n v ≡ digits_within m v
enough zero m v h k = absurd (omega arith)
enough (suc n) zero v h k = absurd (omega arith)
enough (suc n) (suc m) v h k =
    by_order v 10
    (λ l. rw (within_one n v l, within_one m v l))
    (λ l. rw (within_more n v l, within_more m v l, enough n m (v / 10) (omega arith) (omega arith)))

pub digits_one : (v : ℕ) → v < 10 → digits_of v ≡ last_digit v
unfolding digits_of
digits_one v h = within_one v v h

pub digits_more : (v : ℕ) → 10 ≤ v → digits_of v ≡ digits_of (v / 10) ++ last_digit v
unfolding digits_of
digits_more v h = rw (within_more v v h, enough v (suc (v / 10)) (v / 10) (omega arith) (omega arith))

pub length_more : (v : ℕ) → 10 ≤ v → length (digits_of v) ≡ length (digits_of (v / 10)) + 1
length_more v h = rw (digits_more v h, length-append)

pub by_digits : (P : ℕ → Type 0) → ((v : ℕ) → v < 10 → P v) → ((v : ℕ) → 10 ≤ v → P (v / 10) → P v) → (v : ℕ) → P v
by_digits P one more v = go (suc v) v (omega arith)
  where
    go : (n v : ℕ) → v < n → P v
    go zero v h = absurd (omega arith)
    go (suc n) v h = by_order v 10 (one v) (λ l. more v l (go n (v / 10) (omega arith)))

pub value_last : (text : List ℕ) (b : ℕ) → value_of (text ++ (b ∷ [])) ≡ push (value_of text) b
unfolding value_of
value_last text b = foldl-append push 0 text (b ∷ [])

-- the text stands for its number
pub value_digits : (v : ℕ) → value_of (digits_of v) ≡ v
unfolding value_of
value_digits =
    by_digits (λ v. value_of (digits_of v) ≡ v)
    (λ v h. rw (digits_one v h) (omega arith))
    (λ v h e. rw (digits_more v h, value_last, e) (omega arith))

-- it is all digits
pub digit_byte : (d : ℕ) → d < 10 → is_digit (zero_byte + d) ≡ true
digit_byte d h = rw (le-leb zero_byte (zero_byte + d) (omega arith), lt-ltb (zero_byte + d) (zero_byte + 10) (omega arith))

pub all_append : (s t : List ℕ) → all_digits (s ++ t) ≡ (all_digits s && all_digits t)
unfolding all_digits
all_append [] t = refl
all_append (b ∷ s) t = rw (all_append s t) (sym (and_assoc (is_digit b) (all_digits s) (all_digits t)))

pub all_digits_lem : (v : ℕ) → all_digits (digits_of v) ≡ true
unfolding all_digits
all_digits_lem =
    by_digits (λ v. all_digits (digits_of v) ≡ true)
    (λ v h. rw (digits_one v h, digit_byte (v % 10) (omega arith)))
    (λ v h e. rw (digits_more v h, all_append, e, digit_byte (v % 10) (omega arith)))

-- it has a digit for each power of ten that the number reaches, and one at least
pub digits_some : (v : ℕ) → 1 ≤ length (digits_of v)
digits_some =
    by_digits (λ v. 1 ≤ length (digits_of v))
    (λ v h. rw (digits_one v h) (omega arith))
    (λ v h e. rw (digits_more v h, length-append) (omega arith))

pub digits_above : (k v : ℕ) → 10 ^ k ≤ v → k < length (digits_of v)
digits_above zero v h = digits_some v
digits_above (suc k) v h =
    let reach : 10 ^ k * 10 ≤ v = rw pow-suc at h in
    let some : 1 ≤ 10 ^ k = pow-le-pow_right {n = 10} (omega arith) {i = 0} {j = k} (omega arith) in
    rw (digits_more v (omega arith), length-append) (omega (arith, digits_above k (v / 10) (omega arith)))

pub digits_below : (k v : ℕ) → v < 10 ^ suc k → length (digits_of v) ≤ suc k
digits_below zero v h = rw (digits_one v h) (omega arith)
digits_below (suc k) v h =
    let reach : v < 10 ^ suc k * 10 = rw pow-suc at h in
    by_order v 10
    (λ l. rw (digits_one v l) (omega arith))
    (λ l. rw (digits_more v l, length-append) (omega (arith, digits_below k (v / 10) (omega arith))))

-- so it has as many as the largest power of ten that the number reaches says
pub length_one : (v : ℕ) → v ≡ 0 → length (digits_of v) ≡ 1
length_one v h = rw (digits_one v (omega arith))

pub length_reached : (v k : ℕ) → 10 ^ k ≤ v → v < 10 * 10 ^ k → length (digits_of v) ≡ k + 1
length_reached v k low high =
    let high' : v < 10 ^ suc k = rw pow-suc (omega arith) in
    omega (arith, digits_above k v low, digits_below k v high')

-- a field's text has a digit at least, and its end
module _ (v end : ℕ) where
  pub field_some : 2 ≤ length (field_text v end)
  unfolding field_text
  field_some = rw length-append (omega (arith, digits_some v))

  pub field_few : (k : ℕ) → v < 10 ^ suc k → length (field_text v end) ≤ k + 2
  unfolding field_text
  field_few k h = rw length-append (omega (arith, digits_below k v h))

-- the first digit is 0 for 0 alone
pub digits_first : (v : ℕ) → 1 ≤ v → zero_byte < get_or (digits_of v) 0 0
digits_first =
    by_digits (λ v. 1 ≤ v → zero_byte < get_or (digits_of v) 0 0)
    (λ v h some. rw (digits_one v h) (omega arith))
    (λ v h e some. rw (digits_more v h, get_or-append (digits_of (v / 10)) (last_digit v) 0 0 (digits_some (v / 10))) (e (omega arith)))

pub no_leading_zero : (v : ℕ) → leading_zero (digits_of v) ≡ false
no_leading_zero v =
    by_order v 1
    (λ l. rw (digits_one v (omega arith)))
    (λ l. rw (ne_eqb (get_or (digits_of v) 0 0) zero_byte (λ e. omega (arith, digits_first v l)), and-false))

-- 1 to 12 digits: it is a number of the sheet
pub number_digits : (v : ℕ) → v < 10 ^ longest → is_number (digits_of v) ≡ true
unfolding is_number
number_digits v h =
    rw (
      all_digits_lem v,
      le-leb 1 (length (digits_of v)) (digits_some v),
      le-leb (length (digits_of v)) longest (digits_below 11 v h),
      no_leading_zero v,
    )

-- a digit byte lies between those of 0 and 9
pub digit_range : (b : ℕ) → is_digit b ≡ true → (zero_byte ≤ b) × (b < zero_byte + 10)
digit_range b d =
    let (low, high) = and-true (leb zero_byte b) (ltb b (zero_byte + 10)) d in
    (leb-true zero_byte b low, ltb-true b (zero_byte + 10) high)

-- a digit more after a number is a digit more after its text
digits_push : (v b : ℕ) → 1 ≤ v → is_digit b ≡ true → digits_of (push v b) ≡ digits_of v ++ (b ∷ [])
digits_push v b some d =
    let (low, high) = digit_range b d in
    let small : b - zero_byte < 10 = omega arith in
    let whole : push v b / 10 ≡ v = omega arith in
    let digit : push v b % 10 ≡ b - zero_byte = omega arith in
    let byte : zero_byte + (b - zero_byte) ≡ b = omega arith in
    rw (digits_more (push v b) (omega arith), whole, digit, byte)

digits_single : (b : ℕ) → is_digit b ≡ true → digits_of (push 0 b) ≡ b ∷ []
digits_single b d =
    let (low, high) = digit_range b d in
    let small : push 0 b < 10 = omega arith in
    let byte : zero_byte + push 0 b ≡ b = omega arith in
    rw (digits_one (push 0 b) small, mod-eq_of_lt small, byte)

digits_fold : (v : ℕ) (text : List ℕ) → 1 ≤ v → all_digits text ≡ true → digits_of (foldl push v text) ≡ digits_of v ++ text
unfolding all_digits
digits_fold v [] some ds = rw append-nil
digits_fold v (b ∷ text) some ds =
    let (d, rest) = and-true (is_digit b) (all_digits text) ds in
    digits_fold (push v b) text (omega arith) rest ∙ rw (digits_push v b some d, append_assoc)

-- what makes a text a number of the sheet, one by one
pub record Sound (text : List ℕ) : Type 0 where
  pub all : all_digits text ≡ true
  pub some : 1 ≤ length text
  pub short : length text ≤ longest
  pub plain : leading_zero text ≡ false

pub sound : (text : List ℕ) → is_number text ≡ true → Sound text
unfolding is_number
sound text n =
    let (all, n₁) = and-true (all_digits text) _ n in
    let (some, n₂) = and-true (leb 1 (length text)) _ n₁ in
    let (short, plain) = and-true (leb (length text) longest) _ n₂ in
    record {
      all = all;
      some = leb-true 1 (length text) some;
      short = leb-true (length text) longest short;
      plain = not-true (leading_zero text) plain;
    }

-- a number of the sheet has no other text than its digits
pub digits_value : (text : List ℕ) → is_number text ≡ true → digits_of (value_of text) ≡ text
unfolding all_digits value_of
digits_value [] n = absurd (not-suc-le-zero (sound [] n).some)
digits_value (b ∷ []) n = digits_single b (and-true (is_digit b) true (sound (b ∷ []) n).all).0
digits_value (b ∷ c ∷ text) n =
    let (d, rest) = and-true (is_digit b) (all_digits (c ∷ text)) (sound (b ∷ c ∷ text) n).all in
    let more : ltb 1 (length (b ∷ c ∷ text)) ≡ true = lt-ltb 1 (length (b ∷ c ∷ text)) (omega arith) in
    let other : b ≡ zero_byte → ⊥ = eqb-false b zero_byte (rw more at (sound (b ∷ c ∷ text) n).plain) in
    let range = digit_range b d in
    digits_fold (push 0 b) (c ∷ text) (omega arith) rest ∙ rw (digits_single b d)

-- k digits are worth less than ten to the k
pub push_below : (v b k : ℕ) → v < 10 ^ k → is_digit b ≡ true → push v b < 10 ^ (k + 1)
push_below v b k h d = let range = digit_range b d in rw (add-one, pow-suc) (omega arith)

fold_below : (v k : ℕ) (text : List ℕ) → v < 10 ^ k → all_digits text ≡ true → foldl push v text < 10 ^ (k + length text)
unfolding all_digits
fold_below v k [] h ds = rw add-zero h
fold_below v k (b ∷ text) h ds =
    let (d, rest) = and-true (is_digit b) (all_digits text) ds in
    let one_more : k + length (b ∷ text) ≡ k + 1 + length text = omega arith in
    rw one_more (fold_below (push v b) (k + 1) text (push_below v b k h d) rest)

pub value_below : (text : List ℕ) → all_digits text ≡ true → value_of text < 10 ^ length text
unfolding value_of
value_below text ds = rw zero-add at (fold_below 0 0 text (omega arith) ds)

pub number_below : (text : List ℕ) → is_number text ≡ true → value_of text < 10 ^ longest
number_below text n =
    let facts = sound text n in
    lt_of_lt_of_le (value_below text facts.all) (pow-le-pow_right {n = 10} (omega arith) facts.short)
