-- Bytes held against a form: where nothing of their turned bits meets the mask, nor with the digits moved on by six,
-- each byte is of its kind. Byte by byte, with what stands before as an accumulator. Assumes nothing.
use mathlib.Core.Path.{◌≡◌, refl, sym, ap, ◌∙◌}
use mathlib.Core.Bool.{Bool, true, not, ◌&&◌, ◌||◌}
use mathlib.Core.List.{List, [], ◌∷◌, map, foldl}
use Prim.Native.Nat.{ℕ, zero, suc, ◌+◌, ◌-◌, ◌*◌, ◌/◌, ◌%◌, ◌^◌, ◌≤◌, ◌<◌}
use native.Mathlib.Omega.{arith}
use native.Mathlib.Nat.{mod-eq_of_lt, pow-suc, mul-le-mul_right, lt_of_lt_of_le}
use lib.Bits.{bit_and, bit_xor, and_block, and_mask, and_high, and_le_l, and_le_r, xor_block, xor_lt, xor_add_and}
use lib.Dec.{ltb}
use lib.ListN.{length, get_or, take, drop}
use borrow.Author.Tests.{lt-ltb, ltb-true}
use Rattle.truth.proofs.Cases.{by_order}
use Rattle.truth.proofs.Laws.{and-true}
use Rattle.decimal.specs.Decimal.{is_digit}
use Rattle.comma_word.specs.Word.{beside, word, Small}
use Rattle.comma_word.specs.Form.{Kind, the, digit, any, mask_of, bits_of, more_of, mask, bits, more}
use Rattle.comma_word.proofs.Row.{row, row_is, row_length}

-- a byte is of a kind
pub data Is : Kind → ℕ → Type 0 where
  is_the : {c b : ℕ} → b ≡ c → Is (the c) b
  is_digit_lem : {b : ℕ} → is_digit b ≡ true → Is digit b
  is_any : {b : ℕ} → Is any b

-- ---- one byte, its bits turned where the form has one
module _ (y : ℕ) (small : y < 256) where
  whole : bit_and y 255 ≡ y
  whole = and_mask y 8 ∙ mod-eq_of_lt small

  high : bit_and y 240 ≡ y / 16 * 16
  high = and_high y 4 4 ∙ ap (λ (n : ℕ). n * 16) (mod-eq_of_lt {n = y / 16} {m = 16} (omega arith))

xor_same : (a b : ℕ) → bit_xor a b ≡ 0 → a ≡ b
xor_same a b e = omega (arith, xor_add_and a b, and_le_l a b, and_le_r a b)

-- all bytes tried
unfoldable tried : ℕ → Bool
tried zero = true
tried (suc b) = (not (ltb (bit_xor b 48) 10) || is_digit b) && tried b

all_tried : tried 256 ≡ true
unfolding tried
all_tried = refl

one_tried : (n b : ℕ) → tried n ≡ true → b < n → bit_xor b 48 < 10 → is_digit b ≡ true
unfolding tried
one_tried zero b t l h = absurd (omega arith)
one_tried (suc n) b t l h =
    let (this, others) = and-true (not (ltb (bit_xor n 48) 10) || is_digit n) (tried n) t in
    by_order b n
    (λ m. one_tried n b others m h)
    (λ m. let same : b ≡ n = omega arith in rw same (rw (lt-ltb (bit_xor n 48) 10 (rw (← same) h)) at this))

kind_moves : (k : Kind) (y : ℕ) → y < 256 → bit_and y (mask_of k) ≡ 0 → y + more_of k < 256
unfolding mask_of more_of
kind_moves (the c) y l e = omega arith
kind_moves digit y l e = let h = sym (high y l) ∙ e in omega arith
kind_moves any y l e = omega arith

kind_is : (k : Kind) (b : ℕ) → b < 256 → bit_xor b (bits_of k) < 256 → bit_and (bit_xor b (bits_of k)) (mask_of k) ≡ 0 → bit_and (bit_xor b (bits_of k) + more_of k) (mask_of k) ≡ 0 → Is k b
unfolding mask_of bits_of more_of
kind_is (the c) b l m e f = is_the (xor_same b c (sym (whole (bit_xor b c) m) ∙ e))
kind_is digit b l m e f =
    let h = sym (high (bit_xor b 48) m) ∙ e in
    let n : bit_xor b 48 + 6 < 256 = omega arith in
    let g = sym (high (bit_xor b 48 + 6) n) ∙ f in
    is_digit_lem (one_tried 256 b all_tried l (omega arith))
kind_is any b l m e f = is_any

mask_small : (k : Kind) → mask_of k < 256
unfolding mask_of
mask_small (the b) = omega arith
mask_small digit = omega arith
mask_small any = omega arith

-- ---- a row of bytes
pub data Row : List Kind → List ℕ → Type 0 where
  none : Row [] []
  byte : {k : Kind} {b : ℕ} {form : List Kind} {bs : List ℕ} → b < 256 → bits_of k < 256 → Row form bs → Row (k ∷ form) (b ∷ bs)

data Masked : List Kind → List ℕ → Type 0 where
  end : Masked [] []
  next : {k : Kind} {y : ℕ} {form : List Kind} {ys : List ℕ} → bit_and y (mask_of k) ≡ 0 → Masked form ys → Masked (k ∷ form) (y ∷ ys)

pub data Are : List Kind → List ℕ → Type 0 where
  end : Are [] []
  next : {k : Kind} {b : ℕ} {form : List Kind} {bs : List ℕ} → Is k b → Are form bs → Are (k ∷ form) (b ∷ bs)

-- a row with its bits turned
unfoldable crossed : List Kind → List ℕ → List ℕ
crossed [] bs = bs
crossed (k ∷ form) [] = []
crossed (k ∷ form) (b ∷ bs) = bit_xor b (bits_of k) ∷ crossed form bs

crossed_word : {form : List Kind} {bs : List ℕ} (a c : ℕ) → Row form bs → bit_xor (foldl beside a bs) (foldl beside c (map bits_of form)) ≡ foldl beside (bit_xor a c) (crossed form bs)
unfolding crossed
crossed_word a c none = refl
crossed_word a c (byte {k} {b} {form} {bs} small own r) =
    crossed_word (beside a b) (beside c (bits_of k)) r ∙ ap (λ (v : ℕ). foldl beside v (crossed form bs)) (xor_block 8 a c b (bits_of k) small own)

crossed_row : {form : List Kind} {bs : List ℕ} → Row form bs → Row form (crossed form bs)
unfolding crossed
crossed_row none = none
crossed_row (byte {k} {b} small own r) = byte (xor_lt 8 b (bits_of k) small own) own (crossed_row r)

-- what stands in front meets nothing, and no byte its mask
masked : {form : List Kind} {ys : List ℕ} (a m : ℕ) → Row form ys → bit_and (foldl beside a ys) (foldl beside m (map mask_of form)) ≡ 0 → (bit_and a m ≡ 0) × Masked form ys
masked a m none e = (e, end)
masked a m (byte {k} {b} small own r) e =
    let (front, rest) = masked (beside a b) (beside m (mask_of k)) r e in
    let here = sym (and_block 8 a m b (mask_of k) small (mask_small k)) ∙ front in
    (omega arith, next {k = k} {y = b} (omega arith) rest)

-- a row with its digits moved on
unfoldable moved : List Kind → List ℕ → List ℕ
moved [] ys = ys
moved (k ∷ form) [] = []
moved (k ∷ form) (y ∷ ys) = (y + more_of k) ∷ moved form ys

moved_word : {form : List Kind} {ys : List ℕ} (a c : ℕ) → Row form ys → foldl beside a ys + foldl beside c (map more_of form) ≡ foldl beside (a + c) (moved form ys)
unfolding moved
moved_word a c none = refl
moved_word a c (byte {k = k} {b = b} {form = form} {bs = ys} small own r) =
    moved_word (beside a b) (beside c (more_of k)) r ∙ ap (λ (v : ℕ). foldl beside v (moved form ys)) (omega arith)

moved_row : {form : List Kind} {ys : List ℕ} → Row form ys → Masked form ys → Row form (moved form ys)
unfolding moved
moved_row none end = none
moved_row (byte {k} {b} small own r) (next e m) = byte (kind_moves k b small e) own (moved_row r m)

kinds : {form : List Kind} {bs : List ℕ} → Row form bs → Masked form (crossed form bs) → Masked form (moved form (crossed form bs)) → Are form bs
unfolding moved crossed
kinds none end m = end
kinds (byte {k} {b} small own r) (next e m) (next f n) = next (kind_is k b small (xor_lt 8 b (bits_of k) small own) e f) (kinds r m n)

-- a row is below what has one place more
below : {form : List Kind} {ys : List ℕ} (a : ℕ) → Row form ys → foldl beside a ys < (a + 1) * 256 ^ length ys
below a none = omega arith
below a (byte {b = b} {bs = ys} small own r) =
    lt_of_lt_of_le (below (beside a b) r) (rw (pow-suc 256 (length ys)) (omega (arith, mul-le-mul_right {m = b + 1} {n = 256} (256 ^ length ys) (omega arith))))

same_length : {form : List Kind} {bs : List ℕ} → Row form bs → length (moved form (crossed form bs)) ≡ length bs
unfolding moved crossed
same_length none = refl
same_length (byte small own r) = ap suc (same_length r)

pub held : {form : List Kind} {bs : List ℕ} → length bs ≡ 8 → Row form bs
    → bit_and (bit_xor (word bs) (bits form)) (mask form) ≡ 0 → bit_and ((bit_xor (word bs) (bits form) + more form) % 2 ^ 64) (mask form) ≡ 0 → Are form bs
unfolding word
held {form} {bs} long r e f =
    let c : bit_xor (word bs) (bits form) ≡ foldl beside 0 (crossed form bs) = crossed_word 0 0 r in
    let q = crossed_row r in
    let m = (masked 0 0 q (ap (λ (v : ℕ). bit_and v (mask form)) (sym c) ∙ e)).1 in
    let n = moved_row q m in
    let within : foldl beside 0 (moved form (crossed form bs)) < 2 ^ 64 = rw (same_length r ∙ long) at (below 0 n) in
    let sum : foldl beside 0 (moved form (crossed form bs)) ≡ (bit_xor (word bs) (bits form) + more form) % 2 ^ 64 =
    sym (mod-eq_of_lt within) ∙ ap (λ (v : ℕ). v % 2 ^ 64) (sym (moved_word 0 0 q) ∙ ap (λ (v : ℕ). v + more form) (sym c)) in
    kinds r m (masked 0 0 n (ap (λ (v : ℕ). bit_and v (mask form)) sum ∙ f)).1

-- what a row that is held says of its first byte
pub first-is : {k : Kind} {form : List Kind} {b : ℕ} {bs : List ℕ} → Are (k ∷ form) (b ∷ bs) → Is k b
first-is (next i a) = i

pub others_are : {k : Kind} {form : List Kind} {b : ℕ} {bs : List ℕ} → Are (k ∷ form) (b ∷ bs) → Are form bs
others_are (next i a) = a

pub the_byte : {c b : ℕ} → Is (the c) b → b ≡ c
the_byte (is_the e) = e

pub a_digit : {b : ℕ} → Is digit b → is_digit b ≡ true
a_digit (is_digit_lem d) = d

-- the bytes of a text from a place on as a row
unfoldable pub own : List Kind → Bool
own [] = true
own (k ∷ form) = ltb (bits_of k) 256 && own form

row_from : (s : List ℕ) (at n : ℕ) (form : List Kind) → own form ≡ true → ((i : ℕ) → i < n + length form → get_or s (at + i) 0 < 256) → Row form (row s at n (length form))
unfolding own row
row_from s at n [] o small = none
row_from s at n (k ∷ form) o small =
    let (this, others) = and-true (ltb (bits_of k) 256) _ o in
    byte (small n (omega arith)) (ltb-true (bits_of k) 256 this) (row_from s at (suc n) form others (λ i l. small i (omega arith)))

pub against : (s : List ℕ) (at : ℕ) (form : List Kind) → own form ≡ true → length form ≡ 8 → at + 8 ≤ length s → Small s at 8 → (v : ℕ) → v ≡ word (take 8 (drop at s))
    → bit_and (bit_xor v (bits form)) (mask form) ≡ 0 → bit_and ((bit_xor v (bits form) + more form) % 2 ^ 64) (mask form) ≡ 0 → Are form (row s at 0 8)
against s at form o long room small v is e f =
    let same : v ≡ word (row s at 0 8) = is ∙ ap word (row_is s at 8 room) in
    let r : Row form (row s at 0 8) = rw long at (row_from s at 0 form o (λ i l. small i (omega arith))) in
    held (row_length s at 0 8) r (rw same at e) (rw same at f)
