-- Degrees taken apart and put together: a text that starts with degrees is a sign, the bytes of a size and what
-- follows; and such a text starts with those degrees, whatever follows, if it is neither a digit nor a point. Assumes
-- nothing.
use mathlib.Core.Path.{◌≡◌, refl, ap, ◌∙◌}
use mathlib.Core.Bool.{Bool, true, false, cond, ◌&&◌}
use mathlib.Core.List.{List, [], ◌∷◌, ◌++◌, append_assoc}
use Prim.Native.Nat.{ℕ, ◌+◌, ◌*◌, ◌≤◌}
use native.Mathlib.Nat.{add-zero, zero-add, not-suc-le-zero}
use native.Mathlib.Omega.{arith}
use lib.Dec.{leb, eqb}
use lib.ListN.{length, drop, length-append}
use lib.Seq.{drop-drop}
use borrow.Author.Tests.{eqb-true, leb-true, ne_eqb}
use Rattle.truth.proofs.Cases.{by_test}
use Rattle.truth.proofs.Laws.{and-true}
use Rattle.decimal.specs.Decimal.{is_digit, all_digits, is_number, value_of}
use Rattle.decimal.specs.Leading.{leading, after_leading}
use Rattle.decimal.proofs.Text.{sound, digit_range}
use Rattle.decimal.proofs.Leading.{led}
use Rattle.degrees.specs.Degrees.{minus, point, first, pointed, is_size, size_length, filled, size, below, unsigned, is_degrees, degrees_length}
use Rattle.degrees.proofs.Forms.{Sized, with_point, without_point}

-- the bytes of a size, and its thousandths
pub data IsSize : List ℕ → ℕ → Type 0 where
  plain : (w : List ℕ) → is_number w ≡ true → IsSize w (value_of w * 1000)
  pointed_by : (w ds : List ℕ) → is_number w ≡ true → all_digits ds ≡ true → 1 ≤ length ds → length ds ≤ 3
      → IsSize (w ++ (point ∷ ds)) (value_of w * 1000 + value_of (filled ds))

-- a text that starts with a byte
pub starts_with_lem : (text : List ℕ) (b : ℕ) → 1 ≤ b → first text ≡ b → text ≡ b ∷ drop 1 text
starts_with_lem [] b some e = absurd (omega arith)
starts_with_lem (a ∷ text) b some e = ap (λ x. x ∷ text) e

-- a byte that ends degrees
pub record Ends (rest : List ℕ) : Type 0 where
  pub digit : is_digit (first rest) ≡ false
  pub point : eqb (first rest) point ≡ false

pointed_length : (w ds : List ℕ) → length (w ++ (point ∷ ds)) ≡ length w + (1 + length ds)
pointed_length w ds = rw length-append (omega arith)

pub size_of : {u : List ℕ} {n : ℕ} → IsSize u n → (rest : List ℕ) → Ends rest → Sized (u ++ rest) n (length u)
size_of (plain w number) rest e = without_point w number rest e.digit e.point
size_of (pointed_by w ds number all some few) rest e =
    rw (append_assoc, pointed_length w ds) (with_point w number ds rest all some few e.digit)

-- what a text that starts with a size is
pub record SizeParts (text : List ℕ) : Type 0 where
  pub bytes : List ℕ
  pub is : IsSize bytes (size text)
  pub count : length bytes ≡ size_length text
  pub parts : text ≡ bytes ++ drop (size_length text) text

module _ (text : List ℕ) (number : is_number (leading text) ≡ true) where
  -- what stands after a point
  abbrev Tail : List ℕ
  Tail = drop 1 (after_leading text)

  pointed_parts : pointed text ≡ true → (leb 1 (length (leading Tail)) && leb (length (leading Tail)) 3) ≡ true → SizeParts text
  unfolding size size_length
  pointed_parts p counts =
      let (some, few) = and-true (leb 1 (length (leading Tail))) _ counts in
      let end : drop (length (leading text) + (1 + length (leading Tail))) text ≡ after_leading Tail = rw (← drop-drop, ← drop-drop) in
      let rest : after_leading text ≡ point ∷ (leading Tail ++ after_leading Tail) = starts_with_lem (after_leading text) point (omega arith) (eqb-true _ _ p) ∙ ap (λ x. point ∷ x) (led Tail).parts in
      record {
        bytes = leading text ++ (point ∷ leading Tail);
        is = rw p (pointed_by (leading text) (leading Tail) number (led Tail).all (leb-true _ _ some) (leb-true _ _ few));
        count = rw p (pointed_length (leading text) (leading Tail));
        parts = rw (p, end, append_assoc) ((led text).parts ∙ ap (λ x. leading text ++ x) rest);
      }

  plain_parts : pointed text ≡ false → SizeParts text
  unfolding size size_length filled value_of
  plain_parts p =
      record {
        bytes = leading text;
        is = rw (p, add-zero) (plain (leading text) number);
        count = rw (p, add-zero);
        parts = rw (p, add-zero) (led text).parts;
      }

pub size_parts : (text : List ℕ) → is_size text ≡ true → SizeParts text
unfolding is_size
size_parts text h =
    let (number, after) = and-true (is_number (leading text)) _ h in
    by_test (pointed text) (λ p. pointed_parts text number p (rw p at after)) (plain_parts text number)

-- ---- with the sign
abbrev pub sign_bytes : Bool → List ℕ
sign_bytes true = minus ∷ []
sign_bytes false = []

number_first : (w : List ℕ) → is_number w ≡ true → (rest : List ℕ) → is_digit (first (w ++ rest)) ≡ true
unfolding all_digits
number_first [] number rest = absurd (not-suc-le-zero (sound [] number).some)
number_first (b ∷ w) number rest = (and-true (is_digit b) (all_digits w) (sound (b ∷ w) number).all).0

-- a size starts with a digit, and so with no minus
first_digit : {u : List ℕ} {n : ℕ} → IsSize u n → (rest : List ℕ) → is_digit (first (u ++ rest)) ≡ true
first_digit (plain w number) rest = number_first w number rest
first_digit (pointed_by w ds number all some few) rest = rw append_assoc (number_first w number ((point ∷ ds) ++ rest))

-- a text starts with degrees of such a sign, size and number of bytes
pub record Signed (text : List ℕ) (b : Bool) (n bytes : ℕ) : Type 0 where
  pub sign : below text ≡ b
  pub right : is_degrees text ≡ true
  pub value : size (unsigned text) ≡ n
  pub count : degrees_length text ≡ bytes

pub degrees_of : (b : Bool) {u : List ℕ} {n : ℕ} → IsSize u n → (rest : List ℕ) → Ends rest
    → Signed ((sign_bytes b ++ u) ++ rest) b n (length (sign_bytes b ++ u))
degrees_of true z rest e = let s = size_of z rest e in record { sign = refl; right = s.right; value = s.value; count = omega (arith, s.count) }
degrees_of false {u} z rest e =
    let s = size_of z rest e in
    let range = digit_range (first (u ++ rest)) (first_digit z rest) in
    let none = ne_eqb (first (u ++ rest)) minus (λ f. omega arith) in
    record {
      sign = none;
      right = rw none s.right;
      value = rw none s.value;
      count = rw (none, zero-add) s.count;
    }

pub record DegreesParts (text : List ℕ) : Type 0 where
  pub bytes : List ℕ
  pub is : IsSize bytes (size (unsigned text))
  pub count : length (sign_bytes (below text) ++ bytes) ≡ degrees_length text
  pub parts : text ≡ (sign_bytes (below text) ++ bytes) ++ drop (degrees_length text) text

sign_length : (b : Bool) → length (sign_bytes b) ≡ cond b 1 0
sign_length true = refl
sign_length false = refl

sign_parts : (text : List ℕ) → text ≡ sign_bytes (below text) ++ unsigned text
sign_parts text =
    by_test (below text)
    (λ b. rw b (starts_with_lem text minus (omega arith) (eqb-true (first text) minus b)))
    (λ b. rw b)

pub degrees_parts : (text : List ℕ) → is_degrees text ≡ true → DegreesParts text
degrees_parts text h =
    let z = size_parts (unsigned text) h in
    record {
      bytes = z.bytes;
      is = z.is;
      count = rw (length-append, sign_length, z.count);
      parts = sign_parts text ∙ rw append_assoc (ap (λ x. sign_bytes (below text) ++ x) (z.parts ∙ rw drop-drop));
    }
