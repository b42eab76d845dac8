-- A line taken apart and put together: a text that starts with the line of a time is a front without LF, an LF and the
-- rest; and after such a front and an LF anything may stand. Assumes nothing.
use Rattle.std.proofs.Common.{◌≡◌, ℕ, ◌+◌, Bool, true, eqb, List, ◌∷◌, ◌++◌, length, drop, refl, ap, ◌∙◌, append_assoc, add_assoc, arith, length-append, drop-drop, eq-eqb, eqb-true}
use lib.Seq.{drop-append_seam}
use Rattle.truth.proofs.Laws.{and-true}
use Rattle.decimal.specs.Decimal.{is_number, value_of}
use Rattle.decimal.specs.Field.{line_feed}
use Rattle.decimal.specs.Leading.{leading, after_leading}
use Rattle.decimal.proofs.Text.{sound}
use Rattle.decimal.proofs.Leading.{leading_is, led}
use Rattle.degrees.specs.Degrees.{first, below, unsigned, size, is_degrees, degrees_length}
use Rattle.degrees.proofs.Parts.{IsSize, Ends, Signed, sign_bytes, degrees_of, degrees_parts, starts_with_lem}
use Rattle.comma_line.specs.Line.{comma, roll, is_comma_line, right, line_length}

-- the bytes of a line before its LF
abbrev pub Front : List ℕ → Bool → List ℕ → List ℕ
Front time b u = time ++ (comma ∷ (sign_bytes b ++ u))

front_length : (time : List ℕ) (b : Bool) (u : List ℕ) → length (Front time b u) ≡ length time + (1 + length (sign_bytes b ++ u))
front_length time b u = rw length-append (omega arith)

-- the places of a line's parts in a text
past : (a d : ℕ) (text : List ℕ) → drop 1 (drop d (drop 1 (drop a text))) ≡ drop (a + (1 + (d + 1))) text
past a d text = simp (drop-drop, add_assoc)

-- LF ends degrees
feed_ends : (rest : List ℕ) → Ends (line_feed ∷ rest)
feed_ends rest = record { digit = refl; point = refl }

-- what a text that starts with a line of a time says
pub record LineFacts (time : ℕ) (text : List ℕ) (b : Bool) (n bytes : ℕ) : Type 0 where
  pub is : right time text ≡ true
  pub sign : below (roll text) ≡ b
  pub value : size (unsigned (roll text)) ≡ n
  pub count : line_length text ≡ bytes

module _ (time : List ℕ) (number : is_number time ≡ true) (b : Bool) {u : List ℕ} {n : ℕ} (z : IsSize u n) (rest : List ℕ) where
  abbrev Text : List ℕ
  Text = Front time b u ++ (line_feed ∷ rest)

  apart : Text ≡ time ++ (comma ∷ ((sign_bytes b ++ u) ++ (line_feed ∷ rest)))
  apart = append_assoc time (comma ∷ (sign_bytes b ++ u)) (line_feed ∷ rest)

  digits : leading Text ≡ time
  digits = rw apart (leading_is time (comma ∷ ((sign_bytes b ++ u) ++ (line_feed ∷ rest))) (sound time number).all refl)

  after : after_leading Text ≡ comma ∷ ((sign_bytes b ++ u) ++ (line_feed ∷ rest))
  after = rw (digits, apart) (drop-append_seam time (comma ∷ ((sign_bytes b ++ u) ++ (line_feed ∷ rest))))

  degrees : Signed (roll Text) b n (length (sign_bytes b ++ u))
  degrees = rw after (degrees_of b z (line_feed ∷ rest) (feed_ends rest))

  end : drop (degrees_length (roll Text)) (roll Text) ≡ line_feed ∷ rest
  end = rw (degrees.count, after) (drop-append_seam (sign_bytes b ++ u) (line_feed ∷ rest))

  pub front_line : LineFacts (value_of time) Text b n (length (Front time b u) + 1)
  unfolding right is_comma_line line_length
  front_line =
      record {
        is = rw (end, degrees.right, after, digits, number, eq-eqb (value_of time) (value_of time) refl);
        sign = degrees.sign;
        value = degrees.value;
        count = rw (degrees.count, digits) (omega (arith, front_length time b u));
      }

-- what the text is, if it starts with a line
pub record Shape (time : ℕ) (text : List ℕ) : Type 0 where
  pub bytes : List ℕ
  pub size_bytes : List ℕ
  pub number : is_number bytes ≡ true
  pub value : value_of bytes ≡ time
  pub is : IsSize size_bytes (size (unsigned (roll text)))
  pub count : length (Front bytes (below (roll text)) size_bytes) + 1 ≡ line_length text
  pub parts : text ≡ Front bytes (below (roll text)) size_bytes ++ (line_feed ∷ drop (line_length text) text)

pub shape : (time : ℕ) (text : List ℕ) → right time text ≡ true → Shape time text
unfolding right is_comma_line line_length
shape time text h =
    let (line, due) = and-true (is_comma_line text) _ h in
    let (number, line₁) = and-true (is_number (leading text)) _ line in
    let (mark, line₂) = and-true (eqb (first (after_leading text)) comma) _ line₁ in
    let (degrees, feed) = and-true (is_degrees (roll text)) _ line₂ in
    let d = degrees_parts (roll text) degrees in
    let split : after_leading text ≡ comma ∷ roll text = starts_with_lem (after_leading text) comma (omega arith) (eqb-true _ _ mark) in
    let last : drop (degrees_length (roll text)) (roll text) ≡ line_feed ∷ drop 1 (drop (degrees_length (roll text)) (roll text)) = starts_with_lem _ line_feed (omega arith) (eqb-true _ _ feed) in
    let rest : drop 1 (drop (degrees_length (roll text)) (roll text)) ≡ drop (line_length text) text = past (length (leading text)) (degrees_length (roll text)) text in
    record {
      bytes = leading text;
      size_bytes = d.bytes;
      number = number;
      value = eqb-true _ _ due;
      is = d.is;
      count = omega (arith, d.count, front_length (leading text) (below (roll text)) d.bytes);
      parts = (led text).parts ∙ rw append_assoc (ap (λ x. leading text ++ x) (split ∙ ap (λ x. comma ∷ x) (d.parts
          ∙ ap (λ x. (sign_bytes (below (roll text)) ++ d.bytes) ++ x) (last ∙ ap (λ x. line_feed ∷ x) rest))));
    }
