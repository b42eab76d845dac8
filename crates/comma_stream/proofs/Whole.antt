-- What a whole text, or a front of it, comes to, for readers that stop on the way: the right lines taken some at a time
-- (`part`), what is left of a text that is all right or not (`all_right`, `one_wrong`), and that a line told to be
-- wrong before its end stays wrong (`stays`). Assumes nothing.
use Prim.Native.Nat.{ℕ, zero, suc, ◌+◌, ◌-◌, ◌*◌, ◌^◌, ◌≤◌, ◌<◌}
use mathlib.Core.Path.{◌≡◌, sym, ap, subst, ◌∙◌}
use mathlib.Core.Bool.{true, false}
use mathlib.Core.List.{List, [], ◌∷◌, ◌++◌, append-nil}
use native.Mathlib.Omega.{arith}
use lib.ListN.{length, take, drop, length-append}
use lib.Seq.{length-take-le}
use Rattle.truth.proofs.Cases.{by_test}
use Rattle.decimal.specs.Decimal.{longest}
use Rattle.decimal.specs.Lines.{lines_of}
use Rattle.comma_line.specs.Line.{right, line_length}
use Rattle.comma_line.specs.Text.{first_wrong}
use Rattle.comma_read.proofs.Lines.{first_line, turn}
use Rattle.comma_stream.specs.Follow.{bytes_of, may_begin}
use Rattle.comma_stream.proofs.Begun.{wrong_stays}
use Rattle.comma_stream.proofs.Pieces.{Rights, Left, none, t, rest, first, past, joins, wrong_within}

-- ---- some of the right lines, and those after them
pub record Parts (D time : ℕ) (text : List ℕ) (us : List (List ℕ)) : Type 0 where
  pub rest-is : Rights D time text ≡ us ++ Rights D (time + length us * D) (drop (bytes_of us) text)
  pub within : bytes_of us ≤ length text
  pub some : length us ≤ bytes_of us

parts_none : (D time : ℕ) (text : List ℕ) → Parts D time text []
unfolding bytes_of
parts_none D time text = let z : time + 0 * D ≡ time = omega arith in record { rest-is = rw z; within = omega arith; some = omega arith }

parts_on : (D time : ℕ) (text : List ℕ) (r : right time text ≡ true) (us : List (List ℕ)) → Parts D (time + D) (rest D time text r) us → Parts D time text ((t D time text r).line ∷ us)
unfolding bytes_of
parts_on D time text r us p =
    let due : time + suc (length us) * D ≡ time + D + length us * D = omega arith in
    let u = turn time text r in
    record {
      rest-is = first D time text r ∙ rw (due, past D time text r us) (ap (λ x. (t D time text r).line ∷ x) p.rest-is);
      within = omega (arith, p.within, u.bytes, ap length u.parts ∙ length-append u.line (drop (line_length text) text));
      some = omega (arith, p.some, u.bytes, u.some);
    }

pub part : (n D time : ℕ) (text : List ℕ) → Parts D time text (take n (Rights D time text))
part zero D time text = parts_none D time text
part (suc n) D time text =
    by_test (right time text)
    (λ r. subst (Parts D time text) (sym (ap (take (suc n)) (first D time text r))) (parts_on D time text r _ (part n D (time + D) (rest D time text r))))
    (λ r. subst (Parts D time text) (sym (ap (take (suc n)) (none D time text r))) (parts_none D time text))

-- no time has 13 digits, so there are not so many right lines
shorter : (D time : ℕ) (text : List ℕ) (r : right time text ≡ true) → length (rest D time text r) < length text
shorter D time text r = let u = turn time text r in omega (arith, u.some, u.bytes, ap length u.parts ∙ length-append u.line (drop (line_length text) text))

pub lines_few : (n D time : ℕ) (text : List ℕ) → 1 ≤ D → length text ≤ n → length (Rights D time text) ≤ 10 ^ longest - time
lines_few zero D time text d h = by_test (right time text) (λ r. absurd (omega (arith, shorter D time text r))) (λ r. rw (none D time text r) (omega arith))
lines_few (suc n) D time text d h =
    by_test (right time text)
    (λ r. rw (first D time text r) (omega (arith, (turn time text r).small, lines_few n D (time + D) (rest D time text r) d (omega (arith, shorter D time text r)))))
    (λ r. rw (none D time text r) (omega arith))

-- ---- the end of a text
module _ (D : ℕ) (text : List ℕ) where
  parts_of : lines_of text ≡ Rights D 0 text ++ lines_of (Left D 0 text)
  parts_of = (joins (length text) D 0 text [] (omega arith)).all

  count_of : length (Rights D 0 text) ≡ first_wrong D 0 (lines_of text)
  count_of = length-take-le (first_wrong D 0 (lines_of text)) (lines_of text) (wrong_within D 0 (lines_of text))

  -- nothing is left: all lines are right
  pub all_right : Left D 0 text ≡ [] → (Rights D 0 text ≡ lines_of text) × (first_wrong D 0 (lines_of text) ≡ length (lines_of text))
  unfolding lines_of
  all_right e =
      let same : Rights D 0 text ≡ lines_of text = sym (parts_of ∙ ap (λ x. Rights D 0 text ++ lines_of x) e ∙ append-nil (Rights D 0 text)) in
      (same, sym count_of ∙ ap length same)

  -- something is left: the line after the right ones is wrong
  pub one_wrong : (1 ≤ length (Left D 0 text)) → (first_wrong D 0 (lines_of text) ≡ length (Rights D 0 text)) × (first_wrong D 0 (lines_of text) < length (lines_of text))
  one_wrong some =
      let f = first_line 0 (Left D 0 text) some in
      (sym count_of, omega (arith, count_of, ap length f.is, ap length parts_of ∙ length-append (Rights D 0 text) (lines_of (Left D 0 text))))

-- ---- what is left and may not begin a line stays wrong
module _ (D : ℕ) (a b : List ℕ) (m : may_begin (Left D 0 a) ≡ false) where
  still_wrong : right (0 + length (Rights D 0 a) * D) (Left D 0 a ++ b) ≡ false
  still_wrong = wrong_stays _ (Left D 0 a) b m (joins (length a) D 0 a b (omega arith)).stops

  pub stays : (Rights D 0 (a ++ b) ≡ Rights D 0 a) × (Left D 0 (a ++ b) ≡ Left D 0 a ++ b)
  unfolding bytes_of
  stays =
      let j = joins (length a) D 0 a b (omega arith) in
      let None-more = none D (0 + length (Rights D 0 a) * D) (Left D 0 a ++ b) still_wrong in
      (j.lines ∙ ap (λ x. Rights D 0 a ++ x) None-more ∙ append-nil (Rights D 0 a), j.left ∙ ap (λ x. drop (bytes_of x) (Left D 0 a ++ b)) None-more)
