-- A line that may not have begun stays wrong, whatever comes after it: a line has 31 bytes at most, and no LF before
-- its last. Assumes nothing.
use Prim.Native.Nat.{ℕ, zero, suc, ◌≤◌, ◌<◌}
use mathlib.Core.Path.{◌≡◌, refl, sym, ap, ◌∙◌}
use mathlib.Core.Bool.{Bool, true, false}
use mathlib.Core.List.{List, [], ◌∷◌, ◌++◌}
use native.Mathlib.Omega.{arith}
use lib.ListN.{length, take, drop, length-append, take-append-drop}
use lib.Seq.{take-append_seam, take-append-le}
use borrow.Author.Tests.{lt-ltb}
use Rattle.truth.proofs.Cases.{by_test, by_order}
use Rattle.truth.proofs.Laws.{true≢false}
use Rattle.decimal.proofs.Lines.{NoFeed}
use Rattle.decimal.proofs.Text.{sound}
use Rattle.degrees.specs.Degrees.{below}
use Rattle.degrees.proofs.Parts.{IsSize, plain, pointed_by, sign_bytes}
use Rattle.comma_line.specs.Line.{comma, roll, right, line_length}
use Rattle.comma_read.proofs.Shape.{Front, shape}
use Rattle.comma_read.proofs.Lines.{Turn, turn, front_none, right_front}
use Rattle.comma_stream.specs.Follow.{longest_comma_line, unended, may_begin}

-- ---- a line's bytes
size_few : {u : List ℕ} {n : ℕ} → IsSize u n → length u ≤ 16
size_few (plain w number) = omega (arith, (sound w number).short)
size_few (pointed_by w ds number all some few) = rw length-append (omega (arith, (sound w number).short))

sign_few : (b : Bool) → length (sign_bytes b) ≤ 1
sign_few true = omega arith
sign_few false = omega arith

pub line_few : (time : ℕ) (text : List ℕ) → right time text ≡ true → line_length text ≤ longest_comma_line
line_few time text r =
    let s = shape time text r in
    omega (
      arith,
      s.count,
      length-append s.bytes (comma ∷ (sign_bytes (below (roll text)) ++ s.size_bytes)),
      length-append (sign_bytes (below (roll text))) s.size_bytes,
      (sound s.bytes s.number).short,
      sign_few (below (roll text)),
      size_few s.is,
    )

-- a front of bytes without LF has none
unended_front : (n : ℕ) (s : List ℕ) → NoFeed s → unended (take n s) ≡ true
unfolding NoFeed unended
unended_front zero s f = refl
unended_front (suc n) [] f = refl
unended_front (suc n) (b ∷ s) f = rw (f.0, unended_front n s f.1)

-- ---- what more after it makes of it
module _ (time : ℕ) (text more : List ℕ) where
  -- the line stands in the text already
  within : (t : Turn time (text ++ more)) → length t.line ≤ length text → right time text ≡ true
  within t h =
      let front : take (length t.line) text ≡ t.line = sym (take-append-le (length t.line) text more h) ∙ ap (take (length t.line)) t.parts ∙ take-append_seam t.line _ in
      let parts : text ≡ t.line ++ drop (length t.line) text = sym (take-append-drop (length t.line) text) ∙ ap (λ x. x ++ drop (length t.line) text) front in
      rw parts (right_front time t.line _ t.is)

  -- or it has begun there
  begins : right time (text ++ more) ≡ true → length text < line_length (text ++ more) → may_begin text ≡ true
  unfolding may_begin
  begins r h =
      let s = shape time (text ++ more) r in
      let front = Front s.bytes (below (roll (text ++ more))) s.size_bytes in
      let short : length text ≤ length front = omega (arith, s.count) in
      let same : text ≡ take (length text) front =
      sym (take-append_seam text more) ∙ ap (take (length text)) s.parts ∙ take-append-le (length text) front _ short in
      let ends : unended text ≡ true = ap unended same ∙ unended_front (length text) front (front_none s.bytes s.number (below (roll (text ++ more))) s.is) in
      rw (lt-ltb (length text) longest_comma_line (omega (arith, line_few time (text ++ more) r)), ends)

  pub wrong_stays : may_begin text ≡ false → right time text ≡ false → right time (text ++ more) ≡ false
  wrong_stays m r =
      by_test (right time (text ++ more))
      (λ w.
      let t = turn time (text ++ more) w in
      by_order (length text) (line_length (text ++ more))
      (λ h. absurd (true≢false (sym (begins w h) ∙ m)))
      (λ h. absurd (true≢false (sym (within t (omega (arith, t.bytes))) ∙ r))))
      (λ w. w)
