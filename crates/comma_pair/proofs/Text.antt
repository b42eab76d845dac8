-- One file's text so far, and k of its right lines taken: more text after it changes none of them (`more_lines`), what
-- is left after all of them (`unread_all`), and when a wrong line stays wrong (`wrong_later`) or all lines are right
-- (`right_all`). D is the step. Assumes nothing.
use Prim.Native.Nat.{ℕ, ◌+◌, ◌*◌, ◌^◌, ◌≤◌, ◌<◌}
use mathlib.Core.Path.{◌≡◌, refl, sym, ap, subst, ◌∙◌}
use mathlib.Core.Bool.{Bool, true, false, cond, ◌&&◌}
use mathlib.Core.List.{List, [], ◌∷◌, ◌++◌, append-nil}
use native.Mathlib.Nat.{zero-add}
use native.Mathlib.Omega.{arith}
use lib.Dec.{eqb, ltb}
use lib.ListN.{length, take, drop, length-append, length-drop}
use lib.Seq.{take-append-le, drop-append-le, drop-drop, take-length, length-take-le}
use borrow.Author.Tests.{eqb-true, eqb-false, ne_eqb}
use Rattle.truth.proofs.Cases.{by_test}
use Rattle.truth.proofs.Laws.{impossible, true≢false}
use Rattle.decimal.specs.Lines.{lines_of}
use Rattle.comma_line.specs.Text.{first_wrong}
use Rattle.sample_items.specs.Limits.{step_in_range}
use Rattle.comma_stream.specs.declared.Follow.{Follow}
use Rattle.comma_stream.specs.declared.Rest.{Rest}
use Rattle.comma_stream.specs.declared.Rest.TheVariants.{Waits, Over, Wrong}
use Rattle.comma_stream.specs.Follow.{bytes_of, right_lines, after_lines, may_begin, resting}
use Rattle.comma_stream.proofs.Pieces.{Rights, Left, joins, wrong_within}
use Rattle.comma_stream.proofs.Whole.{all_right, one_wrong, stays}
use Rattle.comma_count.specs.Taking.{fresh, sound_follow}
use Rattle.comma_count.proofs.Agreeing.{fresh_stands, stands_after}
use Rattle.comma_pair.proofs.Front.{within, bytes_on}

-- ---- what is left after right lines, by what it says
pub rest_waits : (text : List ℕ) (more : Bool) {n : ℕ} → resting text more ≡ Waits n → more ≡ true
unfolding resting
rest_waits text true e = refl
rest_waits text false e = by_test (eqb (length text) 0) (λ z. impossible (cc (sym (rw z at e)))) (λ z. impossible (cc (sym (rw z at e))))

pub rest_over : (text : List ℕ) (more : Bool) → resting text more ≡ Over → (more ≡ false) × (text ≡ [])
unfolding resting
rest_over [] true e = impossible (cc)
rest_over [] false e = (refl, refl)
rest_over (b ∷ text) more e =
    let some = ne_eqb (length (b ∷ text)) 0 (λ z. omega arith) in
    by_test (more && may_begin (b ∷ text))
    (λ m. impossible (cc (sym (rw (some, m) at e))))
    (λ m. impossible (cc (sym (rw (some, m) at e))))

-- a line is wrong, and stays so if more comes
abbrev pub WrongHere : List ℕ → Bool → Type 0
WrongHere text more = (1 ≤ length text) × (more ≡ true → may_begin text ≡ false)

pub rest_wrong : (text : List ℕ) (more : Bool) → resting text more ≡ Wrong → WrongHere text more
unfolding resting
rest_wrong [] true e = impossible (cc)
rest_wrong [] false e = impossible (cc)
rest_wrong (b ∷ text) more e =
    let some = ne_eqb (length (b ∷ text)) 0 (λ z. omega arith) in
    (omega arith, λ m. by_test (may_begin (b ∷ text)) (λ n. impossible (cc (sym (rw (some, m, n) at e)))) (λ n. n))

module _ (D : ℕ) where
  -- the right lines of a text
  abbrev pub R : List ℕ → List (List ℕ)
  R text = right_lines (fresh D) text

  abbrev pub after : List ℕ → ℕ → Follow
  after text k = after_lines (fresh D) (take k (R text))

  abbrev pub unread : List ℕ → ℕ → List ℕ
  unread text k = drop (bytes_of (take k (R text))) text

  pub lines_are : (text : List ℕ) → R text ≡ Rights D 0 text
  unfolding right_lines
  lines_are text = let z : 0 * D ≡ 0 = omega arith in rw z

  pub unread_all : (text : List ℕ) → unread text (length (R text)) ≡ Left D 0 text
  unread_all text = ap (λ l. drop (bytes_of l) text) (take-length (R text) ∙ lines_are text)

  -- n lines more
  pub unread_on : (text : List ℕ) (k n : ℕ) → drop (bytes_of (take n (drop k (R text)))) (unread text k) ≡ unread text (k + n)
  unread_on text k n = drop-drop (bytes_of (take n (drop k (R text)))) (bytes_of (take k (R text))) text ∙ ap (λ b. drop b text) (bytes_on (fresh D) text k n)

  pub lines_at : (text : List ℕ) (k : ℕ) → k ≤ length (R text) → (after text k).lines ≡ k
  unfolding after_lines
  lines_at text k h = zero-add (length (take k (R text))) ∙ length-take-le k (R text) h

  pub step_after : (text : List ℕ) (k : ℕ) → (after text k).step ≡ D
  unfolding after_lines
  step_after text k = refl

  -- ---- more text after it
  module _ (text p : List ℕ) where
    joined_lines : R (text ++ p) ≡ R text ++ Rights D (0 + length (Rights D 0 text) * D) (Left D 0 text ++ p)
    joined_lines = lines_are (text ++ p) ∙ (joins (length text) D 0 text p (omega arith)).lines ∙ ap (λ l. l ++ Rights D (0 + length (Rights D 0 text) * D) (Left D 0 text ++ p)) (sym (lines_are text))

    pub more_long : length (R text) ≤ length (R (text ++ p))
    more_long = omega (arith, ap length joined_lines ∙ length-append (R text) _)

    module _ (k : ℕ) (h : k ≤ length (R text)) where
      pub more_lines : take k (R (text ++ p)) ≡ take k (R text)
      more_lines = ap (take k) joined_lines ∙ take-append-le k (R text) _ h

      pub more_unread : unread text k ++ p ≡ unread (text ++ p) k
      more_unread =
          sym (drop-append-le (bytes_of (take k (R text))) text p (within (fresh D) text k)) ∙ ap (λ l. drop (bytes_of l) (text ++ p)) (sym more_lines)

  -- ---- the count of lines has 12 digits at most
  pub stands_well : step_in_range D ≡ true → (text : List ℕ) (k : ℕ) → sound_follow (after text k) ≡ true
  stands_well step text k = stands_after (fresh D) (fresh_stands D step) text k

  -- ---- the whole file
  -- its first wrong line is the one after the right ones
  record Wrongs (text : List ℕ) (n : ℕ) : Type 0 where
    pub first : first_wrong D 0 (lines_of text) ≡ n
    pub there : n < length (lines_of text)

  pub first_wrong_lem : (text : List ℕ) → first_wrong D 0 (lines_of text) ≡ length (R text)
  first_wrong_lem text = sym (ap length (lines_are text) ∙ length-take-le (first_wrong D 0 (lines_of text)) (lines_of text) (wrong_within D 0 (lines_of text)))

  wrong_now : (text : List ℕ) → 1 ≤ length (Left D 0 text) → first_wrong D 0 (lines_of text) < length (lines_of text)
  wrong_now text h = (one_wrong D text h).1

  -- whatever comes after it, if more may come
  pub wrong_later : (text : List ℕ) (more : Bool) → WrongHere (Left D 0 text) more → (p : List ℕ) → (more ≡ false → p ≡ [])
      → (first_wrong D 0 (lines_of (text ++ p)) ≡ length (R text)) × (length (R text) < length (lines_of (text ++ p)))
  wrong_later text more w p none =
      by_test more
      (λ m.
      let s = stays D text p (w.1 m) in
      let fw : first_wrong D 0 (lines_of (text ++ p)) ≡ length (R text) = first_wrong_lem (text ++ p) ∙ ap length (lines_are (text ++ p) ∙ s.0 ∙ sym (lines_are text)) in
      (fw, omega (arith, fw, wrong_now (text ++ p) (rw (s.1, length-append) (omega (arith, w.0))))))
      (λ m.
      let same : text ++ p ≡ text = ap (λ q. text ++ q) (none m) ∙ append-nil text in
      rw same (first_wrong_lem text, omega (arith, first_wrong_lem text, wrong_now text w.0)))

  -- nothing is left: all lines are right
  pub right_all : (text : List ℕ) → Left D 0 text ≡ [] → (R text ≡ lines_of text) × (first_wrong D 0 (lines_of text) ≡ length (lines_of text))
  right_all text e = let a = all_right D text e in (lines_are text ∙ a.0, a.1)
