-- A text's lines, as a reader comes to them: it looks for the LF among the next 64 bytes and hands over what it finds,
-- which is the first line, or, where that is longer, its first 64 bytes. A longer line is refused either way, so the
-- reading is the same (`reading_turn`). Assumes nothing.
use Prim.Native.Nat.{ℕ, zero, suc, ◌+◌, ◌-◌, ◌≤◌, ◌<◌, min}
use mathlib.Core.Path.{◌≡◌, refl, sym, ap, ◌∙◌}
use mathlib.Core.Bool.{Bool, true, false, cond, not, and-false, false≢true, true≢false}
use mathlib.Core.List.{List, [], ◌∷◌, ◌++◌}
use mathlib.Core.Logic.{◌⊎◌, inl, inr, ⊎_elim}
use native.Mathlib.Numerals.{add-one, unary_clauses}
use native.Mathlib.Nat.{add-zero}
use native.Mathlib.Omega.{arith}
use lib.Dec.{eqb, leb}
use lib.ListN.{length, get_or, take, drop, length-drop, drop_of_length-le}
use lib.Seq.{drop-cons, length-take-le}
use borrow.Author.Tests.{lt-leb, le-ltb}
use Rattle.truth.proofs.Cases.{by_order, by_test}
use Rattle.decimal.specs.Field.{line_feed}
use Rattle.refusal.specs.declared.Refusal.TheVariants.{BrokenState}
use Rattle.campaign_state.specs.State.{sound}
use Rattle.sheet_line.specs.declared.Sheet.{Sheet}
use Rattle.sheet_line.specs.declared.Sheet.TheVariants.{Fresh, Open}
use Rattle.sheet_text.specs.declared.Reading.TheVariants.{Waiting}
use Rattle.sheet_line.specs.Column.{record_column, standard_column}
use Rattle.sheet_line.specs.Form.{longest_sheet_line, ends_line, is_sheet_line}
use Rattle.sheet_line.specs.Line.{line_after, malformed, record_line, standard_line, stepping}
use Rattle.decimal.specs.Lines.{lines_of}
use Rattle.sheet_text.specs.Sheet.{Account, ended, after_step, waits, reading_sheet}
use Rattle.sheet_text.specs.Cut.{cut, first_line}
use Rattle.refusal.specs.declared.Refusal.{Refusal}
use Rattle.std.specs.Prelude.{Result, Err}

-- a byte in front of a line keeps its end
ends_on : (b : ℕ) (line : List ℕ) → eqb b line_feed ≡ false → ends_line (b ∷ line) ≡ ends_line line
ends_on b [] e = e
ends_on b (c ∷ line) e = simp unary_clauses

-- the first n bytes of a text against its first line
module _ (n : ℕ) (text : List ℕ) where
  -- they end it, or the text
  abbrev Whole : Type 0
  Whole = lines_of text ≡ take (cut n text) text ∷ lines_of (drop (cut n text) text)

  -- it goes on after them
  record Long : Type 0 where
    line : List ℕ
    lines : List (List ℕ)
    first : lines_of text ≡ line ∷ lines
    longer : n < length line
    all : length (take (cut n text) text) ≡ n
    unended : ends_line (take (cut n text) text) ≡ false

cut_none : (n : ℕ) → cut n [] ≡ 0
unfolding cut
cut_none zero = refl
cut_none (suc n) = refl

-- a line starts at the first byte
starts : (b : ℕ) (text : List ℕ) → Long 0 (b ∷ text)
unfolding lines_of cut
starts b text = by_test (eqb b line_feed) (λ e. ended_here e) (λ e. goes_on e (lines_of text) refl)
  where
    ended_here : eqb b line_feed ≡ true → Long 0 (b ∷ text)
    ended_here e = record { line = b ∷ []; lines = lines_of text; first = rw e; longer = omega arith; all = refl; unended = refl }

    goes_on : eqb b line_feed ≡ false → (lines : List (List ℕ)) → lines_of text ≡ lines → Long 0 (b ∷ text)
    goes_on e [] f = record { line = b ∷ []; lines = []; first = rw (e, f); longer = omega arith; all = refl; unended = refl }
    goes_on e (line ∷ lines) f = record { line = b ∷ line; lines = lines; first = rw (e, f); longer = omega arith; all = refl; unended = refl }

-- a byte in front that is no LF
module _ (n b : ℕ) (text : List ℕ) (e : eqb b line_feed ≡ false) where
  whole_on : Whole n text → Whole (suc n) (b ∷ text)
  unfolding lines_of cut
  whole_on w = rw (e, w)

  long_on : Long n text → Long (suc n) (b ∷ text)
  unfolding lines_of cut
  long_on l =
      record {
        line = b ∷ l.line;
        lines = l.lines;
        first = rw (e, l.first);
        longer = omega (arith, l.longer);
        all = rw e (ap suc l.all);
        unended = rw (e, ends_on b (take (cut n text) text) e) l.unended;
      }

first_of : (n : ℕ) (b : ℕ) (text : List ℕ) → Whole n (b ∷ text) ⊎ Long n (b ∷ text)
unfolding lines_of cut
first_of zero b text = inr (starts b text)
first_of (suc n) b [] = by_test (eqb b line_feed) (λ e. inl (rw e)) (λ e. inl (rw (e, cut_none n)))
first_of (suc n) b (c ∷ text) =
    by_test (eqb b line_feed)
    (λ e. inl (rw e))
    (λ e. ⊎_elim (λ w. inl (whole_on n b (c ∷ text) e w)) (λ l. inr (long_on n b (c ∷ text) e l)) (first_of n c text))

pub cut_within : (n : ℕ) (text : List ℕ) → cut n text ≤ length text
unfolding cut
cut_within zero text = omega arith
cut_within (suc n) [] = omega arith
cut_within (suc n) (b ∷ text) = by_test (eqb b line_feed) (λ e. rw e (omega arith)) (λ e. rw e (omega (arith, cut_within n text)))

pub cut_some : (n : ℕ) (text : List ℕ) → 0 < length text → 0 < cut (suc n) text
unfolding cut
cut_some n [] h = absurd (omega arith)
cut_some n (b ∷ text) h = by_test (eqb b line_feed) (λ e. rw e (omega arith)) (λ e. rw e (omega arith))

-- a line that has its LF, or as many bytes as were asked for, is the same in a longer text
pub cut-append : (n : ℕ) (text more : List ℕ) → (ends_line (take (cut n text) text) ≡ true) ⊎ (n ≤ cut n text) → cut n (text ++ more) ≡ cut n text
unfolding cut
cut-append zero text more h = refl
cut-append (suc n) [] more h = ⊎_elim (λ e. absurd (false≢true e)) (λ l. absurd (omega arith)) h
cut-append (suc n) (b ∷ text) more h =
    by_test (eqb b line_feed)
    (λ e. rw e)
    (λ e. rw e (ap suc (cut-append n text more (⊎_elim (λ f. inl (rw (e, ends_on b (take (cut n text) text) e) at f)) (λ l. inr (let k = rw e at l in omega arith)) h))))

-- one that has neither is the whole text
pub cut-whole : (n : ℕ) (text : List ℕ) → ends_line (take (cut n text) text) ≡ false → cut n text < n → cut n text ≡ length text
unfolding cut
cut-whole zero text f l = absurd (omega arith)
cut-whole (suc n) [] f l = refl
cut-whole (suc n) (b ∷ text) f l =
    by_test (eqb b line_feed)
    (λ e. absurd (true≢false (sym e ∙ (rw e at f))))
    (λ e. rw e (ap suc (cut-whole n text (rw (e, ends_on b (take (cut n text) text) e) at f) (let k = rw e at l in omega arith))))

-- the search for the LF of a line at `at`, come to i: what it finds there, and where it gives up
module _ (text : List ℕ) (at i : ℕ) where
  abbrev pub reached : ℕ
  reached = i + cut (at + longest_sheet_line - i) (drop i text)

  one_less : i < at + longest_sheet_line → at + longest_sheet_line - i ≡ suc (at + longest_sheet_line - (i + 1))
  one_less h = omega arith

  pub reached_found : i < length text → i < at + longest_sheet_line → eqb (get_or text i 0) line_feed ≡ true → reached ≡ i + 1
  unfolding cut
  reached_found h k e = rw (one_less k, drop-cons text i 0 h, e)

  pub reached_on : i < length text → i < at + longest_sheet_line → eqb (get_or text i 0) line_feed ≡ false
      → reached ≡ i + 1 + cut (at + longest_sheet_line - (i + 1)) (drop (i + 1) text)
  unfolding cut
  reached_on h k e = rw (one_less k, drop-cons text i 0 h, e, add-one) (omega arith)

  pub reached_end : min (length text) (at + longest_sheet_line) ≤ i → reached ≡ i
  unfolding cut
  reached_end h =
      by_order i (length text)
      (λ l. let k : at + longest_sheet_line - i ≡ 0 = omega arith in rw k (add-zero i))
      (λ l. rw (drop_of_length-le text l, cut_none) (add-zero i))

pub reached_start : (text : List ℕ) (at : ℕ) → reached text at at ≡ at + cut longest_sheet_line (drop at text)
reached_start text at = let k : at + longest_sheet_line - at ≡ longest_sheet_line = omega arith in rw k

pub length_first : (text : List ℕ) → length (first_line text) ≡ cut longest_sheet_line text
unfolding first_line
length_first text = length-take-le (cut longest_sheet_line text) text (cut_within longest_sheet_line text)

-- the first line of what stands at a place, as a part of the text
module _ (text : List ℕ) (at end : ℕ) (found : end ≡ at + cut longest_sheet_line (drop at text)) where
  pub end_within : at ≤ length text → end ≤ length text
  end_within h = omega (arith, cut_within longest_sheet_line (drop at text), length-drop at text)

  pub part_length : end - at ≡ length (first_line (drop at text))
  part_length = omega (arith, length_first (drop at text))

  pub part_end : end ≡ at + length (first_line (drop at text))
  part_end = omega (arith, length_first (drop at text))

  pub part_first : take (end - at) (drop at text) ≡ first_line (drop at text)
  unfolding first_line
  part_first = let k : end - at ≡ cut longest_sheet_line (drop at text) = omega arith in rw k

-- a line that is none is bad whatever it says, and a bad line ends the reading
abbrev bad : Sheet → Result Sheet (ℕ × ℕ × Refusal)
bad Fresh = malformed 1 0
bad (Open c) = cond (sound c) (malformed (line_after c) 0) (Err (0, 0, BrokenState))

stepping_bad : (s : Sheet) (line : List ℕ) → is_sheet_line line ≡ false → stepping s line ≡ bad s
unfolding stepping standard_line record_line standard_column record_column
stepping_bad Fresh line e = rw e
stepping_bad (Open c) line e = rw e

bad_ends : (s : Sheet) (go other : Sheet → Account) → after_step (bad s) go ≡ after_step (bad s) other
bad_ends Fresh go other = refl
bad_ends (Open c) go other = by_test (sound c) (λ e. rw e) (λ e. rw e)

long_no_wait : (more : Bool) (line : List ℕ) → longest_sheet_line ≤ length line → waits more line ≡ false
long_no_wait more line h = rw (le-ltb (length line) longest_sheet_line h, and-false (not (ends_line line)), and-false)

-- one turn of a reader
pub reading_turn : (more : Bool) (text : List ℕ) (s : Sheet) → 0 < length text
    → reading_sheet more (lines_of text) s
    ≡ cond (waits more (first_line text)) (ended (Waiting s (length (first_line text)))) (after_step (stepping s (first_line text)) (reading_sheet more (lines_of (drop (cut longest_sheet_line text) text))))
unfolding reading_sheet first_line
reading_turn more [] s h = absurd (omega arith)
reading_turn more (b ∷ text) s h = ⊎_elim (λ w. rw w) long (first_of longest_sheet_line b text)
  where
    whole : List ℕ
    whole = b ∷ text

    piece : List ℕ
    piece = take (cut longest_sheet_line whole) whole

    long : Long longest_sheet_line whole → reading_sheet more (lines_of whole) s ≡ cond (waits more piece)
        (ended (Waiting s (length piece))) (after_step (stepping s piece) (reading_sheet more
        (lines_of (drop (cut longest_sheet_line whole) whole))))
    long l =
        let none : is_sheet_line piece ≡ false = rw l.unended (and-false (leb (length piece) longest_sheet_line)) in
        let too_long : is_sheet_line l.line ≡ false = rw (lt-leb (length l.line) longest_sheet_line l.longer) in
        rw (
          l.first,
          long_no_wait more l.line (omega (arith, l.longer)),
          long_no_wait more piece (omega (arith, l.all)),
          stepping_bad s l.line too_long,
          stepping_bad s piece none,
        )
        (bad_ends s (reading_sheet more l.lines) (reading_sheet more (lines_of (drop (cut longest_sheet_line whole) whole))))
