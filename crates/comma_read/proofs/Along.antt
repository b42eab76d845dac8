-- A reader on its way through the lines of a text. `Along`: what was counted so far and what the lines that are left
-- come to make up what all lines come to. Assumes nothing.
use Rattle.std.proofs.Common.{◌≡◌, ℕ, zero, suc, ◌+◌, ◌*◌, ◌<◌, ◌≤◌, Bool, true, false, cond, ◌&&◌, eqb, leb, List, [], ◌∷◌, length, drop, set, ℤ, pos, nat_abs, sym, refl, ap, ◌∙◌, add-zero, add_assoc, zero-add, zero-mul, add-one, arith, length-drop, length-set, drop_of_length-le, drop-drop, le-ltb, lt-ltb, eq-eqb, ne_eqb, eqb-true, le-leb}
use lib.Seq.{sets}
use borrow.Author.Tests.{eqb-false}
use Rattle.truth.proofs.Cases.{by_test}
use Rattle.sample_range.specs.Range.{sample_in_range, first_bad}
use Rattle.decimal.specs.Lines.{lines_of}
use Rattle.degrees.specs.Degrees.{below, unsigned, size, sample_of, signed, largest_size}
use Rattle.comma_line.specs.Line.{roll, right, line_length}
use Rattle.comma_line.specs.Text.{first_wrong, samples_of}
use Rattle.comma_read.specs.Plain.{PlainLines, none, more}
use Rattle.comma_read.specs.Survey.{AllGood, surveyed}
use Rattle.comma_read.proofs.Lines.{Turn, turn, first_line}
use Rattle.comma_line.proofs.At.{LineRead}
use Rattle.comma_read.proofs.Answered.{found_wrong}
use Rattle.std.specs.Prelude.{Ok, Err}

-- a sample is in range if its size is
abs_signed : (b : Bool) (n : ℕ) → nat_abs (signed b n) ≡ n
abs_signed true zero = refl
abs_signed true (suc n) = refl
abs_signed false n = refl

pub in_range : (b : Bool) (n : ℕ) → sample_in_range (signed b n) ≡ leb n largest_size
in_range b n = rw abs_signed

-- the lines from a place on
abbrev pub Lines : List ℕ → ℕ → List (List ℕ)
Lines text at = lines_of (drop at text)

pub record Along (D : ℕ) (text : List ℕ) (at time count sound : ℕ) : Type 0 where
  pub wrong : count + first_wrong D time (Lines text at) ≡ first_wrong D 0 (lines_of text)
  pub number : count + length (Lines text at) ≡ length (lines_of text)
  pub bad : cond (eqb sound count) (count + first_bad (samples_of (Lines text at))) sound ≡ first_bad (samples_of (lines_of text))
  pub low : sound ≤ count
  pub due : time ≤ 1000000010000
  pub within : at ≤ length text
  pub few : count ≤ at

pub start : (D : ℕ) (text : List ℕ) → Along D text 0 0 0 0
start D text = record { wrong = omega arith; number = omega arith; bad = omega arith; low = omega arith; due = omega arith; within = omega arith; few = omega arith }

-- what is read at a place is of the text from there on
rest_lines : (text : List ℕ) (at n : ℕ) → lines_of (drop n (drop at text)) ≡ Lines text (at + n)
rest_lines text at n = ap lines_of (drop-drop n at text)

-- one sample more: the place of the first bad one so far
tally : (sound count f : ℕ) (b : Bool) → sound ≤ count
    → cond (eqb (cond (eqb sound count && b) (sound + 1) sound) (count + 1)) (count + 1 + f) (cond (eqb sound count && b) (sound + 1) sound)
    ≡ cond (eqb sound count) (count + cond b (suc f) 0) sound
tally sound count f b low =
    by_test (eqb sound count)
    (λ e. let same = eqb-true sound count e in by_test b (λ t. rw (
      e,
      t,
      eq-eqb (sound + 1) (count + 1)
          (omega arith),
    ) (omega arith)) (λ t. rw (e, t, ne_eqb sound (count + 1) (λ q. omega arith)) (omega arith)))
    (λ e. rw (e, ne_eqb sound (count + 1) (λ q. omega arith)))

-- a right line at a place
module _ (D : ℕ) (text : List ℕ) (at time : ℕ) (r : right time (drop at text) ≡ true) where
  abbrev t : Turn time (drop at text)
  t = turn time (drop at text) r

  abbrev pub next : ℕ
  next = at + line_length (drop at text)

  lines_are : Lines text at ≡ t.line ∷ Lines text next
  lines_are = t.lines ∙ ap (λ x. t.line ∷ x) (rest_lines text at (line_length (drop at text)))

  pub step_wrong : first_wrong D time (Lines text at) ≡ suc (first_wrong D (time + D) (Lines text next))
  unfolding first_wrong
  step_wrong = rw (lines_are, t.is)

  pub step_number : length (Lines text at) ≡ suc (length (Lines text next))
  step_number = ap length lines_are

  pub step_samples : samples_of (Lines text at) ≡ sample_of (roll (drop at text)) ∷ samples_of (Lines text next)
  step_samples = ap samples_of lines_are ∙ ap (λ x. x ∷ samples_of (Lines text next)) t.sample

  pub step_bad : (b : Bool) → b ≡ leb (size (unsigned (roll (drop at text)))) largest_size
      → first_bad (samples_of (Lines text at)) ≡ cond b (suc (first_bad (samples_of (Lines text next)))) 0
  unfolding first_bad
  step_bad b e = ap first_bad step_samples ∙ ap (λ q. cond q (suc (first_bad (samples_of (Lines text next)))) 0) (in_range (below (roll (drop at text))) (size (unsigned (roll (drop at text)))) ∙ sym e)

  pub step_place : at ≤ length text → (at < next) × (next ≤ length text)
  step_place h = (omega (arith, t.some), omega (arith, t.within, length-drop at text))

module _ {D : ℕ} {text : List ℕ} {at time count sound : ℕ} (a : Along D text at time count sound) where
  -- a right line
  pub on : (r : right time (drop at text) ≡ true) → D ≤ 10000 → (b : Bool) → b ≡ leb (size (unsigned (roll (drop at text)))) largest_size
      → Along D text (next D text at time r) (time + D) (count + 1) (cond (eqb sound count && b) (sound + 1) sound)
  on r small b e =
      let (further, within) = step_place D text at time r a.within in
      record {
        wrong = omega (arith, a.wrong, step_wrong D text at time r);
        number = omega (arith, a.number, step_number D text at time r);
        bad = tally sound count (first_bad (samples_of (Lines text (next D text at time r)))) b a.low ∙
            ap (λ f. cond (eqb sound count) (count + f) sound) (sym (step_bad D text at time r b e)) ∙ a.bad;
        low = by_test (eqb sound count && b) (λ f. rw f (omega (arith, a.low))) (λ f. rw f (omega (arith, a.low)));
        due = omega (arith, (turn time (drop at text) r).small);
        within = within;
        few = omega (arith, a.few);
      }

  -- where all samples are in range, this one is
  pub in_size_lem : (r : right time (drop at text) ≡ true) → first_bad (samples_of (lines_of text)) ≡ length (lines_of text)
      → leb (size (unsigned (roll (drop at text)))) largest_size ≡ true
  in_size_lem r all =
      by_test (leb (size (unsigned (roll (drop at text)))) largest_size)
      (λ e. e)
      (λ e.
      let none = step_bad D text at time r false (sym e) in
      let bad : cond (eqb sound count) (count + 0) sound ≡ length (lines_of text) = ap (λ f. cond (eqb sound count) (count + f) sound) (sym none) ∙ a.bad ∙ all in
      let low : cond (eqb sound count) (count + 0) sound ≤ count = by_test (eqb sound count) (λ q. rw q (omega arith)) (λ q. rw q (omega (arith, a.low))) in
      absurd (omega (arith, a.number, step_number D text at time r)))

  -- a wrong line
  pub stopped : at < length text → right time (drop at text) ≡ false → Err count ≡ surveyed D (lines_of text)
  unfolding surveyed first_wrong
  stopped inside r =
      let f = first_line time (drop at text) (omega (arith, length-drop at text)) in
      let none : first_wrong D time (Lines text at) ≡ 0 = rw (f.is, f.same ∙ r) in
      let some : length (Lines text at) ≡ suc (length f.lines) = ap length f.is in
      let here : first_wrong D 0 (lines_of text) ≡ count = omega (arith, a.wrong) in
      rw (here, lt-ltb count (length (lines_of text)) (omega (arith, a.number)))

  -- the end
  pub ended : length text ≤ at → Ok (count, sound) ≡ surveyed D (lines_of text)
  unfolding surveyed first_wrong lines_of first_bad
  ended past =
      let none : Lines text at ≡ [] = ap lines_of (drop_of_length-le text past) in
      let here : first_wrong D 0 (lines_of text) ≡ count = sym a.wrong ∙ rw (none, add-zero) in
      let all : length (lines_of text) ≡ count = sym a.number ∙ rw (none, add-zero) in
      let bad : first_bad (samples_of (lines_of text)) ≡ sound = sym a.bad ∙ rw (none, add-zero) (same sound count) in
      rw (here, all, le-ltb count count (omega arith), bad)
    where
      same : (m n : ℕ) → cond (eqb m n) n m ≡ m
      same m n = by_test (eqb m n) (λ e. rw e (sym (eqb-true m n e))) (λ e. rw e)

-- plain lines together
pub lines_ahead : {D : ℕ} {text : List ℕ} {at time end lines : ℕ} → PlainLines text D at time end lines → at + lines ≤ end
unfolding line_length
lines_ahead none = omega arith
lines_ahead (more ls l) = omega (arith, lines_ahead ls, l.line.place)

-- their samples are in range
pub counted : (sound count lines : ℕ) → sound ≤ count
    → cond (eqb (cond (eqb sound count) (sound + lines) sound) (count + lines) && true) (cond (eqb sound count) (sound + lines) sound + 1) (cond (eqb sound count) (sound + lines) sound)
    ≡ cond (eqb sound count) (sound + (lines + 1)) sound
counted sound count lines low =
    by_test (eqb sound count)
    (λ e. let same = eqb-true sound count e in rw (e, eq-eqb (sound + lines) (count + lines) (omega arith)) (omega arith))
    (λ e. let other = eqb-false sound count e in rw (e, ne_eqb sound (count + lines) (λ q. other (omega arith))))

pub counted_none : (sound count : ℕ) → cond (eqb sound count) sound sound ≡ sound
counted_none sound count = by_test (eqb sound count) (λ e. rw e) (λ e. rw e)

module _ {D : ℕ} {text : List ℕ} {at time count sound : ℕ} (a : Along D text at time count sound) where
  pub all_on : {end lines : ℕ} → PlainLines text D at time end lines → D ≤ 10000 → Along D text end (time + lines * D) (count + lines) (cond (eqb sound count) (sound + lines) sound)
  all_on none small = simp (zero-mul, add-zero, counted_none) a
  all_on (more {next} {lines} {end} ls l) small =
      let before = all_on ls small in
      let after = on before l.line.is small true (sym (le-leb _ largest_size l.line.small)) in
      let further : time + (lines + 1) * D ≡ time + lines * D + D = omega arith in
      rw (further, l.line.place, ← add_assoc count lines 1, ← counted sound count lines a.low) after

-- the plain lines that a text starts with
pub of_front : {D : ℕ} {text : List ℕ} {end lines : ℕ} → PlainLines text D 0 0 end lines → D ≤ 10000 → Along D text end (lines * D) lines lines
of_front {D} {text} {end} {lines} ls small = simp (zero-add) at (all_on (start D text) ls small)

-- where all are good, the line at a place is right, and the reader comes to the next
module _ {D : ℕ} {text : List ℕ} {at time count : ℕ} (a : Along D text at time count count) (g : AllGood D (lines_of text)) where
  pub all_right : at < length text → right time (drop at text) ≡ true
  all_right inside =
      by_test (right time (drop at text))
      (λ r. r)
      (λ r. let w = found_wrong D (lines_of text) count (sym (stopped a inside r)) in absurd (omega (arith, w.place, w.some, g.right)))

  good_on : (r : right time (drop at text) ≡ true) → D ≤ 10000 → Along D text (next D text at time r) (time + D) (count + 1) (count + 1)
  good_on r small = rw (eq-eqb count count refl) at (on a r small true (sym (in_size_lem a r g.in_range)))

-- the samples that are left go after those that are put
pub record Putting (D : ℕ) (text : List ℕ) (at₀ count₀ : ℕ) (samples₀ samples : List ℤ) (at count : ℕ) : Type 0 where
  pub same : length samples ≡ length samples₀
  pub left : AllGood D (lines_of text) → sets samples count (samples_of (Lines text at)) ≡ sets samples₀ count₀ (samples_of (Lines text at₀))

pub put_none : (D : ℕ) (text : List ℕ) (at count : ℕ) (samples : List ℤ) → Putting D text at count samples samples at count
put_none D text at count samples = record { same = refl; left = λ g. refl }

put_as : {D : ℕ} {text : List ℕ} {at₀ count₀ : ℕ} {samples₀ samples samples' : List ℤ} {at at' count : ℕ}
    → samples ≡ samples' → at ≡ at' → Putting D text at₀ count₀ samples₀ samples' at' count → Putting D text at₀ count₀ samples₀ samples at count
put_as e f p = rw (e, f) p

-- the sample of a sign and a size in range
sampled : {b b' : Bool} {n n' : ℕ} → b ≡ b' → n ≡ n' → leb n largest_size ≡ true → cond (leb n' largest_size) (signed b' n') (pos 0) ≡ signed b n
sampled e f h = rw (← e, ← f, h)

module _ {D : ℕ} {text : List ℕ} {at time count sound : ℕ} (a : Along D text at time count sound) {at₀ count₀ : ℕ}
    {samples₀ samples : List ℤ} (p : Putting D text at₀ count₀ samples₀ samples at count) where
  put_on : (r : right time (drop at text) ≡ true) (b : Bool) (n : ℕ) → below (roll (drop at text)) ≡ b → size (unsigned (roll (drop at text))) ≡ n
      → Putting D text at₀ count₀ samples₀ (set samples count (cond (leb n largest_size) (signed b n) (pos 0))) (next D text at time r) (count + 1)
  put_on r b n sign value =
      record {
        same = length-set samples count (cond (leb n largest_size) (signed b n) (pos 0)) ∙ p.same;
        left =
            λ g.
            rw (add-one, sampled sign value (in_size_lem a r g.in_range))
            (ap (λ xs. sets samples count xs) (sym (step_samples D text at time r)) ∙ p.left g);
      }

  pub put_all : length text ≤ at → AllGood D (lines_of text) → samples ≡ sets samples₀ count₀ (samples_of (Lines text at₀))
  unfolding lines_of
  put_all past g = ap (λ ls. sets samples count (samples_of (lines_of ls))) (sym (drop_of_length-le text past)) ∙ p.left g

-- where all are good, a line that was read and put
module _ {D : ℕ} {text : List ℕ} {at time count : ℕ} (a : Along D text at time count count) {b : Bool} {n end : ℕ} (l : LineRead text at time b n end) where
  pub filled_place : (at < end) × (end ≤ length text)
  filled_place = rw l.place (step_place D text at time l.is a.within)

  pub filled_on : AllGood D (lines_of text) → D ≤ 10000 → {at₀ count₀ : ℕ} {samples₀ samples samples' : List ℤ} → Putting D text at₀ count₀ samples₀ samples at count
      → samples' ≡ set samples count (cond (leb n largest_size) (signed b n) (pos 0))
      → Along D text end (time + D) (count + 1) (count + 1) × Putting D text at₀ count₀ samples₀ samples' end (count + 1)
  filled_on g small p stored =
      (rw l.place (good_on a g l.is small), put_as stored l.place (put_on a p l.is b n l.sign l.value))
