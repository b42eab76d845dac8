-- A reader on its way through the right lines of a text. `Going`: the lines that were taken stand before those that are
-- left, and what was noted and put is what they say. Assumes nothing.
use Rattle.std.proofs.Common.{◌≡◌, ℕ, suc, ◌+◌, ◌*◌, ◌^◌, ◌<◌, ◌≤◌, Bool, true, false, cond, ◌&&◌, eqb, leb, List, [], ◌∷◌, ◌++◌, map, length, take, drop, set, ℤ, pos, sym, refl, ap, ◌∙◌, append_assoc, add-zero, add_assoc, mul-le-mul, zero-mul, add-one, arith, length-append, length-drop, take_all, drop-cons, take-take, drop-drop, take_at, eq-eqb, ne_eqb, le-leb}
use mathlib.Core.List.{map-append}
use lib.ListN.{length-map}
use lib.Seq.{take-nil, set_at}
use Rattle.truth.proofs.Cases.{by_test, by_order}
use Rattle.sample_items.specs.Limits.{step_in_range}
use Rattle.sample_items.proofs.Ranges.{low}
use Rattle.sample_range.specs.Range.{sample_in_range, first_bad}
use Rattle.sample_range.proofs.Bad.{bad_append, bad_left, bad_within}
use Rattle.decimal.specs.Decimal.{longest}
use Rattle.decimal.specs.Lines.{lines_of}
use Rattle.degrees.specs.Degrees.{below, unsigned, size, sample_of, signed, largest_size}
use Rattle.comma_line.specs.Line.{roll, right, line_length}
use Rattle.comma_line.specs.Text.{first_wrong, samples_of}
use Rattle.comma_line.proofs.At.{LineRead}
use Rattle.comma_read.specs.Plain.{PlainLine, PlainPut, as_it_stood, one_more}
use Rattle.comma_read.specs.Taken.{bytes_of, held, right_after, lines_taken, taken_of, put_by}
use Rattle.comma_read.proofs.Lines.{Turn, turn, first_line}
use Rattle.comma_read.proofs.Along.{Lines, in_range, counted, counted_none}
use Rattle.std.specs.Prelude.{Ok}

-- the bytes of lines and one more
bytes_last : (lines : List (List ℕ)) (line : List ℕ) → bytes_of (lines ++ (line ∷ [])) ≡ bytes_of lines + length line
unfolding bytes_of
bytes_last [] line = omega arith
bytes_last (l ∷ lines) line = omega (arith, bytes_last lines line)

-- the samples before the first out of range, and one sample more
bad_one : (x : ℤ) → first_bad (x ∷ []) ≡ cond (sample_in_range x) 1 0
unfolding first_bad
bad_one x = refl

bad_last : (xs : List ℤ) (x : ℤ) → first_bad (xs ++ (x ∷ [])) ≡ cond (eqb (first_bad xs) (length xs) && sample_in_range x) (first_bad xs + 1) (first_bad xs)
bad_last xs x =
    by_order (first_bad xs) (length xs)
    (λ h. rw (bad_left xs (x ∷ []) h, ne_eqb (first_bad xs) (length xs) (λ e. omega arith)))
    (λ h.
    let all : first_bad xs ≡ length xs = omega (arith, bad_within xs) in
    rw (bad_append xs (x ∷ []) all, bad_one, eq-eqb (first_bad xs) (length xs) all)
    (by_test (sample_in_range x) (λ g. rw g (omega arith)) (λ g. rw g (omega arith))))

-- where a text starts with no right line, none is taken
pub wrong_none : (D time : ℕ) (text : List ℕ) → right time text ≡ false → first_wrong D time (lines_of text) ≡ 0
unfolding first_wrong lines_of
wrong_none D time [] r = refl
wrong_none D time (b ∷ text) r = let f = first_line time (b ∷ text) (omega arith) in rw (f.is, f.same ∙ r)

-- no line has a time of 13 digits
too_late : (time : ℕ) (text : List ℕ) → 10 ^ longest ≤ time → right time text ≡ false
too_late time text h = by_test (right time text) (λ r. absurd (omega (arith, (turn time text r).small))) (λ r. r)

-- on the way: so many lines are taken, up to a place, the first of a time
pub record Going (D first : ℕ) (text : List ℕ) (slice : List ℤ) (at number sound : ℕ) (samples : List ℤ) : Type 0 where
  pub front : List (List ℕ)
  pub count : length front ≡ number
  pub lines : lines_of text ≡ front ++ Lines text at
  pub bytes : at ≡ bytes_of front
  pub within : at ≤ length text
  pub wrong : first_wrong D first (lines_of text) ≡ number + first_wrong D (first + number * D) (Lines text at)
  pub noted : sound ≡ first_bad (samples_of front)
  pub put : samples ≡ map held (samples_of front) ++ drop number slice

pub set_out : (D first : ℕ) (text : List ℕ) (slice : List ℤ) → Going D first text slice 0 0 0 slice
unfolding first_bad bytes_of
set_out D first text slice =
    record { front = []; count = refl; lines = refl; bytes = refl; within = omega arith; wrong = rw (zero-mul, add-zero) (omega arith); noted = refl; put = refl }

-- a sample as it is held, by its line's sign and size
held_signed : (b : Bool) (n : ℕ) → held (signed b n) ≡ cond (leb n largest_size) (signed b n) (pos 0)
unfolding held
held_signed b n = rw (in_range b n)

-- a sample put after those before it
put_last : (xs slice : List ℤ) (x : ℤ) (n : ℕ) → length xs ≡ n → n < length slice → set (xs ++ drop n slice) n x ≡ (xs ++ (x ∷ [])) ++ drop (n + 1) slice
put_last xs slice x n e h =
    rw (drop-cons slice n (pos 0) h, set_at xs _ (drop (suc n) slice) x n e, append_assoc, add-one)

module _ {D first : ℕ} {text : List ℕ} {slice : List ℤ} {at number sound : ℕ} {samples : List ℤ} (g : Going D first text slice at number sound samples) where
  many : length (samples_of g.front) ≡ number
  many = length-map g.front (λ line. sample_of (roll line)) ∙ g.count

  pub going_low : sound ≤ number
  going_low = omega (arith, g.noted, bad_within (samples_of g.front), many)

  -- a right line more
  module _ (time : ℕ) (due : time ≡ first + number * D) (r : right time (drop at text) ≡ true) where
    abbrev t : Turn time (drop at text)
    t = turn time (drop at text) r

    abbrev next : ℕ
    next = at + line_length (drop at text)

    abbrev x : ℤ
    x = sample_of (roll (drop at text))

    abbrev n : ℕ
    n = size (unsigned (roll (drop at text)))

    abbrev y : ℤ
    y = cond (leb n largest_size) (signed (below (roll (drop at text))) n) (pos 0)

    lines_on : Lines text at ≡ t.line ∷ Lines text next
    lines_on = t.lines ∙ ap (λ ls. t.line ∷ lines_of ls) (drop-drop (line_length (drop at text)) at text)

    front_on : samples_of (g.front ++ (t.line ∷ [])) ≡ samples_of g.front ++ (x ∷ [])
    front_on = map-append (λ line. sample_of (roll line)) g.front (t.line ∷ []) ∙ ap (λ y. samples_of g.front ++ (y ∷ [])) t.sample

    wrong_on : first_wrong D time (Lines text at) ≡ suc (first_wrong D (time + D) (Lines text next))
    unfolding first_wrong
    wrong_on = rw (lines_on, t.is)

    pub going_on : number < length slice
        → Going D first text slice next (number + 1) (cond (eqb sound number && leb n largest_size) (sound + 1) sound) (set samples number y)
    going_on room =
        record {
          front = g.front ++ (t.line ∷ []);
          count = length-append g.front (t.line ∷ []) ∙ ap (λ k. k + 1) g.count;
          lines = g.lines ∙ ap (λ ls. g.front ++ ls) lines_on ∙ sym (append_assoc g.front (t.line ∷ []) (Lines text next));
          bytes = omega (arith, g.bytes, bytes_last g.front t.line, t.bytes);
          within = omega (arith, g.within, t.within, length-drop at text);
          wrong =
              let further : time + D ≡ first + (number + 1) * D = rw due (omega arith) in
              g.wrong ∙ rw (← due, wrong_on, further) (omega arith);
          noted = rw (front_on, g.noted, bad_last (samples_of g.front) x, in_range (below (roll (drop at text))) n, many);
          put = rw (front_on, map-append held (samples_of g.front) (x ∷ []), held_signed)
              (ap (λ s. set s number y) g.put ∙ put_last (map held (samples_of g.front)) slice y number
              (length-map (samples_of g.front) held ∙ many) room);
        }

  -- the same by what was read of it
  pub going_read : {time : ℕ} {b : Bool} {n next later : ℕ} {x : ℤ} → time ≡ first + number * D → LineRead text at time b n next → number < length slice
      → later ≡ cond (eqb sound number && leb n largest_size) (sound + 1) sound
      → x ≡ cond (leb n largest_size) (signed b n) (pos 0)
      → Going D first text slice next (number + 1) later (set samples number x)
  going_read {time} due l room o z = rw (o, z, l.place, ← l.sign, ← l.value) (going_on time due l.is room)

  -- the slice stays as long
  pub going_length : number ≤ length slice → length samples ≡ length slice
  going_length room =
      ap length g.put
      ∙ rw (length-append, length-map (samples_of g.front) held, many, length-drop) (omega arith)

-- plain lines together
going_as : {D first : ℕ} {text : List ℕ} {slice samples : List ℤ} {at number sound n s : ℕ} → number ≡ n → sound ≡ s → Going D first text slice at number sound samples
    → Going D first text slice at n s samples
going_as e f g = rw (← e, ← f) g

module _ {D first : ℕ} {text : List ℕ} {slice : List ℤ} {at number sound : ℕ} {samples : List ℤ} (g : Going D first text slice at number sound samples) where
  plain_on : {time next : ℕ} → time ≡ first + number * D → PlainLine text at time next → number < length slice
      → Going D first text slice next (number + 1) (cond (eqb sound number && true) (sound + 1) sound) (set samples number (sample_of (roll (drop at text))))
  plain_on due l room =
      let small = le-leb (size (unsigned (roll (drop at text)))) largest_size l.small in
      going_read g due (record { is = l.is; sign = refl; value = refl; place = l.place }) room (rw small) (rw small)

module _ {D first : ℕ} {text : List ℕ} {slice : List ℤ} {at number sound : ℕ} {samples : List ℤ} (g : Going D first text slice at number sound samples) where
  pub going_run : {time end lines : ℕ} {later : List ℤ} → PlainPut text D at time samples number end lines later → time ≡ first + number * D → number + lines ≤ length slice
      → Going D first text slice end (number + lines) (cond (eqb sound number) (sound + lines) sound) later
  going_run as_it_stood due room = going_as (sym (add-zero number)) (rw (add-zero, counted_none)) g
  going_run {time} (one_more {lines = k} ls l) due room =
      let when : time + k * D ≡ first + (number + k) * D = rw due (omega arith) in
      going_as (add_assoc number k 1) (counted sound number k (going_low g)) (plain_on (going_run ls due (omega arith)) when l.line (omega arith))

-- ---- all lines that have a place are taken, or the next one is wrong
module _ {D : ℕ} (before : ℕ) {text : List ℕ} {slice : List ℤ} {at number sound : ℕ} {samples : List ℤ}
    (g : Going D (before * D) text slice at number sound samples) (places : ℕ) where
  pub going_full : places ≡ number → take places (right_after D before text) ≡ g.front
  going_full e = rw (g.wrong, g.lines, e) (take-take number (number + _) (g.front ++ Lines text at) (omega arith) ∙ take_at g.front (Lines text at) number g.count)

  pub going_stopped : number ≤ places → right (before * D + number * D) (drop at text) ≡ false → take places (right_after D before text) ≡ g.front
  going_stopped few r =
      rw (
        g.wrong,
        g.lines,
        wrong_none D (before * D + number * D) (drop at text) r,
        add-zero,
        take_at g.front (Lines text at) number g.count,
        take_all places g.front (omega (arith, g.count)),
      )

  -- then this is what they come to
  module _ (step : step_in_range D ≡ true) (all : take places (right_after D before text) ≡ g.front) where
    pub going_taken : Ok (number, at, sound) ≡ lines_taken D before text places
    unfolding lines_taken
    going_taken = rw (step, all) (λ i. Ok (sym g.count i, g.bytes i, g.noted i))

    pub going_put : samples ≡ put_by (Ok (number, at, sound)) text slice
    unfolding put_by taken_of
    going_put = rw (g.lines, take_at g.front (Lines text at) number g.count) g.put

-- after so many lines that no time has 12 digits nothing is taken
module _ (D before : ℕ) (text : List ℕ) (places : ℕ) (step : step_in_range D ≡ true) where
  pub none_late : 10 ^ longest < before → Ok (0, 0, 0) ≡ lines_taken D before text places
  unfolding lines_taken bytes_of first_bad
  none_late h =
      let late : 10 ^ longest ≤ before * D = omega (arith, mul-le-mul {n₁ = before} {m₁ = 1} {n₂ = before} {m₂ = D} (omega arith) (low 1 10000 D step)) in
      rw (step, wrong_none D (before * D) text (too_late (before * D) text late), take-nil)
