-- The desk over two files, the roll's and the acceleration's of one record (document 02, [8]): what `bin/count` writes of
-- them is that of a definition over both whole texts, however they are cut and in whatever order their pieces come. Which
-- line it is, is decided by the tests in their order, each over both files (demand 1); the lower line goes first, and of
-- two with one number the roll's. Assumes nothing.
use mathlib.Core.Path.{◌≡◌, refl, sym, ◌∙◌}
use mathlib.Core.Bool.{Bool, cond, false, not, true, ◌&&◌, ◌||◌}
use mathlib.Core.List.{List, [], ◌∷◌}
use Prim.Native.Nat.{ℕ, ◌+◌, ◌≤◌, ◌<◌, min}
use native.Mathlib.Omega.{arith}
use lib.Dec.{eqb, leb, ltb}
use lib.IntN.{ℤ}
use lib.ListN.{length}
use borrow.Author.Tests.{leb-true, leb-false, ltb-true, lt-ltb}
use Rattle.truth.proofs.Cases.{by_order}
use Rattle.truth.proofs.Laws.{and-true, true≢false}
use Rattle.refusal.specs.declared.Refusal.TheVariants.{Acceleration, BrokenState, CommaLine, Item, Sample, TooLong, TooShort, Unequal}
use Rattle.sample_channels.specs.Channels.{has_bad}
use Rattle.sample_items.specs.declared.Items.{Items}
use Rattle.sample_items.specs.Limits.{item_outside, most_samples}
use Rattle.sample_range.specs.Range.{first_bad}
use Rattle.crossing_places.specs.Reading.{too_few}
use Rattle.decimal.specs.Lines.{lines_of}
use Rattle.comma_line.specs.Text.{first_wrong, samples_of}
use Rattle.comma_stream.specs.declared.Follow.{Follow}
use Rattle.desk_line.specs.Said.{Said}
use Rattle.comma_count.specs.Line.{counted, refused_at, result_for}
use Rattle.comma_pair.specs.declared.Watching.{Watching}
use Rattle.comma_pair.specs.Line.{any_wrong, bad_roll, both_channels, pair_said, pair_said_of_lines, refused_of, wrong_roll}
use Rattle.comma_pair.specs.Taking.{agreeing, ended, left_over, opening, saying, stopped, taking, watched}
use Rattle.comma_pair.specs.Pieces.{Rest, Turn, acceleration_text, carrying, roll_text}
use Rattle.comma_pair.proofs.Agreeing.{never_eight}
use Rattle.comma_pair.proofs.Cut.{cut_anywhere}
use Rattle.comma_pair.proofs.Piece.{spare, taking_broken}
use Rattle.demands.proofs.Desk.{count_kept, lines_kept}
use Rattle.refusal.specs.declared.Refusal.{Refusal}
use Rattle.record_state.specs.declared.Record.{Record}
use Rattle.std.specs.Prelude.{Result, Ok, Err}

-- ---- the statement
-- a condition, and what is said where it holds
pub record Finding : Type 0 where
  pub holds : Bool
  pub says : Said

infix 90 ◌says◌
abbrev pub ◌says◌ : Bool → Said → Finding
b says s = record { holds = b; says = s }

-- the first that holds speaks, or else the answer proper
unfoldable pub first_said : List Finding → Said → Said
first_said [] proper = proper
first_said (f ∷ fs) proper = cond f.holds f.says (first_said fs proper)

-- bin/count of two files: 1, 10 of the roll or of the acceleration, 12, 2 of the roll or of the acceleration, 3, 4
abbrev pub pair_tests : Items → List (List ℕ) → List (List ℕ) → List Finding
pair_tests i ls ms =
    not (eqb (item_outside i) 0) says refused_at 0 (Item (item_outside i))
    ∷ (wrong_roll i.step ls ms says refused_of (first_wrong i.step 0 ls + 1) (CommaLine (first_wrong i.step 0 ls + 1)) 1
    ∷ (any_wrong i.step ms says refused_of (first_wrong i.step 0 ms + 1) (CommaLine (first_wrong i.step 0 ms + 1)) 2
    ∷ (not (eqb (length ls) (length ms)) says refused_at 0 Unequal
    ∷ (bad_roll (samples_of ls) (samples_of ms) says refused_of (first_bad (samples_of ls) + 1) (Sample (first_bad (samples_of ls))) 1
    ∷ (has_bad (samples_of ms) says refused_of (first_bad (samples_of ms) + 1) (Acceleration (first_bad (samples_of ms))) 2
    ∷ (ltb (most_samples i.step i.ramp) (length ls) says refused_at 0 TooLong
    ∷ (too_few i.ramp (length ls) says refused_at 0 TooShort
    ∷ [])))))))

-- the relations of 8 for a count of two files that goes on: its record is of the lines that both have, a sample out of
-- range of which is held as 0; both have one step, and each keeps the relations of lines
abbrev pub pair_kept : Follow → Follow → Result Record Refusal → Bool
pair_kept f g a =
    count_kept (record { step = f.step; lines = min f.lines g.lines; outside = 0 }) a
    && (eqb f.step g.step && (lines_kept f && lines_kept g))

pub record DeskPair : Type 0 where
  -- what is said of two files depends neither on the pieces in which they come nor on the order of these
  pub pair_pieces : (i : Items) (turns : List Turn) (rest : Rest)
      → saying (carrying (opening i) [] [] turns rest) ≡ pair_said i (roll_text turns rest) (acceleration_text turns rest)
  -- and is what the tests decide, over all lines of both
  pub pair_order : (i : Items) (roll acceleration : List ℕ)
      → let ls = lines_of roll in
      let ms = lines_of acceleration in
      pair_said i roll acceleration ≡ first_said (pair_tests i ls ms) (counted (length ls) (result_for i (both_channels ls ms)))
  -- the roll's wrong line is named where the acceleration has none before it, and else the acceleration's
  pub lower_roll : (D : ℕ) (ls ms : List (List ℕ)) → wrong_roll D ls ms ≡ true
      → (first_wrong D 0 ls < length ls) × (first_wrong D 0 ms < length ms → first_wrong D 0 ls ≤ first_wrong D 0 ms)
  pub lower_acceleration : (D : ℕ) (ls ms : List (List ℕ)) → wrong_roll D ls ms ≡ false → first_wrong D 0 ms < length ms
      → first_wrong D 0 ls < length ls → first_wrong D 0 ms < first_wrong D 0 ls
  -- and so with samples out of range, in files of one length
  pub lower_bad_roll : (xs ys : List ℤ) → bad_roll xs ys ≡ true → (first_bad xs < length xs) × (first_bad xs ≤ first_bad ys)
  pub lower_bad_acceleration : (xs ys : List ℤ) → bad_roll xs ys ≡ false → first_bad xs < length xs → first_bad ys < first_bad xs
  -- a call uses no more than there is, and of the file that has to be read it leaves less than a line, so that a buffer
  -- has room for more
  pub pair_room : (w : Watching) (x : List ℕ) (xMore : Bool) (y : List ℕ) (yMore : Bool)
      → let t = taking w x xMore y yMore in
      ((t.roll ≤ length x) × (t.acceleration ≤ length y)) × (left_over t.next t x y < 31)
  -- a count that breaks a relation of 8 is over with 8, which has no channel, and all of both pieces is used; one that
  -- breaks none is not answered by 8
  pub pair_broken : (f g : Follow) (a : Result Record Refusal) (x : List ℕ) (xMore : Bool) (y : List ℕ) (yMore : Bool) → pair_kept f g a ≡ false
      → taking (watched f g a) x xMore y yMore ≡ ended (stopped f g (Err BrokenState) 0) (length x) (length y)
  pub pair_kept_lem : (f g : Follow) (a : Result Record Refusal) (x : List ℕ) (xMore : Bool) (y : List ℕ) (yMore : Bool) → pair_kept f g a ≡ true
      → (a ≡ Err BrokenState → ⊥) → (taking (watched f g a) x xMore y yMore).watching.answer ≡ Err BrokenState → ⊥

-- ---- the proof
by_tests : (i : Items) (roll acceleration : List ℕ)
    → let ls = lines_of roll in
    let ms = lines_of acceleration in
    pair_said i roll acceleration ≡ first_said (pair_tests i ls ms) (counted (length ls) (result_for i (both_channels ls ms)))
unfolding pair_said_of_lines first_said
by_tests i roll acceleration = refl

either : (b c : Bool) → (not b || c) ≡ true → b ≡ true → c ≡ true
either true c e f = e
either false c e f = absurd (true≢false (sym f))

lower_roll : (D : ℕ) (ls ms : List (List ℕ)) → wrong_roll D ls ms ≡ true
    → (first_wrong D 0 ls < length ls) × (first_wrong D 0 ms < length ms → first_wrong D 0 ls ≤ first_wrong D 0 ms)
lower_roll D ls ms e =
    let a = and-true (any_wrong D ls) (not (any_wrong D ms) || leb (first_wrong D 0 ls) (first_wrong D 0 ms)) e in (
      ltb-true (first_wrong D 0 ls) (length ls) a.0,
      λ h. leb-true (first_wrong D 0 ls) (first_wrong D 0 ms) (either (any_wrong D ms) (leb (first_wrong D 0 ls) (first_wrong D 0 ms)) a.1 (lt-ltb (first_wrong D 0 ms) (length ms) h)),
    )

lower_acceleration : (D : ℕ) (ls ms : List (List ℕ)) → wrong_roll D ls ms ≡ false → first_wrong D 0 ms < length ms
    → first_wrong D 0 ls < length ls → first_wrong D 0 ms < first_wrong D 0 ls
lower_acceleration D ls ms e h k =
    leb-false (first_wrong D 0 ls) (first_wrong D 0 ms) (rw (lt-ltb (first_wrong D 0 ls) (length ls) k, lt-ltb (first_wrong D 0 ms) (length ms) h) at e)

lower_bad_roll : (xs ys : List ℤ) → bad_roll xs ys ≡ true → (first_bad xs < length xs) × (first_bad xs ≤ first_bad ys)
lower_bad_roll xs ys e =
    let a = and-true (has_bad xs) (leb (first_bad xs) (first_bad ys)) e in
    (ltb-true (first_bad xs) (length xs) a.0, leb-true (first_bad xs) (first_bad ys) a.1)

lower_bad_acceleration : (xs ys : List ℤ) → bad_roll xs ys ≡ false → first_bad xs < length xs → first_bad ys < first_bad xs
lower_bad_acceleration xs ys e h = leb-false (first_bad xs) (first_bad ys) (rw (lt-ltb (first_bad xs) (length xs) h) at e)

-- `pair_kept` is written out, so that each of its cases has to be what is asked
kept-is : (f g : Follow) (a : Result Record Refusal) → pair_kept f g a ≡ agreeing f g a
kept-is f g (Ok r) = refl
kept-is f g (Err q) = refl

by_relations : (f g : Follow) (a : Result Record Refusal) (x : List ℕ) (xMore : Bool) (y : List ℕ) (yMore : Bool) → pair_kept f g a ≡ false
    → taking (watched f g a) x xMore y yMore ≡ ended (stopped f g (Err BrokenState) 0) (length x) (length y)
by_relations f g a x xMore y yMore e = sym (taking_broken (watched f g a) x xMore y yMore refl (sym (kept-is f g a) ∙ e))

pub desk_pair : DeskPair
desk_pair =
    record {
      pair_pieces = cut_anywhere;
      pair_order = by_tests;
      lower_roll = lower_roll;
      lower_acceleration = lower_acceleration;
      lower_bad_roll = lower_bad_roll;
      lower_bad_acceleration = lower_bad_acceleration;
      pair_room = spare;
      pair_broken = by_relations;
      pair_kept_lem = λ f g a x xMore y yMore e other. never_eight f g a (sym (kept-is f g a) ∙ e) other x xMore y yMore;
    }
