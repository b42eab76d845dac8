-- The desk: what the clerk's commands write, over the bytes of the files that they are handed. A command's line and the
-- digit by which it ends are those of a definition over whole texts, however the texts come: in one piece or in many,
-- cut within a line or a number. Which line it is, is decided by the command's tests in their order, each over the whole
-- file (demand 1). Assumes nothing.
use mathlib.Core.Path.{◌≡◌, refl, sym, ◌∙◌}
use mathlib.Core.Bool.{Bool, cond, false, not, true, ◌&&◌}
use mathlib.Core.List.{List, [], ◌∷◌, ◌++◌, map}
use mathlib.Core.Logic.{◌⊎◌, inl, inr}
use Prim.Native.Nat.{ℕ, ◌+◌, ◌≤◌}
use lib.Dec.{eqb, leb, ltb}
use lib.IntN.{ℤ}
use lib.ListN.{length, take, drop}
use Rattle.refusal.specs.declared.Refusal.{Refusal}
use Rattle.refusal.specs.declared.Refusal.TheVariants.{BrokenState, CampaignFull, CommaLine, Item, RowsUsedUp, Sample, SumFull, TooLong, TooShort}
use Rattle.refusal.specs.Numbers.{number_of, value_of}
use Rattle.sample_items.specs.declared.Items.{Items}
use Rattle.sample_items.specs.Limits.{item_outside, most_samples, step_in_range}
use Rattle.sample_range.specs.Range.{first_bad}
use Rattle.crossing_places.specs.Reading.{too_few}
use Rattle.record_state.specs.State.{sound}
use Rattle.campaign_state.specs.State.{most_records, standard_in_range}
use Rattle.binomial_sum.specs.declared.Sum.{Sum}
use Rattle.binomial_sum.specs.State.{empty, grown, would_pass}
use Rattle.binomial_bounds.specs.Bounds.{bounds_of}
use Rattle.text.specs.Pieces.{joined}
use Rattle.decimal.specs.Lines.{lines_of}
use Rattle.comma_line.specs.Text.{first_wrong, samples_of}
use Rattle.comma_stream.specs.declared.Follow.{Follow}
use Rattle.desk_line.specs.Said.{Said, longest_said}
use Rattle.comma_count.specs.declared.Counting.{Counting}
use Rattle.comma_count.specs.Line.{count_said, count_said_of_lines, counted, one_channel, refused_at, result_for}
use Rattle.comma_count.specs.Taking.{agrees, going, opening, over, saying, taking, turn_left, turning}
use Rattle.comma_count.specs.Pieces.{carrying}
use Rattle.comma_count.proofs.Agreeing.{Agrees, never_eight, opening_agrees, taking_agrees}
use Rattle.comma_count.proofs.Buffer.{kept_first}
use Rattle.comma_count.proofs.Cut.{cut_anywhere}
use Rattle.comma_count.proofs.Piece.{taking_broken}
use Rattle.binomial_files.specs.Files.{binomial_from, binomial_said, groups_of, refused_in, summed, timed_of}
use Rattle.binomial_files.specs.Adding.{added_said, files_after, opened_files}
use Rattle.binomial_files.proofs.Anywhere.{files_anywhere}
use Rattle.sheet_records.specs.Ledger.{sheet_text}
use Rattle.sheet_files.specs.Files.{failures_in, record_of, refused_record, sheet_from, sheet_said}
use Rattle.sheet_files.specs.Filing.{finishing, finish_left}
use Rattle.sheet_files.proofs.Anywhere.{desk_of, sheet_anywhere}
use Rattle.demands.proofs.Demand1.{Test, ◌gives◌, decide}
use Rattle.record_state.specs.declared.Record.{Record}
use Rattle.std.specs.Prelude.{Result, Ok, Err}

-- ---- the statement
-- the line that a refusal of a file names: a malformed line's number, a bad sample's line, or 0
abbrev pub fault_line : Refusal → ℕ
fault_line r = cond (eqb (number_of r) 10) (value_of r) (cond (eqb (number_of r) 2) (value_of r + 1) 0)

abbrev pub refused_file : Refusal → Said
refused_file r = refused_at (fault_line r) r

-- bin/count 1, 10, 2, 3, 4, each over all lines
abbrev pub count_tests : Items → List (List ℕ) → List Test
count_tests i lines =
    not (eqb (item_outside i) 0) gives Item (item_outside i)
    ∷ (ltb (first_wrong i.step 0 lines) (length lines) gives CommaLine (first_wrong i.step 0 lines + 1)
    ∷ (ltb (first_bad (samples_of lines)) (length lines) gives Sample (first_bad (samples_of lines))
    ∷ (ltb (most_samples i.step i.ramp) (length lines) gives TooLong
    ∷ (too_few i.ramp (length lines) gives TooShort
    ∷ []))))

-- bin/binomial of one file among several: 10, 2, 3, 4, then 11
abbrev pub sum_tests : Items → Sum → List (List ℕ) → List Test
sum_tests i s lines =
    ltb (first_wrong i.step 0 lines) (length lines) gives CommaLine (first_wrong i.step 0 lines + 1)
    ∷ (ltb (first_bad (samples_of lines)) (length lines) gives Sample (first_bad (samples_of lines))
    ∷ (ltb (most_samples i.step i.ramp) (length lines) gives TooLong
    ∷ (too_few i.ramp (length lines) gives TooShort
    ∷ (would_pass s (groups_of i lines) (timed_of i lines) gives SumFull
    ∷ []))))

-- bin/sheet of one file after these records: 10, 2, 3, 4, then 5, 6
abbrev pub sheet_tests : Items → List ℤ → List (List ℕ) → List Test
sheet_tests i records lines =
    ltb (first_wrong i.step 0 lines) (length lines) gives CommaLine (first_wrong i.step 0 lines + 1)
    ∷ (ltb (first_bad (samples_of lines)) (length lines) gives Sample (first_bad (samples_of lines))
    ∷ (ltb (most_samples i.step i.ramp) (length lines) gives TooLong
    ∷ (too_few i.ramp (length lines) gives TooShort
    ∷ (leb most_records (length records) gives CampaignFull
    ∷ (leb 64 (failures_in records) gives RowsUsedUp
    ∷ [])))))

-- the relations of 8 for a count that goes on. Of its lines: the step is in range, no time has more than 12 digits, and
-- the line of the first sample out of range is one of them
abbrev pub lines_kept : Follow → Bool
lines_kept f = step_in_range f.step && (leb f.lines 1000000000000 && leb f.outside f.lines)

-- its record is sound, of the step of the lines, and has a sample for each of them, none out of range; where they were
-- refused there is no record
abbrev pub count_kept : Follow → Result Record Refusal → Bool
count_kept f (Ok r) = sound r && (eqb r.items.step f.step && (eqb r.n f.lines && eqb f.outside 0))
count_kept f (Err q) = lines_kept f

-- what may be handed out: a count that is over, or one that keeps the relations
abbrev pub Handed : Counting → Type 0
Handed c = (c.over ≡ true) ⊎ (count_kept c.follow c.answer ≡ true)

pub record Desk : Type 0 where
  -- bin/count: what is said of a file does not depend on the pieces in which it comes
  pub count_pieces : (i : Items) (pieces : List (List ℕ)) → saying (carrying (opening i) [] pieces) ≡ count_said i (joined pieces)
  -- and is what the tests decide
  pub count_order : (i : Items) (text : List ℕ)
      → let lines = lines_of text in
      count_said i text ≡ decide refused_file (count_tests i lines) (counted (length lines) (result_for i (one_channel (samples_of lines))))
  -- a count that breaks a relation of 8 is over with 8, and all of the piece is used; one that breaks none is not
  -- answered by 8, and what is handed out breaks none
  pub count_broken : (f : Follow) (a : Result Record Refusal) (text : List ℕ) (more : Bool) → count_kept f a ≡ false
      → taking (going f a) text more ≡ record { counting = over f BrokenState; used = length text }
  pub count_kept_lem : (f : Follow) (a : Result Record Refusal) (text : List ℕ) (more : Bool) → count_kept f a ≡ true → (a ≡ Err BrokenState → ⊥)
      → (taking (going f a) text more).counting.answer ≡ Err BrokenState → ⊥
  pub count_opened : (i : Items) → Handed (opening i)
  pub count_handed : (f : Follow) (a : Result Record Refusal) (text : List ℕ) (more : Bool) → count_kept f a ≡ true → Handed (taking (going f a) text more).counting
  -- bin/binomial: what is said of several files does not depend on the pieces in which each comes
  pub binomial_pieces : (i : Items) (files : List (List (List ℕ))) → added_said (files_after i 1 (opened_files i) files) ≡ binomial_said i (map joined files)
  -- an item goes first; then file by file the tests of bin/count, and 11; the first that is refused is named by its number
  pub binomial_item : (i : Items) (texts : List (List ℕ)) → not (eqb (item_outside i) 0) ≡ true → binomial_said i texts ≡ refused_in 0 0 (Item (item_outside i))
  pub binomial_none : (i : Items) → not (eqb (item_outside i) 0) ≡ false → (texts : List (List ℕ)) → binomial_said i texts ≡ binomial_from i 1 (empty i.step) texts
  pub binomial_file : (i : Items) (file : ℕ) (s : Sum) (text : List ℕ) (texts : List (List ℕ))
      → let lines = lines_of text in
      binomial_from i file s (text ∷ texts)
      ≡ decide (λ r. refused_in file (fault_line r) r) (sum_tests i s lines) (binomial_from i (file + 1) (grown s (groups_of i lines) (timed_of i lines)) texts)
  -- after the last file the line has N, P and what they say
  pub binomial_end : (i : Items) (file : ℕ) (s : Sum) → binomial_from i file s [] ≡ summed s (bounds_of s)
  -- bin/sheet: what is written for the files of a campaign does not depend on the pieces in which each comes; it is put
  -- whole where there is room for it, with the records in a lent slice that has a place for each
  pub sheet_pieces : (q : ℕ) (i : Items) (files : List (List (List ℕ))) (records : List ℤ) (out : List ℕ)
      → let s = sheet_said q i (map joined files) in
      let d = desk_of q i records files in
      most_records ≤ length records → longest_said ≤ length out → length s.line ≤ length out
      → (finishing q d.filed d.records out ≡ record { put = length s.line; end = s.end })
      × (finish_left q d.filed d.records out ≡ s.line ++ drop (length s.line) out)
  -- the standard goes first, then an item; then file by file the tests of bin/count, 5, 6; after the last file it is the
  -- sheet of the files' records in their order
  pub sheet_standard : (q : ℕ) (i : Items) (texts : List (List ℕ)) → not (standard_in_range q) ≡ true → sheet_said q i texts ≡ refused_record 0 0 (Item 5)
  pub sheet_item : (q : ℕ) (i : Items) (texts : List (List ℕ)) → not (standard_in_range q) ≡ false → not (eqb (item_outside i) 0) ≡ true
      → sheet_said q i texts ≡ refused_record 0 0 (Item (item_outside i))
  pub sheet_none : (q : ℕ) (i : Items) (texts : List (List ℕ)) → not (standard_in_range q) ≡ false → not (eqb (item_outside i) 0) ≡ false
      → sheet_said q i texts ≡ sheet_from q i [] texts
  pub sheet_file : (q : ℕ) (i : Items) (records : List ℤ) (text : List ℕ) (texts : List (List ℕ))
      → let lines = lines_of text in
      sheet_from q i records (text ∷ texts)
      ≡ decide (λ r. refused_record (length records + 1) (fault_line r) r) (sheet_tests i records lines) (sheet_from q i (records ++ (record_of i lines ∷ [])) texts)
  pub sheet_end : (q : ℕ) (i : Items) (records : List ℤ) → sheet_from q i records [] ≡ record { line = sheet_text q records; end = 48 }
  -- after a turn through a buffer its first bytes are those that the turn left unused, so that the next are read after
  -- them
  pub count_buffer : (c : Counting) (text : List ℕ) (end : ℕ) (more : Bool)
      → take (turning c (take end text) more).kept (turn_left c end more text) ≡ drop (taking c (take end text) more).used (take end text)

-- ---- the proof
by_tests : (i : Items) (text : List ℕ)
    → let lines = lines_of text in
    count_said i text ≡ decide refused_file (count_tests i lines) (counted (length lines) (result_for i (one_channel (samples_of lines))))
unfolding count_said_of_lines decide
by_tests i text = refl

by_file : (i : Items) (file : ℕ) (s : Sum) (text : List ℕ) (texts : List (List ℕ))
    → let lines = lines_of text in
    binomial_from i file s (text ∷ texts)
    ≡ decide (λ r. refused_in file (fault_line r) r) (sum_tests i s lines) (binomial_from i (file + 1) (grown s (groups_of i lines) (timed_of i lines)) texts)
unfolding binomial_from decide
by_file i file s text texts = refl

by_record : (q : ℕ) (i : Items) (records : List ℤ) (text : List ℕ) (texts : List (List ℕ))
    → let lines = lines_of text in
    sheet_from q i records (text ∷ texts)
    ≡ decide (λ r. refused_record (length records + 1) (fault_line r) r) (sheet_tests i records lines) (sheet_from q i (records ++ (record_of i lines ∷ [])) texts)
unfolding sheet_from decide
by_record q i records text texts = refl

-- `count_kept` is written out, so that each of its cases has to be what is asked
kept-is : (f : Follow) (a : Result Record Refusal) → count_kept f a ≡ agrees f a
kept-is f (Ok r) = refl
kept-is f (Err q) = refl

by_relations : (f : Follow) (a : Result Record Refusal) (text : List ℕ) (more : Bool) → count_kept f a ≡ false
    → taking (going f a) text more ≡ record { counting = over f BrokenState; used = length text }
by_relations f a text more e = sym (taking_broken (going f a) text more refl (sym (kept-is f a) ∙ e))

by_handed : (c : Counting) → Agrees c → Handed c
by_handed c (inl o) = inl o
by_handed c (inr e) = inr (kept-is c.follow c.answer ∙ e)

pub desk : Desk
unfolding binomial_said binomial_from sheet_said sheet_from
desk =
    record {
      count_pieces = cut_anywhere;
      count_order = by_tests;
      count_broken = by_relations;
      count_kept_lem = λ f a text more e other. never_eight f a (sym (kept-is f a) ∙ e) other text more;
      count_opened = λ i. by_handed (opening i) (opening_agrees i);
      count_handed = λ f a text more e. by_handed (taking (going f a) text more).counting (taking_agrees f a text more (sym (kept-is f a) ∙ e));
      binomial_pieces = files_anywhere;
      binomial_item = λ i texts e. rw e;
      binomial_none = λ i e texts. rw e;
      binomial_file = by_file;
      binomial_end = λ i file s. refl;
      sheet_pieces = sheet_anywhere;
      sheet_standard = λ q i texts e. rw e;
      sheet_item = λ q i texts e f. rw (e, f);
      sheet_none = λ q i texts e f. rw (e, f);
      sheet_file = by_record;
      sheet_end = λ q i records. refl;
      count_buffer = kept_first;
    }
