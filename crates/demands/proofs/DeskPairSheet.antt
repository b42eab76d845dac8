-- The sheet of a campaign whose records have two files each, roll and acceleration (documents 01, "The job sheet", and 02,
-- [8]): what is written for the files is that of a definition over their whole texts, however they come. The standard
-- goes first, then an item, then record by record the tests of two files, 5 and 6; the first record at fault is named by
-- its number, and by its line and channel after 10 and 2. Two sheets and two refused lines are computed. Assumes nothing.
use mathlib.Core.Path.{◌≡◌, refl}
use mathlib.Core.Bool.{Bool, false, not, true}
use mathlib.Core.List.{List, [], ◌∷◌, ◌++◌, map}
use Prim.Native.Nat.{ℕ, ◌+◌, ◌≤◌}
use lib.Dec.{eqb, leb, ltb}
use lib.IntN.{ℤ}
use lib.ListN.{length, drop}
use Rattle.refusal.specs.declared.Refusal.TheVariants.{Acceleration, CampaignFull, CommaLine, Item, RowsUsedUp, Sample, TooLong, TooShort, Unequal}
use Rattle.sample_channels.specs.Channels.{has_bad, moments}
use Rattle.sample_items.specs.declared.Items.{Items}
use Rattle.sample_items.specs.Limits.{item_outside, most_samples}
use Rattle.sample_range.specs.Range.{first_bad}
use Rattle.crossing_places.specs.Reading.{first_of, passing, too_few}
use Rattle.crossing_sets.specs.Groups.{attach, groups}
use Rattle.crossing_sets.specs.Walk.{later, walk}
use Rattle.campaign_state.specs.State.{most_records, standard_in_range}
use Rattle.decimal.specs.Decimal.{all_digits, digits_of, digits_within, is_number, value_of}
use Rattle.decimal.specs.Field.{field_text}
use Rattle.decimal.specs.Leading.{leading}
use Rattle.decimal.specs.Lines.{lines_of}
use Rattle.degrees.specs.Degrees.{filled, is_size, size, size_length}
use Rattle.comma_line.specs.Line.{is_comma_line, right}
use Rattle.comma_line.specs.Text.{first_wrong, samples_of}
use Rattle.desk_line.specs.Said.{Said, longest_said, places_then, refused_line, why_text}
use Rattle.comma_count.specs.Line.{result_for}
use Rattle.comma_pair.specs.Line.{any_wrong, bad_roll, wrong_roll}
use Rattle.sheet_records.specs.Ledger.{lines_from, sheet_text}
use Rattle.sheet_files.specs.Files.{failures_in, refused_record}
use Rattle.sheet_pairs.specs.Files.{Texts, channel_record, pairs_from, pairs_said, record_of_both, refused_record_of}
use Rattle.sheet_pairs.specs.Filing.{Comes, finishing, finish_left}
use Rattle.sheet_pairs.proofs.Anywhere.{desk_of, pairs_anywhere, texts_of}
use Rattle.demands.proofs.DeskPair.{Finding, ◌says◌, first_said}

-- ---- the statement
-- bin/sheet of one record's files after these records: 10, 12, 2, 3, 4, then 5, 6
abbrev pub pair_sheet_tests : Items → List ℤ → List (List ℕ) → List (List ℕ) → List Finding
pair_sheet_tests i records ls ms =
    let number = length records + 1 in
    wrong_roll i.step ls ms says refused_record_of number (first_wrong i.step 0 ls + 1) (CommaLine (first_wrong i.step 0 ls + 1)) 1
    ∷ (any_wrong i.step ms says refused_record_of number (first_wrong i.step 0 ms + 1) (CommaLine (first_wrong i.step 0 ms + 1)) 2
    ∷ (not (eqb (length ls) (length ms)) says refused_record number 0 Unequal
    ∷ (bad_roll (samples_of ls) (samples_of ms) says refused_record_of number (first_bad (samples_of ls) + 1) (Sample (first_bad (samples_of ls))) 1
    ∷ (has_bad (samples_of ms) says refused_record_of number (first_bad (samples_of ms) + 1) (Acceleration (first_bad (samples_of ms))) 2
    ∷ (ltb (most_samples i.step i.ramp) (length ls) says refused_record number 0 TooLong
    ∷ (too_few i.ramp (length ls) says refused_record number 0 TooShort
    ∷ (leb most_records (length records) says refused_record number 0 CampaignFull
    ∷ (leb 64 (failures_in records) says refused_record number 0 RowsUsedUp
    ∷ []))))))))

pub record DeskPairSheet : Type 0 where
  -- what is written does not depend on how the files come; it is put whole where there is room for it, with the records
  -- in a lent slice that has a place for each
  pub sheet_pieces : (q : ℕ) (i : Items) (pairs : List Comes) (records : List ℤ) (out : List ℕ)
      → let s = pairs_said q i (map texts_of pairs) in
      let d = desk_of q i records pairs in
      most_records ≤ length records → longest_said ≤ length out → length s.line ≤ length out
      → (finishing q d.filed d.records out ≡ record { put = length s.line; end = s.end })
      × (finish_left q d.filed d.records out ≡ s.line ++ drop (length s.line) out)
  pub sheet_standard : (q : ℕ) (i : Items) (pairs : List Texts) → not (standard_in_range q) ≡ true → pairs_said q i pairs ≡ refused_record 0 0 (Item 5)
  pub sheet_item : (q : ℕ) (i : Items) (pairs : List Texts) → not (standard_in_range q) ≡ false → not (eqb (item_outside i) 0) ≡ true
      → pairs_said q i pairs ≡ refused_record 0 0 (Item (item_outside i))
  pub sheet_none : (q : ℕ) (i : Items) (pairs : List Texts) → not (standard_in_range q) ≡ false → not (eqb (item_outside i) 0) ≡ false
      → pairs_said q i pairs ≡ pairs_from q i [] pairs
  pub sheet_pair : (q : ℕ) (i : Items) (records : List ℤ) (t : Texts) (pairs : List Texts)
      → let ls = lines_of t.roll in
      let ms = lines_of t.acceleration in
      pairs_from q i records (t ∷ pairs) ≡ first_said (pair_sheet_tests i records ls ms) (pairs_from q i (records ++ (record_of_both i ls ms ∷ [])) pairs)
  pub sheet_end : (q : ℕ) (i : Items) (records : List ℤ) → pairs_from q i records [] ≡ record { line = sheet_text q records; end = 48 }

-- ---- the proof
by_pair : (q : ℕ) (i : Items) (records : List ℤ) (t : Texts) (pairs : List Texts)
    → let ls = lines_of t.roll in
    let ms = lines_of t.acceleration in
    pairs_from q i records (t ∷ pairs) ≡ first_said (pair_sheet_tests i records ls ms) (pairs_from q i (records ++ (record_of_both i ls ms ∷ [])) pairs)
unfolding pairs_from first_said
by_pair q i records t pairs = refl

pub desk_pair_sheet : DeskPairSheet
unfolding pairs_said pairs_from
desk_pair_sheet =
    record {
      sheet_pieces = pairs_anywhere;
      sheet_standard = λ q i pairs e. rw e;
      sheet_item = λ q i pairs e f. rw (e, f);
      sheet_none = λ q i pairs e f. rw (e, f);
      sheet_pair = by_pair;
      sheet_end = λ q i records. refl;
    }

-- ---- cases: the step 500 ms, no ramp, 40 degrees, 9.81 m/s², 1,500 ms
abbrev items : Items
items = record { step = 500; ramp = 0; levels = record { roll = 40000; acceleration = 9810 }; decorrelation = 1500 }

-- a quiet roll beside an acceleration that passes its level at 500 ms, and a record that is calm in both
abbrev failing : Texts
failing = record { roll = 48 ∷ 44 ∷ 48 ∷ 10 ∷ 53 ∷ 48 ∷ 48 ∷ 44 ∷ 48 ∷ 10 ∷ []; acceleration = 48 ∷ 44 ∷ 48 ∷ 10 ∷ 53 ∷ 48 ∷ 48 ∷ 44 ∷ 49 ∷ 50 ∷ 46 ∷ 53 ∷ 10 ∷ [] }

abbrev calm : Texts
calm =
    record {
      roll = 48 ∷ 44 ∷ 48 ∷ 10 ∷ 53 ∷ 48 ∷ 48 ∷ 44 ∷ 48 ∷ 10 ∷ 49 ∷ 48 ∷ 48 ∷ 48 ∷ 44 ∷ 48 ∷ 10 ∷ [];
      acceleration = 48 ∷ 44 ∷ 48 ∷ 10 ∷ 53 ∷ 48 ∷ 48 ∷ 44 ∷ 48 ∷ 10 ∷ 49 ∷ 48 ∷ 48 ∷ 48 ∷ 44 ∷ 48 ∷ 10 ∷ [];
    }

-- a record for each pair: 1 1 500 and 2 0 1000
pair_sheet_written : pairs_said 7200000 items (failing ∷ calm ∷ [])
    ≡ record {
      line = 115 ∷ 116 ∷ 97 ∷ 110 ∷ 100 ∷ 97 ∷ 114 ∷ 100 ∷ 9 ∷ 55 ∷ 50 ∷ 48 ∷ 48 ∷ 48 ∷ 48 ∷ 48 ∷ 10 ∷ 49 ∷ 9
          ∷ 49 ∷ 9 ∷ 53 ∷ 48 ∷ 48 ∷ 10 ∷ 50 ∷ 9 ∷ 48 ∷ 9 ∷ 49 ∷ 48 ∷ 48 ∷ 48 ∷ 10 ∷ [];
      end = 48;
    }
unfolding pairs_said pairs_from sheet_text lines_from failures_in lines_of first_wrong right is_comma_line is_number all_digits leading
    value_of is_size size_length filled size digits_of digits_within field_text first_bad item_outside moments passing first_of groups
    attach walk later result_for
pair_sheet_written = refl

-- the second record is the first at fault, by its acceleration's first line: refused 2 1 10 2, and no sheet
pair_sheet_refused : pairs_said 7200000 items (calm ∷ record { roll = 48 ∷ 44 ∷ 48 ∷ 10 ∷ 53 ∷ 48 ∷ 48 ∷ 44 ∷ 120 ∷ 10 ∷ []; acceleration = 120 ∷ [] } ∷ [])
    ≡ record { line = 114 ∷ 101 ∷ 102 ∷ 117 ∷ 115 ∷ 101 ∷ 100 ∷ 9 ∷ 50 ∷ 9 ∷ 49 ∷ 9 ∷ 49 ∷ 48 ∷ 9 ∷ 50 ∷ 10 ∷ []; end = 49 }
unfolding pairs_said pairs_from failures_in lines_of first_wrong right is_comma_line is_number all_digits leading value_of is_size
    size_length filled size digits_of digits_within field_text first_bad item_outside moments passing first_of groups attach walk later
    result_for channel_record
pair_sheet_refused = refl

-- files of unequal lengths have no channel: refused 1 0 12
pair_sheet_unequal : pairs_said 7200000 items (record { roll = 48 ∷ 44 ∷ 48 ∷ 10 ∷ []; acceleration = 48 ∷ 44 ∷ 48 ∷ 10 ∷ 53 ∷ 48 ∷ 48 ∷ 44 ∷ 48 ∷ 10 ∷ [] } ∷ [])
    ≡ record { line = 114 ∷ 101 ∷ 102 ∷ 117 ∷ 115 ∷ 101 ∷ 100 ∷ 9 ∷ 49 ∷ 9 ∷ 48 ∷ 9 ∷ 49 ∷ 50 ∷ 10 ∷ []; end = 49 }
unfolding pairs_said pairs_from failures_in lines_of first_wrong right is_comma_line is_number all_digits leading value_of is_size
    size_length filled size digits_of digits_within field_text first_bad item_outside places_then refused_line why_text
pair_sheet_unequal = refl
