-- WHAT IS WRITTEN FOR THE FILES OF A CAMPAIGN WHOSE RECORDS HAVE TWO CHANNELS (documents 01, "The job sheet", and 02,
-- [2], [8]; docs/CLERK.md): each record has two files, the roll's and the acceleration's. The sheet of the records, or
-- the refused line of the first record at fault, after 10 and 2 with the channel, and a digit, over the whole texts.
-- Assumes nothing.
use Rattle.std.specs.Prelude.{ℕ, ◌+◌, cond, not, List, [], ◌∷◌, ◌++◌, eqb, leb, ℤ, length}
use Rattle.refusal.specs.declared.Refusal.{Refusal}
use Rattle.refusal.specs.declared.Refusal.TheVariants.{CampaignFull, Item, RowsUsedUp, TooShort}
use Rattle.refusal.specs.Numbers.{number_of}
use Rattle.sample_items.specs.declared.Items.{Items}
use Rattle.sample_items.specs.Limits.{item_outside}
use Rattle.crossing_places.specs.Reading.{too_few}
use Rattle.campaign_state.specs.State.{most_records, standard_in_range}
use Rattle.decimal.specs.Field.{tab, line_feed, field_text}
use Rattle.decimal.specs.Lines.{lines_of}
use Rattle.desk_line.specs.Said.{Said, refused_digit, refused_word}
use Rattle.comma_count.specs.Line.{result_for}
use Rattle.comma_pair.specs.Line.{both_channels, pair_then}
use Rattle.sheet_files.specs.Files.{failures_in, most_failures, record_in, refused_record, written}

-- the two texts of a record
pub record Texts : Type 0 where
  pub roll : List ℕ
  pub acceleration : List ℕ

-- the refused line with a channel: the word, the record, its line, the refusal's number, the channel
unfoldable pub channel_record : ℕ → ℕ → Refusal → ℕ → List ℕ
channel_record number line r channel =
    refused_word
    ++ (field_text number tab
    ++ (field_text line tab
    ++ (field_text (number_of r) tab
    ++ field_text channel line_feed)))

abbrev pub refused_record_of : ℕ → ℕ → Refusal → ℕ → Said
refused_record_of number line r channel = record { line = channel_record number line r channel; end = refused_digit }

abbrev pub record_of_both : Items → List (List ℕ) → List (List ℕ) → ℤ
record_of_both i ls ms = record_in (result_for i (both_channels ls ms))

-- the files after those whose records are there: each pair 10, 12, 2, 3, 4, then 5, 6, or its record is the next
unfoldable pub pairs_from : ℕ → Items → List ℤ → List Texts → Said
pairs_from q i records [] = written q records
pairs_from q i records (t ∷ pairs) =
    let ls = lines_of t.roll in
    let ms = lines_of t.acceleration in
    let number = length records + 1 in
    pair_then i (refused_record number 0) (refused_record_of number) ls ms
    (cond (too_few i.ramp (length ls)) (refused_record number 0 TooShort)
    (cond (leb most_records (length records)) (refused_record number 0 CampaignFull)
    (cond (leb most_failures (failures_in records)) (refused_record number 0 RowsUsedUp)
    (pairs_from q i (records ++ (record_of_both i ls ms ∷ [])) pairs))))

-- WHAT IS WRITTEN FOR THE TEXTS: the standard, item 5, and the items go before all files
unfoldable pub pairs_said : ℕ → Items → List Texts → Said
pairs_said q i pairs =
    cond (not (standard_in_range q)) (refused_record 0 0 (Item 5))
    (cond (not (eqb (item_outside i) 0)) (refused_record 0 0 (Item (item_outside i)))
    (pairs_from q i [] pairs))
