-- WHAT IS WRITTEN FOR THE FILES OF A CAMPAIGN (document 01, "The job sheet"; document 02, [2]; docs/CLERK.md, "From a
-- campaign's files to a verdict"): the sheet of their records, or the refused line of the first file at fault, and a
-- digit, over the whole texts. Assumes nothing.
use Rattle.std.specs.Prelude.{ℕ, ◌+◌, cond, not, List, [], ◌∷◌, ◌++◌, eqb, leb, ℤ, length}
use Rattle.refusal.specs.declared.Refusal.{Refusal}
use Rattle.refusal.specs.declared.Refusal.TheVariants.{CampaignFull, Item, RowsUsedUp}
use Rattle.sample_items.specs.declared.Items.{Items}
use Rattle.sample_items.specs.Limits.{item_outside}
use Rattle.record_end.specs.declared.RecordResult.{RecordResult}
use Rattle.campaign_state.specs.State.{most_records, standard_in_range}
use Rattle.decimal.specs.Lines.{lines_of}
use Rattle.degrees.specs.Degrees.{signed}
use Rattle.comma_line.specs.Text.{samples_of}
use Rattle.sheet_records.specs.Ledger.{failed_in, sheet_text}
use Rattle.desk_line.specs.Said.{Said, read_digit, refused}
use Rattle.comma_count.specs.Line.{one_channel, result_for, file_then}

-- a record as the sheet has it: its exposure, with a minus if it failed
abbrev pub record_in : RecordResult → ℤ
record_in x = signed (not (eqb x.first 0)) x.exposure

abbrev pub record_of : Items → List (List ℕ) → ℤ
record_of i lines = record_in (result_for i (one_channel (samples_of lines)))

-- how many records failed
unfoldable pub failures_in : List ℤ → ℕ
failures_in [] = 0
failures_in (x ∷ xs) = cond (failed_in x) 1 0 + failures_in xs

-- the rows of document 01's table are for 64 failures
abbrev pub most_failures : ℕ
most_failures = 64

-- the refused line names the record, which is the file, and its line
abbrev pub refused_record : ℕ → ℕ → Refusal → Said
refused_record number line r = refused (number ∷ line ∷ []) r

abbrev pub written : ℕ → List ℤ → Said
written q records = record { line = sheet_text q records; end = read_digit }

-- the files after those whose records are there: each 10, 2, 3, 4, then 5, 6, or its record is the next
unfoldable pub sheet_from : ℕ → Items → List ℤ → List (List ℕ) → Said
sheet_from q i records [] = written q records
sheet_from q i records (text ∷ texts) =
    let lines = lines_of text in
    let number = length records + 1 in
    file_then i (refused_record number) lines
    (cond (leb most_records (length records)) (refused_record number 0 CampaignFull)
    (cond (leb most_failures (failures_in records)) (refused_record number 0 RowsUsedUp)
    (sheet_from q i (records ++ (record_of i lines ∷ [])) texts)))

-- WHAT IS WRITTEN FOR THE TEXTS: the standard, item 5, and the items go before all files
unfoldable pub sheet_said : ℕ → Items → List (List ℕ) → Said
sheet_said q i texts =
    cond (not (standard_in_range q)) (refused_record 0 0 (Item 5))
    (cond (not (eqb (item_outside i) 0)) (refused_record 0 0 (Item (item_outside i)))
    (sheet_from q i [] texts))
