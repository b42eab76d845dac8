-- WHAT IS WRITTEN FOR YESTERDAY'S SHEET AND TODAY'S FILES (document 01, "The job sheet"; document 02, [2];
-- docs/CLERK.md, "The next day"): the sheet of its standard, its records and then theirs, or the refused line of what
-- is first at fault, and a digit, over the whole texts. Assumes nothing.
use Rattle.std.specs.Prelude.{ℕ, cond, not, List, Some, None, eqb}
use Rattle.refusal.specs.declared.Refusal.{Refusal}
use Rattle.refusal.specs.declared.Refusal.TheVariants.{BrokenState, Item}
use Rattle.refusal.specs.Numbers.{number_of, value_of}
use Rattle.sample_items.specs.declared.Items.{Items}
use Rattle.sample_items.specs.Limits.{item_outside}
use Rattle.sheet_text.specs.declared.Reading.{Reading}
use Rattle.sheet_text.specs.declared.Reading.TheVariants.{Read, Stopped, Waiting}
use Rattle.sheet_text.specs.Sheet.{meaning}
use Rattle.sheet_records.specs.Records.{records_of}
use Rattle.desk_line.specs.Said.{Said}
use Rattle.sheet_fault.specs.Fault.{refused_sheet}
use Rattle.sheet_files.specs.Files.{sheet_from}

-- the refused line of the sheet: no record's, 0; its line; the number, after 9 the column, after 1 the item
abbrev pub refused_old : ℕ → ℕ → Refusal → Said
refused_old line column r =
    refused_sheet 0 line (number_of r)
    (cond (eqb (number_of r) 9) (Some column) (cond (eqb (number_of r) 1) (Some (value_of r)) None))

-- a whole text never waits for more
abbrev pub after_reading : Reading → Items → List ℕ → List (List ℕ) → Said
after_reading (Read c) i old texts = sheet_from c.standard i (records_of old) texts
after_reading (Stopped line column r) i old texts = refused_old line column r
after_reading (Waiting s left) i old texts = refused_old 0 0 BrokenState

-- WHAT IS WRITTEN: the items go before the sheet, and the sheet before the files
unfoldable pub sheet_after : Items → List ℕ → List (List ℕ) → Said
sheet_after i old texts =
    cond (not (eqb (item_outside i) 0)) (refused_old 0 0 (Item (item_outside i)))
    (after_reading (meaning old).end i old texts)
