-- What the functions that take yesterday's sheet up answer and leave, and today's files in pieces after it. Assumes
-- nothing.
use Rattle.std.specs.Prelude.{ℕ, ◌+◌, cond, List, eqb, ltb, ℤ, length, take, Result, Ok, Err}
use Rattle.refusal.specs.declared.Refusal.TheVariants.{Item, Room}
use Rattle.sample_items.specs.declared.Items.{Items}
use Rattle.sample_items.specs.Limits.{item_outside}
use Rattle.sheet_records.specs.Records.{filled_by, records_of, resuming}
use Rattle.desk_line.specs.declared.Finished.{Finished}
use Rattle.desk_line.specs.Said.{putting, put_left}
use Rattle.sheet_files.specs.Files.{failures_in}
use Rattle.sheet_files.specs.Filing.{Desk, desk_after, finishing, finish_left}
use Rattle.sheet_after.specs.After.{refused_old}
use Rattle.refusal.specs.declared.Refusal.{Refusal}

-- ---- the records that were read, counted
unfoldable pub counted_up : ℕ → ℕ → List ℤ → Result (ℕ × ℕ × ℕ) (ℕ × ℕ × Refusal)
counted_up q n records =
    cond (ltb (length records) n) (Err (0, 0, Room n)) (Ok (q, n, failures_in (take n records)))

abbrev pub up_by : Result (ℕ × ℕ) (ℕ × ℕ × Refusal) → List ℤ → Result (ℕ × ℕ × ℕ) (ℕ × ℕ × Refusal)
up_by (Ok (q, n)) records = counted_up q n records
up_by (Err (line, column, r)) records = Err (line, column, r)

-- ---- the sheet: an item goes before it; then its first refusal; else its standard, its records and their failures
abbrev pub up_of : Result (ℕ × ℕ) (ℕ × ℕ × Refusal) → List ℕ → Result (ℕ × ℕ × ℕ) (ℕ × ℕ × Refusal)
up_of (Ok (q, n)) sheet = Ok (q, n, failures_in (records_of sheet))
up_of (Err (line, column, r)) sheet = Err (line, column, r)

unfoldable pub taking_up : Items → List ℕ → ℕ → Result (ℕ × ℕ × ℕ) (ℕ × ℕ × Refusal)
taking_up i sheet places =
    cond (eqb (item_outside i) 0) (up_of (resuming sheet places) sheet)
    (Err (0, 0, Item (item_outside i)))

-- the lent records afterwards
unfoldable pub taken_left : Items → List ℕ → List ℤ → List ℤ
taken_left i sheet records =
    cond (eqb (item_outside i) 0) (filled_by (resuming sheet (length records)) (records_of sheet) records) records

-- ---- today's files after the records, each in its pieces
abbrev pub desk_up : Items → ℕ → ℕ → List ℤ → List (List (List ℕ)) → Desk
desk_up i n failures records files =
    desk_after i (n + 1) (record { filed = Ok (n, failures); records = records }) files

-- how it ends, and the lent bytes afterwards
abbrev pub finishing_day : Result (ℕ × ℕ × ℕ) (ℕ × ℕ × Refusal) → Items → List ℤ → List (List (List ℕ)) → List ℕ → Finished
finishing_day (Ok (q, n, failures)) i records files out =
    let d = desk_up i n failures records files in
    finishing q d.filed d.records out
finishing_day (Err (line, column, r)) i records files out = putting (refused_old line column r) out

abbrev pub day_left : Result (ℕ × ℕ × ℕ) (ℕ × ℕ × Refusal) → Items → List ℤ → List (List (List ℕ)) → List ℕ → List ℕ
day_left (Ok (q, n, failures)) i records files out =
    let d = desk_up i n failures records files in
    finish_left q d.filed d.records out
day_left (Err (line, column, r)) i records files out = put_left (refused_old line column r) out
