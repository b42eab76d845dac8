-- What the functions over a campaign's files answer and leave, and files that come in pieces. Assumes nothing.
use Rattle.std.specs.Prelude.{ℕ, ◌+◌, Bool, true, false, cond, not, List, [], ◌∷◌, ◌++◌, eqb, leb, ltb, ℤ, length, set, take, drop, Result, Ok, Err}
use Rattle.refusal.specs.declared.Refusal.TheVariants.{CampaignFull, Item, Room, RowsUsedUp}
use Rattle.sample_items.specs.declared.Items.{Items}
use Rattle.sample_items.specs.Limits.{item_outside}
use Rattle.record_state.specs.declared.Record.{Record}
use Rattle.record_end.specs.declared.RecordResult.{RecordResult}
use Rattle.record_end.specs.Result.{ending}
use Rattle.campaign_state.specs.State.{most_records, standard_in_range}
use Rattle.text.specs.Write.{laid_by}
use Rattle.sheet_records.specs.Ledger.{sheet_text}
use Rattle.sheet_records.specs.Answers.{writing_sheet}
use Rattle.desk_line.specs.declared.Finished.{Finished}
use Rattle.desk_line.specs.Said.{read_digit, putting, put_left}
use Rattle.comma_count.specs.Taking.{end_of, opening}
use Rattle.comma_count.specs.Pieces.{carrying}
use Rattle.sheet_files.specs.Files.{most_failures, record_in, refused_record}
use Rattle.refusal.specs.declared.Refusal.{Refusal}

-- ---- opening: 1 is no file's
unfoldable pub opened_sheet : ℕ → Items → Result (ℕ × ℕ) (ℕ × ℕ × Refusal)
opened_sheet q i =
    cond (not (standard_in_range q)) (Err (0, 0, Item 5))
    (cond (eqb (item_outside i) 0) (Ok (0, 0)) (Err (0, 0, Item (item_outside i))))

-- ---- a file: what it came to decides
unfoldable pub step_taken : ℕ → ℕ → ℕ → RecordResult → ℕ → Result (ℕ × ℕ × ℕ × ℤ) (ℕ × ℕ × Refusal)
step_taken number n failures x places =
    cond (leb most_records n) (Err (number, 0, CampaignFull))
    (cond (leb most_failures failures) (Err (number, 0, RowsUsedUp))
    (cond (leb places n) (Err (number, 0, Room (n + 1)))
    (Ok (n, n + 1, cond (eqb x.first 0) failures (failures + 1), record_in x))))

abbrev pub step_as : ℕ → ℕ → ℕ → Result RecordResult Refusal → ℕ → Result (ℕ × ℕ × ℕ × ℤ) (ℕ × ℕ × Refusal)
step_as number n failures (Ok x) places = step_taken number n failures x places
step_as number n failures (Err q) places = Err (number, 0, q)

abbrev pub step_ended : ℕ → ℕ → ℕ → Record → ℕ → Result (ℕ × ℕ × ℕ × ℤ) (ℕ × ℕ × Refusal)
step_ended number n failures r places = step_as number n failures (ending r) places

abbrev pub step_by : ℕ → ℕ → ℕ → Result Record (ℕ × Refusal) → ℕ → Result (ℕ × ℕ × ℕ × ℤ) (ℕ × ℕ × Refusal)
step_by number n failures (Ok r) places = step_ended number n failures r places
step_by number n failures (Err (line, q)) places = Err (number, line, q)

abbrev pub step_in : ℕ → Result (ℕ × ℕ) (ℕ × ℕ × Refusal) → Result Record (ℕ × Refusal) → ℕ → Result (ℕ × ℕ × ℕ × ℤ) (ℕ × ℕ × Refusal)
step_in number (Ok (n, failures)) e places = step_by number n failures e places
step_in number (Err (first, line, q)) e places = Err (first, line, q)

abbrev pub filed_of : Result (ℕ × ℕ × ℕ × ℤ) (ℕ × ℕ × Refusal) → Result (ℕ × ℕ) (ℕ × ℕ × Refusal)
filed_of (Ok (place, n, failures, x)) = Ok (n, failures)
filed_of (Err (number, line, q)) = Err (number, line, q)

-- the lent records afterwards
abbrev pub left_by : Result (ℕ × ℕ × ℕ × ℤ) (ℕ × ℕ × Refusal) → List ℤ → List ℤ
left_by (Ok (place, n, failures, x)) records = set records place x
left_by (Err (number, line, q)) records = records

abbrev pub is_over : Result (ℕ × ℕ) (ℕ × ℕ × Refusal) → Bool
is_over (Ok (n, failures)) = false
is_over (Err (number, line, q)) = true

-- ---- the end: the sheet as it is written, or a refused line; the lent bytes afterwards
abbrev pub writing_put : Result ℕ Refusal → List ℕ → Finished
writing_put (Ok n) out = record { put = n; end = read_digit }
writing_put (Err r) out = putting (refused_record 0 0 r) out

abbrev pub writing_left : Result ℕ Refusal → List ℕ → List ℕ
writing_left (Ok n) out = out
writing_left (Err r) out = put_left (refused_record 0 0 r) out

unfoldable pub sheet_put : ℕ → ℕ → List ℤ → List ℕ → Finished
sheet_put q n records out =
    cond (ltb (length records) n) (putting (refused_record 0 0 (Room n)) out)
    (writing_put (writing_sheet q (take n records) out) (laid_by (writing_sheet q (take n records) out) (sheet_text q (take n records)) out))

unfoldable pub sheet_left : ℕ → ℕ → List ℤ → List ℕ → List ℕ
sheet_left q n records out =
    cond (ltb (length records) n) (put_left (refused_record 0 0 (Room n)) out)
    (writing_left (writing_sheet q (take n records) out) (laid_by (writing_sheet q (take n records) out) (sheet_text q (take n records)) out))

abbrev pub finishing : ℕ → Result (ℕ × ℕ) (ℕ × ℕ × Refusal) → List ℤ → List ℕ → Finished
finishing q (Ok (n, failures)) records out = sheet_put q n records out
finishing q (Err (number, line, r)) records out = putting (refused_record number line r) out

abbrev pub finish_left : ℕ → Result (ℕ × ℕ) (ℕ × ℕ × Refusal) → List ℤ → List ℕ → List ℕ
finish_left q (Ok (n, failures)) records out = sheet_left q n records out
finish_left q (Err (number, line, r)) records out = put_left (refused_record number line r) out

-- ---- files one after the other from this number on, each in its pieces: what was filed, and the lent records
pub record Desk : Type 0 where
  pub filed : Result (ℕ × ℕ) (ℕ × ℕ × Refusal)
  pub records : List ℤ

abbrev pub with_file : Items → ℕ → Desk → List (List ℕ) → Desk
with_file i number d pieces =
    let s = step_in number d.filed (end_of (carrying (opening i) [] pieces)) (length d.records) in
    record { filed = filed_of s; records = left_by s d.records }

unfoldable pub desk_after : Items → ℕ → Desk → List (List (List ℕ)) → Desk
desk_after i number d [] = d
desk_after i number d (pieces ∷ files) = desk_after i (number + 1) (with_file i number d pieces) files
