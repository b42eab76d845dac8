-- What the reader's own functions answer: a record's line at a place of a text, and a pass over all lines of a sheet
-- that reads cleanly. Assumes nothing.
use Rattle.std.specs.Prelude.{ℕ, ◌+◌, ◌^◌, ◌≤◌, ◌<◌, ◌≡◌, Bool, cond, false, not, true, ◌&&◌, List, ◌∷◌, ◌++◌, map, length, drop, get_or, eqb, Option, Some, None, Result, Err}
use Rattle.poisson.specs.Rows.{rows}
use Rattle.refusal.specs.declared.Refusal.TheVariants.{BrokenState}
use Rattle.sample_items.specs.Limits.{longest_time}
use Rattle.campaign_state.specs.State.{most_records, sound}
use Rattle.decimal.specs.Decimal.{digits_of, is_digit, leading_digits, longest, value_of, zero_byte}
use Rattle.decimal.specs.Leading.{leading}
use Rattle.decimal.specs.Lines.{lines_of}
use Rattle.sheet_line.specs.declared.Sheet.TheVariants.{Open}
use Rattle.campaign_state.specs.declared.Campaign.{Campaign}
use Rattle.sheet_text.specs.declared.Reading.{Reading}
use Rattle.sheet_text.specs.declared.Reading.TheVariants.{Read, Stopped, Waiting}
use Rattle.sheet_text.specs.Sheet.{meaning, reading_sheet}
use Rattle.sheet_line.specs.Texts.{entry_text, head_text}
use Rattle.sheet_records.specs.Records.{record_in, records_of}
use Rattle.refusal.specs.declared.Refusal.{Refusal}

-- what is answered of a sheet that does not read cleanly
abbrev pub stopped_from : Reading → Result (ℕ × ℕ) (ℕ × ℕ × Refusal)
stopped_from (Stopped line column r) = Err (line, column, r)
stopped_from (Read c) = Err (0, 0, BrokenState)
stopped_from (Waiting s left) = Err (0, 0, BrokenState)

-- a record is taken after so many records and failures
unfoldable pub taken_after : ℕ → ℕ → Bool
taken_after m n = not (eqb m most_records) && not (eqb n rows)

-- the text at a place is a part and what stands after it
pub record StartsWith (text : List ℕ) (at : ℕ) (part : List ℕ) (next : ℕ) : Type 0 where
  pub bytes : drop at text ≡ part ++ drop next text
  pub further : at < next
  pub within : next ≤ length text

-- all digits at a place are those of an exposure that is taken
pub record ExposureHere (text : List ℕ) (at end : ℕ) : Type 0 where
  pub exposure : ℕ
  pub bytes : drop at text ≡ digits_of exposure ++ drop end text
  pub place : end ≡ at + length (leading (drop at text))
  pub low : 1 ≤ exposure
  pub high : exposure ≤ longest_time
  pub within : end ≤ length text

-- or no such exposure ends there with a byte that is no digit
unfoldable pub ExposureAt : List ℕ → ℕ → Option ℕ → Type 0
ExposureAt text at (Some end) = ExposureHere text at end
ExposureAt text at None = (t b : ℕ) (rest : List ℕ) → 1 ≤ t → t ≤ longest_time → is_digit b ≡ false → ¬ (drop at text ≡ digits_of t ++ (b ∷ rest))

-- a record's line with such an exposure stands there; or none of that number does
pub record EntryHere (text : List ℕ) (at due : ℕ) (f : Bool) (next : ℕ) : Type 0 where
  pub exposure : ℕ
  pub starts : StartsWith text at (entry_text due (cond f 1 0) exposure) next
  pub low : 1 ≤ exposure
  pub high : exposure ≤ longest_time

unfoldable pub EntryAt : List ℕ → ℕ → ℕ → Option (Bool × ℕ) → Type 0
EntryAt text at due (Some (f, next)) = EntryHere text at due f next
EntryAt text at due None = (f : Bool) (t : ℕ) (rest : List ℕ) → due < 10 ^ longest → 1 ≤ t → t ≤ longest_time → ¬ (drop at text ≡ entry_text due (cond f 1 0) t ++ rest)

-- line 1 stands at the start; or none does
unfoldable pub HeadOf : List ℕ → Option (ℕ × ℕ) → Type 0
HeadOf text (Some (q, next)) = StartsWith text 0 (head_text q) next × (q < 10 ^ longest)
HeadOf text None = (q : ℕ) (rest : List ℕ) → q < 10 ^ longest → ¬ (text ≡ head_text q ++ rest)

-- from a place on, after line 1, the sheet reads cleanly: the lines there are its records'
pub record CleanFrom (text : List ℕ) (begin : ℕ) : Type 0 where
  pub start : Campaign
  pub end : Campaign
  pub good : sound start ≡ true
  pub none : start.records ≡ 0
  pub reads : (reading_sheet false (lines_of (drop begin text)) (Open start)).end ≡ Read end
  pub says : records_of text ≡ map record_in (lines_of (drop begin text))

-- the sheet reads cleanly; or it does not
pub record CleanPass (text : List ℕ) (q n begin : ℕ) : Type 0 where
  pub end : Campaign
  pub reads : (meaning text).end ≡ Read end
  pub standard : end.standard ≡ q
  pub count : end.records ≡ n
  pub number : length (records_of text) ≡ n
  pub from : CleanFrom text begin

unfoldable pub Passes : List ℕ → Option (ℕ × ℕ × ℕ) → Type 0
Passes text (Some (q, n, begin)) = CleanPass text q n begin
Passes text None = (c : Campaign) → ¬ ((meaning text).end ≡ Read c)

-- the byte of a failed record's flag stands at a place
abbrev pub flag_at : List ℕ → ℕ → Bool
flag_at text at = eqb (get_or text at 0) (zero_byte + 1)

-- what the digits at a place are worth, and the place after them
abbrev pub run_value : List ℕ → ℕ → ℕ
run_value text at = value_of (leading_digits longest (drop at text))

abbrev pub run_end : List ℕ → ℕ → ℕ
run_end text at = at + length (leading_digits longest (drop at text))
