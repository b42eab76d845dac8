-- Document 01, "The job sheet": what one line of a sheet says. A line is its bytes, the LF with them. Assumes nothing.
use Rattle.std.specs.Prelude.{ℕ, ◌+◌, Bool, true, false, cond, ◌&&◌, List, [], ◌∷◌, length, drop, eqb, leb, ltb, Result, Ok, Err}
use Rattle.refusal.specs.declared.Refusal.TheVariants.{BrokenState, Line, TooLong, TooShort}
use Rattle.sample_items.specs.Limits.{longest_time}
use Rattle.record_end.specs.declared.Outcome.{Outcome}
use Rattle.sheet_line.specs.declared.Field.{Field}
use Rattle.sheet_line.specs.declared.Field.TheVariants.{Number, Empty, Strange, LeadingZero, TooLong}
use Rattle.decimal.specs.Field.{tab, line_feed}
use Rattle.sheet_line.specs.Field.{field_at}
use Rattle.sheet_line.specs.Form.{is_sheet_line, begins, standard_start}
use Rattle.sheet_line.specs.Column.{standard_column, record_column}
use Rattle.campaign_state.specs.declared.Campaign.{Campaign}
use Rattle.campaign_state.specs.State.{sound}
use Rattle.campaign_state.specs.Answers.{opened, entering}
use Rattle.sheet_line.specs.declared.Sheet.{Sheet}
use Rattle.sheet_line.specs.declared.Sheet.TheVariants.{Fresh, Open}
use Rattle.refusal.specs.declared.Refusal.{Refusal}

-- ---- fields
-- the text starts with the byte
unfoldable pub starts_with : ℕ → List ℕ → Bool
starts_with byte [] = false
starts_with byte (b ∷ text) = eqb b byte

-- a field with its end: a number, and the place after the byte that has to end it, any other byte there being strange
unfoldable pub ended_by : ℕ → List ℕ → Field → Field
ended_by end line (Number v place) = cond (starts_with end (drop place line)) (Number v (place + 1)) (Strange place)
ended_by end line Empty = Empty
ended_by end line (Strange place) = Strange place
ended_by end line LeadingZero = LeadingZero
ended_by end line TooLong = TooLong

unfoldable pub field_then : ℕ → List ℕ → ℕ → Field
field_then end line at = ended_by end line (field_at line at)

-- what a number field goes on with: its number and the place after it; anything else is bad
abbrev pub with_number : Result Sheet (ℕ × ℕ × Refusal) → Field → (ℕ → ℕ → Result Sheet (ℕ × ℕ × Refusal)) → Result Sheet (ℕ × ℕ × Refusal)
with_number bad (Number v next) go = go v next
with_number bad Empty go = bad
with_number bad (Strange place) go = bad
with_number bad LeadingZero go = bad
with_number bad TooLong go = bad

-- ---- refusals
-- anything else is refusal 9, with the line number, and by document 02, request 10, with the column
abbrev pub malformed : ℕ → ℕ → Result Sheet (ℕ × ℕ × Refusal)
malformed line column = Err (line, column, Line line)

-- the campaign that the line leads to, or its refusal on that line, which has no column
abbrev pub outcome : ℕ → Result Campaign Refusal → Result Sheet (ℕ × ℕ × Refusal)
outcome line (Ok c) = Ok (Open c)
outcome line (Err r) = Err (line, 0, r)

abbrev pub of_line : Result Sheet (ℕ × ℕ × Refusal) → List ℕ → Result Sheet (ℕ × ℕ × Refusal) → Result Sheet (ℕ × ℕ × Refusal)
of_line bad line step = cond (is_sheet_line line) step bad

-- ---- line 1: the word standard, then q; then refusal 1. A malformed one is given the column
unfoldable pub standard_line : ℕ → List ℕ → Result Sheet (ℕ × ℕ × Refusal)
standard_line column line =
    of_line (malformed 1 column) line
    (cond (begins standard_start line)
    (with_number (malformed 1 column) (field_then line_feed line (length standard_start)) (λ q end.
    cond (eqb end (length line)) (outcome 1 (opened q)) (malformed 1 column)))
    (malformed 1 column))

-- ---- later lines: record number, 1 for failed or 0, exposure; then 4, 3, 5, 6
-- the line after those of the standard and the records so far
abbrev pub line_after : Campaign → ℕ
line_after c = c.records + 2

-- the three numbers are a record's: the next record number, 1 or 0, and the line ends after them
abbrev pub is_record : Campaign → List ℕ → ℕ → ℕ → ℕ → Bool
is_record c line number flag end = (eqb number (c.records + 1) && leb flag 1) && eqb end (length line)

-- what a line tells of a record is its outcome, and nothing else
abbrev pub line_outcome : Bool → ℕ → Outcome
line_outcome f t = record { failed = f; exposure = t }

-- exposure 0 gives 4, above 10,000,000 gives 3; else what follows
abbrev pub exposure_then : ℕ → Result Campaign Refusal → Result Campaign Refusal
exposure_then t rest = cond (eqb t 0) (Err TooShort) (cond (ltb longest_time t) (Err TooLong) rest)

-- 4, 3; else the outcome enters: 5, 6
unfoldable pub telling : Campaign → Bool → ℕ → Result Campaign Refusal
telling c f t = exposure_then t (entering c (line_outcome f t))

unfoldable pub record_line : ℕ → Campaign → List ℕ → Result Sheet (ℕ × ℕ × Refusal)
record_line column c line =
    of_line (malformed (line_after c) column) line
    (with_number (malformed (line_after c) column) (field_then tab line 0) (λ number second.
    with_number (malformed (line_after c) column) (field_then tab line second) (λ flag third.
    with_number (malformed (line_after c) column) (field_then line_feed line third) (λ exposure end.
    cond (is_record c line number flag end) (outcome (line_after c) (telling c (eqb flag 1) exposure)) (malformed (line_after c) column)))))

-- ---- a line, where the reading stands: before line 1, or at a campaign; a campaign that was never handed out is refusal 8, on no line
unfoldable pub stepping : Sheet → List ℕ → Result Sheet (ℕ × ℕ × Refusal)
stepping Fresh line = standard_line (standard_column line) line
stepping (Open c) line = cond (sound c) (record_line (record_column (c.records + 1) line) c line) (Err (0, 0, BrokenState))

-- the reading stands at a campaign that keeps its relations
abbrev pub sound_sheet : Sheet → Bool
sound_sheet Fresh = true
sound_sheet (Open c) = sound c
