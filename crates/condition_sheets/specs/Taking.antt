-- What the functions over a condition's sheets answer and leave, and sheets that come in pieces. Assumes nothing.
use Rattle.std.specs.Prelude.{ℕ, ◌+◌, Bool, true, false, cond, not, List, [], ◌∷◌, leb, ltb, length, set, take, Result, Ok, Err}
use Rattle.refusal.specs.declared.Refusal.TheVariants.{BrokenState}
use Rattle.refusal.specs.declared.Refusal.TheVariants as refusal
use Rattle.campaign_state.specs.declared.Campaign.{Campaign}
use Rattle.campaign_condition.specs.Answers.{situations_in_range}
use Rattle.campaign_report.specs.Answers.{writing_report}
use Rattle.campaign_report.specs.Report.{report_text}
use Rattle.text.specs.Write.{laid_by}
use Rattle.sheet_line.specs.declared.Sheet.TheVariants.{Fresh}
use Rattle.sheet_text.specs.declared.Reading.{Reading}
use Rattle.sheet_text.specs.declared.Reading.TheVariants.{Read, Stopped, Waiting}
use Rattle.sheet_text.specs.Pieces.{feeding}
use Rattle.desk_line.specs.declared.Finished.{Finished}
use Rattle.desk_line.specs.Said.{read_digit, putting, put_left}
use Rattle.condition_sheets.specs.Report.{refused_situation}
use Rattle.refusal.specs.declared.Refusal.{Refusal}

-- ---- opening: 18 is no situation's
unfoldable pub opened_condition : ℕ → Result ℕ (ℕ × ℕ × ℕ × Refusal)
opened_condition number = cond (not (situations_in_range number)) (Err (0, 0, 0, refusal.Situations)) (Ok 0)

-- ---- a sheet: what its reading came to decides
abbrev pub by_reading : ℕ → Reading → Result ℕ (ℕ × ℕ × ℕ × Refusal)
by_reading n (Read c) = Ok (n + 1)
by_reading n (Stopped line column r) = Err (n + 1, line, column, r)
by_reading n (Waiting s left) = Err (n + 1, 0, 0, BrokenState)

abbrev pub step_of : Result ℕ (ℕ × ℕ × ℕ × Refusal) → Reading → Result ℕ (ℕ × ℕ × ℕ × Refusal)
step_of (Ok n) r = cond (leb 64 n) (Err (0, 0, 0, refusal.Situations)) (by_reading n r)
step_of (Err (situation, line, column, x)) r = Err (situation, line, column, x)

-- the places of the campaigns afterwards, of which there are 64
unfoldable pub placed : ℕ → Campaign → List Campaign → List Campaign
placed n c places = cond (ltb n 64) (set places n c) places

abbrev pub place_read : ℕ → Reading → List Campaign → List Campaign
place_read n (Read c) places = placed n c places
place_read n (Stopped line column r) places = places
place_read n (Waiting s left) places = places

abbrev pub places_after : Result ℕ (ℕ × ℕ × ℕ × Refusal) → Reading → List Campaign → List Campaign
places_after (Ok n) r places = place_read n r places
places_after (Err (situation, line, column, x)) r places = places

abbrev pub is_over : Result ℕ (ℕ × ℕ × ℕ × Refusal) → Bool
is_over (Ok n) = false
is_over (Err (situation, line, column, x)) = true

-- ---- the end: the report as it is written, or a refused line; the lent bytes afterwards
abbrev pub writing_told : Result ℕ Refusal → List ℕ → Finished
writing_told (Ok n) out = record { put = n; end = read_digit }
writing_told (Err r) out = putting (refused_situation 0 0 0 r) out

abbrev pub writing_kept : Result ℕ Refusal → List ℕ → List ℕ
writing_kept (Ok n) out = out
writing_kept (Err r) out = put_left (refused_situation 0 0 0 r) out

unfoldable pub report_told : ℕ → List Campaign → List ℕ → Finished
report_told n places out =
    let w = writing_report n (take n places) out in
    writing_told w (laid_by w (report_text (take n places)) out)

unfoldable pub report_kept : ℕ → List Campaign → List ℕ → List ℕ
report_kept n places out =
    let w = writing_report n (take n places) out in
    writing_kept w (laid_by w (report_text (take n places)) out)

abbrev pub finishing : Result ℕ (ℕ × ℕ × ℕ × Refusal) → List Campaign → List ℕ → Finished
finishing (Ok n) places out = report_told n places out
finishing (Err (situation, line, column, r)) places out = putting (refused_situation situation line column r) out

abbrev pub finish_left : Result ℕ (ℕ × ℕ × ℕ × Refusal) → List Campaign → List ℕ → List ℕ
finish_left (Ok n) places out = report_kept n places out
finish_left (Err (situation, line, column, r)) places out = put_left (refused_situation situation line column r) out

-- ---- sheets one after the other, each in its pieces: what was taken, and the places of the campaigns
pub record Taken : Type 0 where
  pub situations : Result ℕ (ℕ × ℕ × ℕ × Refusal)
  pub places : List Campaign

abbrev pub with_sheet : Taken → List (List ℕ) → Taken
with_sheet t pieces =
    let r = (feeding pieces Fresh []).end in
    record { situations = step_of t.situations r; places = places_after t.situations r t.places }

unfoldable pub taken_after : Taken → List (List (List ℕ)) → Taken
taken_after t [] = t
taken_after t (pieces ∷ sheets) = taken_after (with_sheet t pieces) sheets
