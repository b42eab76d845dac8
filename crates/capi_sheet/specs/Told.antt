-- What reading a whole sheet leaves: the campaign that its meaning ends in, in the lent array, or the number of its
-- first refusal, the line that it stands on and its column. Assumes nothing.
use Rattle.std.specs.Prelude.{ℕ, cond, List, eqb, length, Result, Ok, Err}
use Rattle.refusal.specs.declared.Refusal.TheVariants.{BrokenState}
use Rattle.sheet_text.specs.declared.Reading.{Reading}
use Rattle.sheet_text.specs.declared.Reading.TheVariants.{Read, Stopped, Waiting}
use Rattle.sheet_text.specs.Sheet.{meaning}
use Rattle.capi.specs.Numbers.{campaign_numbers}
use Rattle.capi.specs.Told.{Told, campaign_kept}
use Rattle.refusal.specs.declared.Refusal.{Refusal}
use Rattle.campaign_state.specs.declared.Campaign.{Campaign}

-- what a reading ends in; a whole text never waits for more
abbrev pub answer_of : Reading → Result Campaign Refusal
answer_of (Read c) = Ok c
answer_of (Stopped line column r) = Err r
answer_of (Waiting s left) = Err BrokenState

-- the line of the first refusal, 0 where there is none
abbrev pub line_of : Reading → ℕ
line_of (Read c) = 0
line_of (Stopped line column r) = line
line_of (Waiting s left) = 0

-- the column of a malformed line's fault, 0 for any other refusal and where there is none
abbrev pub column_of : Reading → ℕ
column_of (Read c) = 0
column_of (Stopped line column r) = column
column_of (Waiting s left) = 0

abbrev pub sheet_read : List ℕ → List ℕ → Told
sheet_read text s = campaign_kept (answer_of (meaning text).end) s

-- an array of another length is refused on no line, at no column
unfoldable pub sheet_line : List ℕ → List ℕ → ℕ
sheet_line text s = cond (eqb (length s) campaign_numbers) (line_of (meaning text).end) 0

unfoldable pub sheet_column : List ℕ → List ℕ → ℕ
sheet_column text s = cond (eqb (length s) campaign_numbers) (column_of (meaning text).end) 0
