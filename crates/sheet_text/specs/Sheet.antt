-- Document 01, "The job sheet": what a text means, from its bytes: what the program writes, and what the reading ends
-- in. Assumes nothing.
use Rattle.std.specs.Prelude.{ℕ, Bool, true, false, cond, not, ◌&&◌, List, [], ◌∷◌, ◌++◌, length, leb, ltb, Result, Ok, Err}
use Rattle.refusal.specs.declared.Refusal.TheVariants.{BrokenState, Line, Room}
use Rattle.text.specs.Write.{written}
use Rattle.decimal.specs.Lines.{lines_of}
use Rattle.sheet_text.specs.declared.Reading.{Reading}
use Rattle.sheet_text.specs.declared.Reading.TheVariants.{Read, Stopped, Waiting}
use Rattle.sheet_line.specs.declared.Sheet.{Sheet}
use Rattle.sheet_line.specs.declared.Sheet.TheVariants.{Fresh, Open}
use Rattle.sheet_line.specs.Form.{ends_line, longest_sheet_line}
use Rattle.sheet_line.specs.Line.{sound_sheet, stepping}
use Rattle.sheet_reply.specs.Written.{record_text, refused_text}
use Rattle.refusal.specs.declared.Refusal.{Refusal}

-- ---- what a text comes to
-- what is written, and what the reading ends in
pub record Account : Type 0 where
  pub text : List ℕ
  pub end : Reading

-- something written before
abbrev pub prefixed : List ℕ → Account → Account
prefixed text a = record { text = text ++ a.text; end = a.end }

-- at the first refusal the program writes the refused line and stops
abbrev pub end_text : Reading → List ℕ
end_text (Stopped line column r) = refused_text line column r
end_text (Read c) = []
end_text (Waiting s left) = []

abbrev pub ended : Reading → Account
ended r = record { text = end_text r; end = r }

-- for each record that a line enters its line is written
abbrev pub text_of : Sheet → List ℕ
text_of Fresh = []
text_of (Open c) = record_text c

abbrev pub after_step : Result Sheet (ℕ × ℕ × Refusal) → (Sheet → Account) → Account
after_step (Ok s) go = prefixed (text_of s) (go s)
after_step (Err (line, column, r)) go = ended (Stopped line column r)

-- after the last line: an absent line 1 is refusal 9; where more may follow the reading waits
abbrev pub last_of : Bool → Sheet → Reading
last_of true s = Waiting s 0
last_of false Fresh = Stopped 1 0 (Line 1)
last_of false (Open c) = Read c

-- where more may follow, a line without its LF waits for it, its bytes unread; not one that is as long as a line may be
-- without it
abbrev pub waits : Bool → List ℕ → Bool
waits more line = more && (not (ends_line line) && ltb (length line) longest_sheet_line)

-- the lines one by one, from where the reading stands; `more`: more of the text may follow
unfoldable pub reading_sheet : Bool → List (List ℕ) → Sheet → Account
reading_sheet more [] s = ended (last_of more s)
reading_sheet more (line ∷ lines) s = cond (waits more line) (ended (Waiting s (length line))) (after_step (stepping s line) (reading_sheet more lines))

-- THE MEANING OF A TEXT
unfoldable pub meaning : List ℕ → Account
meaning text = reading_sheet false (lines_of text) Fresh

-- ---- what the readers of a lent text answer; a campaign that was never handed out is refusal 8
unfoldable pub reading_end : Bool → List ℕ → Sheet → Reading
reading_end more text s = cond (sound_sheet s) (reading_sheet more (lines_of text) s).end (Stopped 0 0 BrokenState)

-- a run writes what its lines give: 8, 7 with the bytes needed; a refusal leaves the lent bytes as they were
unfoldable pub running : Bool → List ℕ → Sheet → List ℕ → Result (Reading × ℕ) Refusal
running more text s out =
    cond (sound_sheet s)
    (cond (leb (length (reading_sheet more (lines_of text) s).text) (length out))
    (Ok ((reading_sheet more (lines_of text) s).end, length (reading_sheet more (lines_of text) s).text))
    (Err (Room (length (reading_sheet more (lines_of text) s).text))))
    (Err BrokenState)

unfoldable pub run_left : Bool → List ℕ → Sheet → List ℕ → List ℕ
run_left more text s out = cond (sound_sheet s) (written out 0 (reading_sheet more (lines_of text) s).text) out

-- what a caller counts with: the bytes that a run wrote, and those that it left unread
abbrev pub put_by : Result (Reading × ℕ) Refusal → ℕ
put_by (Ok (end, put)) = put
put_by (Err r) = 0

abbrev pub left_in : Reading → ℕ
left_in (Waiting s left) = left
left_in (Read c) = 0
left_in (Stopped line column r) = 0

abbrev pub left_by : Result (Reading × ℕ) Refusal → ℕ
left_by (Ok (end, put)) = left_in end
left_by (Err r) = 0
