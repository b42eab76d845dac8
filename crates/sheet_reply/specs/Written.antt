-- Document 01, "The job sheet": the lines that the program writes, fields parted by a tab, ended by LF; and what
-- writing one into lent bytes answers and leaves. Assumes nothing.
use Rattle.std.specs.Prelude.{ℕ, ◌+◌, cond, List, [], ◌∷◌, ◌++◌, length, eqb, Result, Ok, Err}
use Rattle.refusal.specs.declared.Refusal.{Refusal}
use Rattle.refusal.specs.declared.Refusal.TheVariants.{BrokenState, Room}
use Rattle.refusal.specs.Numbers.{number_of}
use Rattle.text.specs.Write.{fits, written}
use Rattle.decimal.specs.Field.{tab, line_feed, field_text}
use Rattle.campaign_state.specs.declared.Campaign.{Campaign}
use Rattle.campaign_state.specs.State.{censored, sound}
use Rattle.campaign_verdict.specs.Figures.{verdict_of}
use Rattle.campaign_verdict.specs.Letters.{letter_of}

-- the letter of a campaign's verdict; no record has none
unfoldable pub letter_for : Campaign → ℕ
letter_for c = letter_of 0 (verdict_of c)

-- for each record: number, N, N*, T and the letter
unfoldable pub figures : Campaign → ℕ → List ℕ
figures c letter =
    field_text c.records tab
    ++ (field_text c.failures tab
    ++ (field_text (censored c) tab
    ++ (field_text c.exposure tab
    ++ (letter ∷ line_feed ∷ []))))

-- without a record nothing is written
unfoldable pub record_text : Campaign → List ℕ
record_text c = cond (eqb c.records 0) [] (figures c (letter_for c))

-- the refusal number, and by document 02, request 10, for a malformed line alone the column
abbrev pub malformed_number : ℕ
malformed_number = 9

unfoldable pub reason_text : ℕ → ℕ → List ℕ
reason_text number column = cond (eqb number malformed_number) (field_text number tab ++ field_text column line_feed) (field_text number line_feed)

-- at the first refusal: refused, line number, refusal number
abbrev pub refused_word : List ℕ
refused_word = 114 ∷ 101 ∷ 102 ∷ 117 ∷ 115 ∷ 101 ∷ 100 ∷ tab ∷ []

unfoldable pub refused_text : ℕ → ℕ → Refusal → List ℕ
refused_text line column r = refused_word ++ (field_text line tab ++ reason_text (number_of r) column)

-- the answer of a writer: the place after the text; where it has no room 7, with the bytes needed
unfoldable pub writing_reply : List ℕ → ℕ → List ℕ → Result ℕ Refusal
writing_reply out at text = cond (fits out at text) (Ok (at + length text)) (Err (Room (length text)))

-- a record's line: 8, 7; a refusal leaves the lent bytes as they were
unfoldable pub record_writing : Campaign → List ℕ → ℕ → Result ℕ Refusal
record_writing c out at = cond (sound c) (writing_reply out at (record_text c)) (Err BrokenState)

unfoldable pub record_left : Campaign → List ℕ → ℕ → List ℕ
record_left c out at = cond (sound c) (written out at (record_text c)) out
