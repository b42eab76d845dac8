-- Document 01, "The job sheet", computed: small sheets and what the program writes for each, one sentence each. The
-- columns are those of document 02's [10]. Its own whole case is `whole_case` of the crate sheet. Assumes nothing.
use mathlib.Core.Path.{◌≡◌, refl}
use mathlib.Core.Bool.{true, false}
use mathlib.Core.List.{List, [], ◌∷◌, ◌++◌, map}
use Prim.Native.Nat.{ℕ, zero, suc}
use Rattle.poisson.specs.Tables.{l, lower_rows, u, upper_rows}
use Rattle.decimal.specs.Decimal.{all_digits, digits_of, digits_within, is_number, value_of}
use Rattle.decimal.specs.Field.{field_text}
use Rattle.decimal.specs.Lines.{lines_of}
use Rattle.decimal.specs.Leading.{leading}
use Rattle.sheet_line.specs.Field.{fault_in, field_at, field_of, read_as}
use Rattle.campaign_state.specs.Answers.{entering}
use Rattle.campaign_state.specs.State.{censored, sound}
use Rattle.sheet_line.specs.Column.{how_many, record_column, record_fields, standard_column, standard_fields}
use Rattle.sheet_line.specs.Form.{begins, standard_start}
use Rattle.sheet_line.specs.Line.{ended_by, field_then, record_line, standard_line, starts_with, stepping, telling}
use Rattle.sheet_reply.specs.Written.{figures, letter_for, reason_text, record_text, refused_text}
use Rattle.sheet_text.specs.Sheet.{meaning, reading_sheet}

-- what the program writes for a sheet; where it unfolds, all that a sheet's meaning is defined by does
pub says : List ℕ → List ℕ
unfolding meaning reading_sheet lines_of stepping standard_line record_line standard_column record_column standard_fields
    record_fields how_many field_then ended_by starts_with begins field_at read_as fault_in leading field_of is_number
    all_digits value_of telling entering sound censored record_text figures letter_for field_text digits_of digits_within
    refused_text reason_text l u lower_rows upper_rows
says text = (meaning text).text

-- A. standard 7200000; 1 0 10000000; 2 0 10000000; 3 0 6559937 gives C, C and 3 0 1 26559937 A
abbrev accepted_text : List ℕ
accepted_text =
    (115 ∷ 116 ∷ 97 ∷ 110 ∷ 100 ∷ 97 ∷ 114 ∷ 100 ∷ 9 ∷ 55 ∷ 50 ∷ 48 ∷ 48 ∷ 48 ∷ 48 ∷ 48 ∷ 10 ∷ [])
    ++ ((49 ∷ 9 ∷ 48 ∷ 9 ∷ 49 ∷ 48 ∷ 48 ∷ 48 ∷ 48 ∷ 48 ∷ 48 ∷ 48 ∷ 10 ∷ [])
    ++ ((50 ∷ 9 ∷ 48 ∷ 9 ∷ 49 ∷ 48 ∷ 48 ∷ 48 ∷ 48 ∷ 48 ∷ 48 ∷ 48 ∷ 10 ∷ [])
    ++ ((51 ∷ 9 ∷ 48 ∷ 9 ∷ 54 ∷ 53 ∷ 53 ∷ 57 ∷ 57 ∷ 51 ∷ 55 ∷ 10 ∷ []))))

abbrev accepted_reply : List ℕ
accepted_reply =
    (49 ∷ 9 ∷ 48 ∷ 9 ∷ 49 ∷ 9 ∷ 49 ∷ 48 ∷ 48 ∷ 48 ∷ 48 ∷ 48 ∷ 48 ∷ 48 ∷ 9 ∷ 67 ∷ 10 ∷ [])
    ++ ((50 ∷ 9 ∷ 48 ∷ 9 ∷ 49 ∷ 9 ∷ 50 ∷ 48 ∷ 48 ∷ 48 ∷ 48 ∷ 48 ∷ 48 ∷ 48 ∷ 9 ∷ 67 ∷ 10 ∷ [])
    ++ ((51 ∷ 9 ∷ 48 ∷ 9 ∷ 49 ∷ 9 ∷ 50 ∷ 54 ∷ 53 ∷ 53 ∷ 57 ∷ 57 ∷ 51 ∷ 55 ∷ 9 ∷ 65 ∷ 10 ∷ [])))

pub accepted : says accepted_text ≡ accepted_reply
unfolding says
accepted = refl

-- R; then number, N, N* and T are four numbers: 1 1 1 182282 R; 2 1 2 10182282 C
abbrev rejected_text : List ℕ
rejected_text =
    (115 ∷ 116 ∷ 97 ∷ 110 ∷ 100 ∷ 97 ∷ 114 ∷ 100 ∷ 9 ∷ 55 ∷ 50 ∷ 48 ∷ 48 ∷ 48 ∷ 48 ∷ 48 ∷ 10 ∷ [])
    ++ ((49 ∷ 9 ∷ 49 ∷ 9 ∷ 49 ∷ 56 ∷ 50 ∷ 50 ∷ 56 ∷ 50 ∷ 10 ∷ [])
    ++ ((50 ∷ 9 ∷ 48 ∷ 9 ∷ 49 ∷ 48 ∷ 48 ∷ 48 ∷ 48 ∷ 48 ∷ 48 ∷ 48 ∷ 10 ∷ [])))

abbrev rejected_reply : List ℕ
rejected_reply =
    (49 ∷ 9 ∷ 49 ∷ 9 ∷ 49 ∷ 9 ∷ 49 ∷ 56 ∷ 50 ∷ 50 ∷ 56 ∷ 50 ∷ 9 ∷ 82 ∷ 10 ∷ [])
    ++ ((50 ∷ 9 ∷ 49 ∷ 9 ∷ 50 ∷ 9 ∷ 49 ∷ 48 ∷ 49 ∷ 56 ∷ 50 ∷ 50 ∷ 56 ∷ 50 ∷ 9 ∷ 67 ∷ 10 ∷ []))

pub rejected : says rejected_text ≡ rejected_reply
unfolding says
rejected = refl

-- at the first refusal refused, line number, refusal number, and nothing more: 1 0 10000001 and a good line after it
-- give refused 2 3
abbrev stopped_text : List ℕ
stopped_text =
    (115 ∷ 116 ∷ 97 ∷ 110 ∷ 100 ∷ 97 ∷ 114 ∷ 100 ∷ 9 ∷ 55 ∷ 50 ∷ 48 ∷ 48 ∷ 48 ∷ 48 ∷ 48 ∷ 10 ∷ [])
    ++ ((49 ∷ 9 ∷ 48 ∷ 9 ∷ 49 ∷ 48 ∷ 48 ∷ 48 ∷ 48 ∷ 48 ∷ 48 ∷ 49 ∷ 10 ∷ [])
    ++ ((49 ∷ 9 ∷ 48 ∷ 9 ∷ 53 ∷ 10 ∷ [])))

abbrev stopped_reply : List ℕ
stopped_reply = (114 ∷ 101 ∷ 102 ∷ 117 ∷ 115 ∷ 101 ∷ 100 ∷ 9 ∷ 50 ∷ 9 ∷ 51 ∷ 10 ∷ [])

pub stopped : says stopped_text ≡ stopped_reply
unfolding says
stopped = refl

-- an absent line 1 is 9: refused 1 9 0
abbrev absent_text : List ℕ
absent_text = []

abbrev absent_reply : List ℕ
absent_reply = (114 ∷ 101 ∷ 102 ∷ 117 ∷ 115 ∷ 101 ∷ 100 ∷ 9 ∷ 49 ∷ 9 ∷ 57 ∷ 9 ∷ 48 ∷ 10 ∷ [])

pub absent : says absent_text ≡ absent_reply
unfolding says
absent = refl

-- a last line without LF: refused 2 9 0
abbrev unended_text : List ℕ
unended_text =
    (115 ∷ 116 ∷ 97 ∷ 110 ∷ 100 ∷ 97 ∷ 114 ∷ 100 ∷ 9 ∷ 55 ∷ 50 ∷ 48 ∷ 48 ∷ 48 ∷ 48 ∷ 48 ∷ 10 ∷ [])
    ++ ((49 ∷ 9 ∷ 48 ∷ 9 ∷ 53 ∷ []))

abbrev unended_reply : List ℕ
unended_reply = (114 ∷ 101 ∷ 102 ∷ 117 ∷ 115 ∷ 101 ∷ 100 ∷ 9 ∷ 50 ∷ 9 ∷ 57 ∷ 9 ∷ 48 ∷ 10 ∷ [])

pub unended : says unended_text ≡ unended_reply
unfolding says
unended = refl

-- line 1 is the word standard, then q: Standard 5 gives refused 1 9 1
abbrev standard_first_text : List ℕ
standard_first_text = (83 ∷ 116 ∷ 97 ∷ 110 ∷ 100 ∷ 97 ∷ 114 ∷ 100 ∷ 9 ∷ 53 ∷ 10 ∷ [])

abbrev standard_first_reply : List ℕ
standard_first_reply = (114 ∷ 101 ∷ 102 ∷ 117 ∷ 115 ∷ 101 ∷ 100 ∷ 9 ∷ 49 ∷ 9 ∷ 57 ∷ 9 ∷ 49 ∷ 10 ∷ [])

pub standard_first : says standard_first_text ≡ standard_first_reply
unfolding says
standard_first = refl

-- a number of 12 digits is a number: standard 999999999999 is refused by 1
abbrev standard_range_text : List ℕ
standard_range_text = standard_start ++ (57 ∷ 57 ∷ 57 ∷ 57 ∷ 57 ∷ 57 ∷ 57 ∷ 57 ∷ 57 ∷ 57 ∷ 57 ∷ 57 ∷ 10 ∷ [])

abbrev standard_range_reply : List ℕ
standard_range_reply = (114 ∷ 101 ∷ 102 ∷ 117 ∷ 115 ∷ 101 ∷ 100 ∷ 9 ∷ 49 ∷ 9 ∷ 49 ∷ 10 ∷ [])

pub standard_range : says standard_range_text ≡ standard_range_reply
unfolding says
standard_range = refl

-- one of 13 is none: refused 1 9 10
abbrev thirteen_text : List ℕ
thirteen_text = standard_start ++ (49 ∷ 48 ∷ 48 ∷ 48 ∷ 48 ∷ 48 ∷ 48 ∷ 48 ∷ 48 ∷ 48 ∷ 48 ∷ 48 ∷ 48 ∷ 10 ∷ [])

abbrev thirteen_reply : List ℕ
thirteen_reply = (114 ∷ 101 ∷ 102 ∷ 117 ∷ 115 ∷ 101 ∷ 100 ∷ 9 ∷ 49 ∷ 9 ∷ 57 ∷ 9 ∷ 49 ∷ 48 ∷ 10 ∷ [])

pub thirteen : says thirteen_text ≡ thirteen_reply
unfolding says
thirteen = refl

-- 0 itself is a number: standard 0 is refused by 1
abbrev zero_itself_text : List ℕ
zero_itself_text = (115 ∷ 116 ∷ 97 ∷ 110 ∷ 100 ∷ 97 ∷ 114 ∷ 100 ∷ 9 ∷ 48 ∷ 10 ∷ [])

abbrev zero_itself_reply : List ℕ
zero_itself_reply = (114 ∷ 101 ∷ 102 ∷ 117 ∷ 115 ∷ 101 ∷ 100 ∷ 9 ∷ 49 ∷ 9 ∷ 49 ∷ 10 ∷ [])

pub zero_itself : says zero_itself_text ≡ zero_itself_reply
unfolding says
zero_itself = refl

-- no leading zero but for 0: standard 05 gives refused 1 9 10
abbrev zero_first_text : List ℕ
zero_first_text = (115 ∷ 116 ∷ 97 ∷ 110 ∷ 100 ∷ 97 ∷ 114 ∷ 100 ∷ 9 ∷ 48 ∷ 53 ∷ 10 ∷ [])

abbrev zero_first_reply : List ℕ
zero_first_reply = (114 ∷ 101 ∷ 102 ∷ 117 ∷ 115 ∷ 101 ∷ 100 ∷ 9 ∷ 49 ∷ 9 ∷ 57 ∷ 9 ∷ 49 ∷ 48 ∷ 10 ∷ [])

pub zero_first : says zero_first_text ≡ zero_first_reply
unfolding says
zero_first = refl

-- no digit is no number: refused 1 9 10
abbrev no_digits_text : List ℕ
no_digits_text = (115 ∷ 116 ∷ 97 ∷ 110 ∷ 100 ∷ 97 ∷ 114 ∷ 100 ∷ 9 ∷ 10 ∷ [])

abbrev no_digits_reply : List ℕ
no_digits_reply = (114 ∷ 101 ∷ 102 ∷ 117 ∷ 115 ∷ 101 ∷ 100 ∷ 9 ∷ 49 ∷ 9 ∷ 57 ∷ 9 ∷ 49 ∷ 48 ∷ 10 ∷ [])

pub no_digits : says no_digits_text ≡ no_digits_reply
unfolding says
no_digits = refl

-- a digit is one from 0 to 9, and neither byte beside these: 1/, 10, 19, 1:
pub ten_digits : map is_number ((49 ∷ 47 ∷ []) ∷ (49 ∷ 48 ∷ []) ∷ (49 ∷ 57 ∷ []) ∷ (49 ∷ 58 ∷ []) ∷ [])
    ≡ false ∷ true ∷ true ∷ false ∷ []
unfolding is_number all_digits
ten_digits = refl

-- records are numbered 1, 2, 3: 2 0 5 first gives refused 2 9 1
abbrev numbered_text : List ℕ
numbered_text =
    (115 ∷ 116 ∷ 97 ∷ 110 ∷ 100 ∷ 97 ∷ 114 ∷ 100 ∷ 9 ∷ 55 ∷ 50 ∷ 48 ∷ 48 ∷ 48 ∷ 48 ∷ 48 ∷ 10 ∷ [])
    ++ ((50 ∷ 9 ∷ 48 ∷ 9 ∷ 53 ∷ 10 ∷ []))

abbrev numbered_reply : List ℕ
numbered_reply = (114 ∷ 101 ∷ 102 ∷ 117 ∷ 115 ∷ 101 ∷ 100 ∷ 9 ∷ 50 ∷ 9 ∷ 57 ∷ 9 ∷ 49 ∷ 10 ∷ [])

pub numbered : says numbered_text ≡ numbered_reply
unfolding says
numbered = refl

-- 1 for failed or 0: 1 2 5 gives refused 2 9 3
abbrev flagged_text : List ℕ
flagged_text =
    (115 ∷ 116 ∷ 97 ∷ 110 ∷ 100 ∷ 97 ∷ 114 ∷ 100 ∷ 9 ∷ 55 ∷ 50 ∷ 48 ∷ 48 ∷ 48 ∷ 48 ∷ 48 ∷ 10 ∷ [])
    ++ ((49 ∷ 9 ∷ 50 ∷ 9 ∷ 53 ∷ 10 ∷ []))

abbrev flagged_reply : List ℕ
flagged_reply = (114 ∷ 101 ∷ 102 ∷ 117 ∷ 115 ∷ 101 ∷ 100 ∷ 9 ∷ 50 ∷ 9 ∷ 57 ∷ 9 ∷ 51 ∷ 10 ∷ [])

pub flagged : says flagged_text ≡ flagged_reply
unfolding says
flagged = refl

-- one tab between two fields: with two the line is at fault as a whole
abbrev parted_text : List ℕ
parted_text =
    (115 ∷ 116 ∷ 97 ∷ 110 ∷ 100 ∷ 97 ∷ 114 ∷ 100 ∷ 9 ∷ 55 ∷ 50 ∷ 48 ∷ 48 ∷ 48 ∷ 48 ∷ 48 ∷ 10 ∷ [])
    ++ ((49 ∷ 9 ∷ 9 ∷ 48 ∷ 9 ∷ 53 ∷ 10 ∷ []))

abbrev parted_reply : List ℕ
parted_reply = (114 ∷ 101 ∷ 102 ∷ 117 ∷ 115 ∷ 101 ∷ 100 ∷ 9 ∷ 50 ∷ 9 ∷ 57 ∷ 9 ∷ 48 ∷ 10 ∷ [])

pub parted : says parted_text ≡ parted_reply
unfolding says
parted = refl

-- and no blank: 1 0 5 parted by blanks has too few fields
abbrev spaced_text : List ℕ
spaced_text =
    (115 ∷ 116 ∷ 97 ∷ 110 ∷ 100 ∷ 97 ∷ 114 ∷ 100 ∷ 9 ∷ 55 ∷ 50 ∷ 48 ∷ 48 ∷ 48 ∷ 48 ∷ 48 ∷ 10 ∷ [])
    ++ ((49 ∷ 32 ∷ 48 ∷ 32 ∷ 53 ∷ 10 ∷ []))

abbrev spaced_reply : List ℕ
spaced_reply = (114 ∷ 101 ∷ 102 ∷ 117 ∷ 115 ∷ 101 ∷ 100 ∷ 9 ∷ 50 ∷ 9 ∷ 57 ∷ 9 ∷ 48 ∷ 10 ∷ [])

pub spaced : says spaced_text ≡ spaced_reply
unfolding says
spaced = refl

-- a line has at most 64 bytes with its LF: the word, the tab and n digits, of which 54 are 64 bytes. The number is too
-- long at column 10; past 64 bytes the line is at fault as a whole
pub ones : ℕ → List ℕ
ones zero = 10 ∷ []
ones (suc n) = 49 ∷ ones n

abbrev long : ℕ → List ℕ
long n = says (standard_start ++ ones n)

pub sixty_four : long 54 ≡ 114 ∷ 101 ∷ 102 ∷ 117 ∷ 115 ∷ 101 ∷ 100 ∷ 9 ∷ 49 ∷ 9 ∷ 57 ∷ 9 ∷ 49 ∷ 48 ∷ 10 ∷ []
unfolding says ones
sixty_four = refl

pub sixty_five : long 55 ≡ 114 ∷ 101 ∷ 102 ∷ 117 ∷ 115 ∷ 101 ∷ 100 ∷ 9 ∷ 49 ∷ 9 ∷ 57 ∷ 9 ∷ 48 ∷ 10 ∷ []
unfolding says ones
sixty_five = refl
