-- What a command says: one line, fields parted by a tab and ended by LF, and a digit; the refused line (documents 01
-- and 02, "refused"), with the item after 1 as 01's refusal numbers carry it; and what writing a line into lent bytes
-- answers and leaves. Assumes nothing.
use Rattle.std.specs.Prelude.{ℕ, ◌≡◌, cond, List, [], ◌∷◌, ◌++◌, eqb, ltb, length}
use Rattle.refusal.specs.declared.Refusal.{Refusal}
use Rattle.refusal.specs.Numbers.{number_of, value_of}
use Rattle.text.specs.Write.{written}
use Rattle.decimal.specs.Field.{tab, line_feed, field_text}
use Rattle.desk_line.specs.declared.Finished.{Finished}

-- the line, and how the program ends
pub record Said : Type 0 where
  pub line : List ℕ
  pub end : ℕ

-- ---- the digits: '0' where all was read, '1' where something was refused, '2' where it could not be read or written
abbrev pub read_digit : ℕ
read_digit = 48

abbrev pub refused_digit : ℕ
refused_digit = 49

abbrev pub failed_digit : ℕ
failed_digit = 50

-- ---- the refused line: the word, the numbers of the places, the refusal's number, and after 1 the item's
abbrev pub refused_word : List ℕ
refused_word = 114 ∷ 101 ∷ 102 ∷ 117 ∷ 115 ∷ 101 ∷ 100 ∷ tab ∷ []

unfoldable pub why_text : ℕ → ℕ → List ℕ
why_text number value = cond (eqb number 1) (field_text number tab ++ field_text value line_feed) (field_text number line_feed)

unfoldable pub places_then : List ℕ → List ℕ → List ℕ
places_then [] rest = rest
places_then (n ∷ places) rest = field_text n tab ++ places_then places rest

unfoldable pub refused_line : List ℕ → Refusal → List ℕ
refused_line places r = refused_word ++ places_then places (why_text (number_of r) (value_of r))

abbrev pub refused : List ℕ → Refusal → Said
refused places r = record { line = refused_line places r; end = refused_digit }

-- ---- a line put into lent bytes
-- the most bytes of a line: six numbers of 20 digits, each with the byte after it, and some to spare
abbrev pub longest_said : ℕ
longest_said = 128

pub record Puts (s : Said) (out : List ℕ) (f : Finished) (later : List ℕ) : Type 0 where
  pub bytes : f.put ≡ length s.line
  pub how : f.end ≡ s.end
  pub left : later ≡ written out 0 s.line

-- room for any line is asked for; without it nothing is written, and the end is '2'
unfoldable pub putting : Said → List ℕ → Finished
putting s out = cond (ltb (length out) longest_said) (record { put = 0; end = failed_digit }) (record { put = length s.line; end = s.end })

unfoldable pub put_left : Said → List ℕ → List ℕ
put_left s out = cond (ltb (length out) longest_said) out (written out 0 s.line)
