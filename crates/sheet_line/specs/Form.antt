-- Document 01, "The job sheet": the form of a line, the LF with it. Assumes nothing.
use Rattle.std.specs.Prelude.{ℕ, ◌-◌, Bool, true, false, ◌&&◌, List, [], ◌∷◌, ◌++◌, length, get_or, eqb, leb}
use Rattle.decimal.specs.Field.{tab, line_feed}

-- the most bytes of a line, with its LF
abbrev pub longest_sheet_line : ℕ
longest_sheet_line = 64

-- a line is ended by LF and has at most 64 bytes with it; what it says is up to its fields
abbrev pub ends_line : List ℕ → Bool
ends_line line = eqb (get_or line (length line - 1) 0) line_feed

abbrev pub is_sheet_line : List ℕ → Bool
is_sheet_line line = leb (length line) longest_sheet_line && ends_line line

-- the text starts with the word
unfoldable pub begins : List ℕ → List ℕ → Bool
begins [] text = true
begins (w ∷ word) [] = false
begins (w ∷ word) (b ∷ text) = eqb b w && begins word text

-- the word standard; line 1 starts with it and a tab
abbrev pub standard_word : List ℕ
standard_word = 115 ∷ 116 ∷ 97 ∷ 110 ∷ 100 ∷ 97 ∷ 114 ∷ 100 ∷ []

abbrev pub standard_start : List ℕ
standard_start = standard_word ++ (tab ∷ [])
