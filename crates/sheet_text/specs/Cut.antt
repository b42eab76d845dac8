-- What the readers' own functions answer, on the way to a sheet's meaning: the bytes of a text that a reader hands over
-- as its first line, and what they come to. Assumes nothing.
use Rattle.std.specs.Prelude.{ℕ, zero, suc, ◌+◌, ◌^◌, ◌≤◌, ◌<◌, ◌≡◌, Bool, cond, List, [], ◌∷◌, length, take, drop, eqb, Result, Ok, Err}
use Rattle.refusal.specs.Numbers.{value_of}
use Rattle.text.specs.Write.{written}
use Rattle.decimal.specs.Field.{line_feed}
use Rattle.sheet_text.specs.declared.LineFound.{LineFound}
use Rattle.sheet_text.specs.declared.LineFound.TheVariants.{Taken, Waits, Bad}
use Rattle.sheet_line.specs.declared.Sheet.{Sheet}
use Rattle.sheet_line.specs.Form.{longest_sheet_line}
use Rattle.sheet_line.specs.Line.{stepping}
use Rattle.sheet_text.specs.declared.Reading.{Reading}
use Rattle.decimal.specs.Lines.{lines_of}
use Rattle.sheet_text.specs.Sheet.{left_in, reading_sheet, waits}
use Rattle.refusal.specs.declared.Refusal.{Refusal}

-- the bytes up to the first LF and with it, at most n of them
unfoldable pub cut : ℕ → List ℕ → ℕ
cut zero text = 0
cut (suc n) [] = 0
cut (suc n) (b ∷ text) = cond (eqb b line_feed) 1 (suc (cut n text))

-- the first line of a text, or as much of it as a line may have
unfoldable pub first_line : List ℕ → List ℕ
first_line text = take (cut longest_sheet_line text) text

abbrev pub found_at : ℕ → Result Sheet (ℕ × ℕ × Refusal) → LineFound
found_at next (Ok s) = Taken s next
found_at next (Err (line, column, r)) = Bad line column r

-- what stands at a place of a text: a line that waits, with its bytes, or that is taken, with the place after it, or
-- that is bad
unfoldable pub found : Bool → List ℕ → ℕ → Sheet → LineFound
found more text at s =
    cond (waits more (first_line (drop at text))) (Waits (length (first_line (drop at text))))
    (found_at (at + length (first_line (drop at text))) (stepping s (first_line (drop at text))))

-- the place after a text that a writer was to write at a place, also where it had no room
abbrev pub place_counted : ℕ → Result ℕ Refusal → ℕ
place_counted at (Ok next) = next
place_counted at (Err r) = at + value_of r

-- what a pass over a text comes to, the bytes that it counts, and what it leaves in lent bytes that have room for them
pub record Passed (more : Bool) (text : List ℕ) (s : Sheet) (lent : List ℕ) (end : Reading) (put : ℕ) (later : List ℕ) : Type 0 where
  pub ends : end ≡ (reading_sheet more (lines_of text) s).end
  pub counts : put ≡ length (reading_sheet more (lines_of text) s).text
  pub writes : put ≤ length lent → later ≡ written lent 0 (reading_sheet more (lines_of text) s).text
  pub left : (left_in end ≤ length text) × (left_in end < longest_sheet_line)
  pub small : put < 2 ^ 63
