-- A file that comes in pieces, read twice: what a call does not use goes before the next piece, and after the last one
-- the file ends; calls follow each other until the reading is over. Assumes nothing.
use Rattle.std.specs.Prelude.{ℕ, zero, suc, ◌+◌, ◌≡◌, Bool, true, false, List, [], ◌∷◌, ◌++◌, drop}
use Rattle.text.specs.Pieces.{joined}
use Rattle.desk_line.specs.Said.{Said}
use Rattle.peak_files.specs.declared.Pass.{Pass}
use Rattle.peak_files.specs.Said.{then_said, nothing}
use Rattle.peak_files.specs.Passing.{opening, again, calling, judged, finishing, room_asked}

-- where a reading stands, the bytes it has not used, and those it has written
pub record Run : Type 0 where
  pub pass : Pass
  pub kept : List ℕ
  pub bytes : List ℕ

abbrev pub starting : Pass → Run
starting p = record { pass = p; kept = []; bytes = [] }

abbrev pub on_call : Bool → Run → List ℕ → Run
on_call more r piece =
    let c = calling r.pass (r.kept ++ piece) more room_asked in
    record { pass = c.pass; kept = drop c.used (r.kept ++ piece); bytes = r.bytes ++ c.bytes }

-- so many calls after the last piece
unfoldable pub at_last : ℕ → Run → Run
at_last zero r = r
at_last (suc k) r = at_last k (on_call false r [])

-- a piece may be empty: a call for the lines that are there already
unfoldable pub running : List (List ℕ) → ℕ → Run → Run
running [] k r = at_last k r
running (piece ∷ pieces) k r = running pieces k (on_call true r piece)

-- a reading of a file: its pieces, and the calls after the last
pub record Way : Type 0 where
  pub pieces : List (List ℕ)
  pub calls : ℕ

abbrev pub first_of : ℕ → ℕ → ℕ → Way → Run
first_of D R file w = running w.pieces w.calls (starting (opening D R file))

abbrev pub second_of : ℕ → Run → Way → Run
second_of τ one w = running w.pieces w.calls (starting (again one.pass τ))

-- what is written of a file: nothing before the first reading is over; then the refused line, or what the second
-- writes on its way and at its end
abbrev pub finished_by : Run → Run → Said
finished_by one two =
    let last = finishing one.pass two.pass in
    record { line = two.bytes ++ last.line; end = last.end }

abbrev pub wrote : Run → Run → Said
wrote one two = then_said (judged one.pass) (finished_by one two)

-- ---- a text, and the two readings of it
pub record Twice : Type 0 where
  pub text : List ℕ
  pub first : Way
  pub second : Way

abbrev pub one_of : ℕ → ℕ → ℕ → Twice → Run
one_of D R file t = first_of D R file t.first

abbrev pub two_of : ℕ → ℕ → ℕ → ℕ → Twice → Run
two_of D R τ file t = second_of τ (one_of D R file t) t.second

abbrev pub both_wrote : ℕ → ℕ → ℕ → ℕ → Twice → Said
both_wrote D R τ file t = wrote (one_of D R file t) (two_of D R τ file t)

-- both are of the text, and each goes on until it is over; there is no second of a file that is refused
pub record ReadTwice (D R τ file : ℕ) (t : Twice) : Type 0 where
  pub first-is : joined t.first.pieces ≡ t.text
  pub second_is : joined t.second.pieces ≡ t.text
  pub first_over : (one_of D R file t).pass.over ≡ true
  pub second_over : judged (one_of D R file t).pass ≡ nothing → (two_of D R τ file t).pass.over ≡ true

-- files one after the other from this number on
unfoldable pub files_wrote : ℕ → ℕ → ℕ → ℕ → List Twice → Said
files_wrote D R τ file [] = nothing
files_wrote D R τ file (t ∷ ts) = then_said (both_wrote D R τ file t) (files_wrote D R τ (file + 1) ts)

abbrev pub AllTwice : ℕ → ℕ → ℕ → ℕ → List Twice → Type 0
AllTwice D R τ file [] = Unit {0}
AllTwice D R τ file (t ∷ ts) = ReadTwice D R τ file t × AllTwice D R τ (file + 1) ts
