-- A reading leaves no more unread than there is, and less than a line: what it leaves is a single line that waits for
-- its LF. Assumes nothing.
use Prim.Native.Nat.{ℕ, suc, ◌+◌, ◌≤◌, ◌<◌}
use mathlib.Core.Path.{◌≡◌, refl, ap, ◌∙◌}
use mathlib.Core.Bool.{Bool, true, not, ◌&&◌}
use mathlib.Core.List.{List, [], ◌∷◌}
use native.Mathlib.Omega.{arith}
use lib.Dec.{eqb, ltb}
use lib.ListN.{length}
use borrow.Author.Tests.{ltb-true}
use Rattle.truth.proofs.Cases.{by_test}
use Rattle.truth.proofs.Laws.{and-true}
use Rattle.decimal.specs.Field.{line_feed}
use Rattle.decimal.specs.Lines.{lines_of, start_line}
use Rattle.sheet_line.specs.Form.{ends_line, longest_sheet_line}
use Rattle.sheet_line.specs.declared.Sheet.{Sheet}
use Rattle.sheet_line.specs.Line.{sound_sheet, stepping}
use Rattle.sheet_text.specs.declared.Reading.{Reading}
use Rattle.sheet_text.specs.Sheet.{Account, after_step, left_in, reading_sheet, reading_end, waits}
use Rattle.sheet_text.proofs.Running.{last_left}
use Rattle.refusal.specs.declared.Refusal.{Refusal}
use Rattle.std.specs.Prelude.{Result, Ok, Err}

-- the bytes of lines, and that a text has those of its lines
bytes : List (List ℕ) → ℕ
bytes [] = 0
bytes (line ∷ lines) = length line + bytes lines

start_bytes : (b : ℕ) (lines : List (List ℕ)) → bytes (start_line b lines) ≡ suc (bytes lines)
unfolding bytes
start_bytes b [] = refl
start_bytes b (line ∷ lines) = omega arith

lines_bytes : (text : List ℕ) → bytes (lines_of text) ≡ length text
unfolding lines_of bytes
lines_bytes [] = refl
lines_bytes (b ∷ text) =
    by_test (eqb b line_feed)
    (λ t. rw t (omega (arith, lines_bytes text)))
    (λ t. rw t (start_bytes b (lines_of text) ∙ ap suc (lines_bytes text)))

-- of n bytes, less than a line
abbrev Few : Reading → ℕ → Type 0
Few r n = (left_in r ≤ n) × (left_in r < longest_sheet_line)

waits_short : (more : Bool) (line : List ℕ) → waits more line ≡ true → length line < longest_sheet_line
waits_short more line w =
    let rest = (and-true more (not (ends_line line) && ltb (length line) longest_sheet_line) w).1 in
    ltb-true (length line) longest_sheet_line (and-true (not (ends_line line)) (ltb (length line) longest_sheet_line) rest).1

step_few : (n k : ℕ) (step : Result Sheet (ℕ × ℕ × Refusal)) (go : Sheet → Account) → ((t : Sheet) → Few (go t).end n) → Few (after_step step go).end (k + n)
step_few n k (Ok t) go few = (omega (arith, (few t).0), (few t).1)
step_few n k (Err (l, c, r)) go few = (omega arith, omega arith)

lines_few : (more : Bool) (lines : List (List ℕ)) (s : Sheet) → Few (reading_sheet more lines s).end (bytes lines)
unfolding reading_sheet bytes
lines_few more [] s = rw (last_left more s) (omega arith, omega arith)
lines_few more (line ∷ lines) s =
    by_test (waits more line)
    (λ w. rw w (omega arith, waits_short more line w))
    (λ w. rw w (step_few (bytes lines) (length line) (stepping s line) (reading_sheet more lines) (lines_few more lines)))

pub unread : (more : Bool) (text : List ℕ) (s : Sheet) → (left_in (reading_end more text s) ≤ length text) × (left_in (reading_end more text s) < longest_sheet_line)
unfolding reading_end
unread more text s =
    by_test (sound_sheet s)
    (λ g. rw (g, ← lines_bytes text) (lines_few more (lines_of text) s))
    (λ g. rw g (omega arith, omega arith))
