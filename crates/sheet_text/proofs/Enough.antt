-- Five bytes for each byte of a text, and 35, are room for anything that it may give: a record's line has at least 6
-- bytes and what is written for it at most 30, the refused line at most 35. Assumes nothing.
use Prim.Native.Nat.{ℕ, ◌+◌, ◌*◌, ◌≤◌}
use mathlib.Core.Path.{◌≡◌, refl}
use mathlib.Core.Bool.{Bool, true}
use mathlib.Core.List.{List, [], ◌∷◌}
use native.Mathlib.Omega.{arith}
use lib.Dec.{eqb}
use lib.ListN.{length, length-append}
use Rattle.truth.proofs.Cases.{by_test}
use Rattle.decimal.specs.Field.{line_feed}
use Rattle.sheet_line.specs.declared.Sheet.{Sheet}
use Rattle.sheet_line.specs.Line.{sound_sheet, stepping}
use Rattle.sheet_reply.proofs.Few.{refused_few}
use Rattle.decimal.specs.Lines.{lines_of, start_line}
use Rattle.sheet_text.specs.Sheet.{after_step, reading_sheet, waits}
use Rattle.sheet_text.proofs.Running.{last_few}
use Rattle.sheet_text.proofs.Steps.{step_led, step_line}
use Rattle.refusal.specs.declared.Refusal.{Refusal}
use Rattle.std.specs.Prelude.{Result, Ok, Err}

total : List (List ℕ) → ℕ
total [] = 0
total (line ∷ lines) = length line + total lines

total_start : (b : ℕ) (lines : List (List ℕ)) → total (start_line b lines) ≡ 1 + total lines
unfolding total
total_start b [] = refl
total_start b (line ∷ lines) = omega arith

total_lines : (text : List ℕ) → total (lines_of text) ≡ length text
unfolding total lines_of
total_lines [] = refl
total_lines (b ∷ text) =
    by_test (eqb b line_feed)
    (λ e. rw e (omega (arith, total_lines text)))
    (λ e. rw e (omega (arith, total_start b (lines_of text), total_lines text)))

lines_few : (more : Bool) (lines : List (List ℕ)) (s : Sheet) → sound_sheet s ≡ true → length (reading_sheet more lines s).text ≤ 5 * total lines + 35
unfolding reading_sheet total
lines_few more [] s g = omega (arith, last_few more s)
lines_few more (line ∷ lines) s g = by_test (waits more line) (λ w. rw w (omega arith)) (λ w. rw w (by_step (lines_few more lines) (stepping s line) refl))
  where
    by_step : ((t : Sheet) → sound_sheet t ≡ true → length (reading_sheet more lines t).text ≤ 5 * total lines + 35)
        → (step : Result Sheet (ℕ × ℕ × Refusal)) → stepping s line ≡ step → length (after_step step (reading_sheet more lines)).text ≤ 5 * (length line + total lines) + 35
    by_step rest (Ok t) e =
        let led = step_led s line g e in
        rw length-append (omega (arith, led.few, rest t led.sound))
    by_step rest (Err (l, k, r)) e =
        let (small, few) = step_line s line g e in
        omega (arith, refused_few l k r small few)

pub enough : (more : Bool) (text : List ℕ) (s : Sheet) → sound_sheet s ≡ true → length (reading_sheet more (lines_of text) s).text ≤ 5 * length text + 35
enough more text s g = omega (arith, lines_few more (lines_of text) s g, total_lines text)
