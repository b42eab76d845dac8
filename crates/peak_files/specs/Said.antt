-- WHAT IS WRITTEN OF THE ENVELOPE PEAKS of comma files (document 02, [1] and [11]; docs/CLERK.md): the bytes and a
-- digit, over the whole texts. D is the step, R the ramp, τ the decorrelation time. Assumes nothing.
use Rattle.std.specs.Prelude.{ℕ, ◌+◌, cond, List, [], ◌∷◌, ◌++◌, eqb, Result, Ok, Err}
use Rattle.refusal.specs.declared.Refusal.TheVariants.{Item}
use Rattle.sample_items.specs.declared.Items.{Items}
use Rattle.sample_items.specs.Limits.{item_outside}
use Rattle.peak_groups.specs.declared.Peak.{Peak}
use Rattle.peak_groups.specs.Peaks.{handed}
use Rattle.peak_lines.specs.Lines.{peaks_text}
use Rattle.decimal.specs.Lines.{lines_of}
use Rattle.comma_line.specs.Text.{samples_of}
use Rattle.desk_line.specs.Said.{Said, read_digit, refused}
use Rattle.comma_peaks.specs.Judged.{comes_to}
use Rattle.refusal.specs.declared.Refusal.{Refusal}

-- the places of a refused line: of a file alone, whose number is 0, the line; of one among several its number first
unfoldable pub places_of : ℕ → ℕ → List ℕ
places_of file line = cond (eqb file 0) (line ∷ []) (file ∷ line ∷ [])

-- the lines of peaks; '0' goes with them
abbrev pub peaks_read : ℕ → List Peak → Said
peaks_read file l = record { line = peaks_text file l; end = read_digit }

abbrev pub nothing : Said
nothing = record { line = []; end = read_digit }

abbrev pub judged_said : ℕ → Said → Result (Unit {0}) (ℕ × Refusal) → Said
judged_said file peaks (Err (line, r)) = refused (places_of file line) r
judged_said file peaks (Ok tt) = peaks

-- ONE FILE: 10, 2, 3, 4 with the line at fault or 0, or the lines of its envelope peaks
unfoldable pub file_said : ℕ → ℕ → ℕ → ℕ → List ℕ → Said
file_said D R τ file text =
    judged_said file (peaks_read file (handed D R τ (samples_of (lines_of text)))) (comes_to D R (lines_of text))

-- one after the other, until one is refused
unfoldable pub then_said : Said → Said → Said
then_said a b = cond (eqb a.end read_digit) (record { line = a.line ++ b.line; end = b.end }) a

-- files from the one with this number on
unfoldable pub files_from : ℕ → ℕ → ℕ → ℕ → List (List ℕ) → Said
files_from D R τ file [] = nothing
files_from D R τ file (text ∷ texts) = then_said (file_said D R τ file text) (files_from D R τ (file + 1) texts)

-- the items; there is no level, and 1 is one in range
abbrev pub searched : ℕ → ℕ → ℕ → Items
searched D R τ = record { step = D; ramp = R; levels = record { roll = 1; acceleration = 1 }; decorrelation = τ }

-- an item goes before all files, and is no file's
unfoldable pub items_said : ℕ → ℕ → ℕ → Said
items_said D R τ =
    cond (eqb (item_outside (searched D R τ)) 0) nothing (refused (0 ∷ []) (Item (item_outside (searched D R τ))))

-- WHAT IS WRITTEN OF A FILE ALONE
unfoldable pub peaks_said : ℕ → ℕ → ℕ → List ℕ → Said
peaks_said D R τ text = then_said (items_said D R τ) (file_said D R τ 0 text)

-- AND OF SEVERAL, each line with its file's number
unfoldable pub files_said : ℕ → ℕ → ℕ → List (List ℕ) → Said
files_said D R τ texts = then_said (items_said D R τ) (files_from D R τ 1 texts)
