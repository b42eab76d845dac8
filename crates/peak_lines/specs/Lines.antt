-- Document 02 [11], the peaks that are handed out as a clerk reads them: one line each, the magnitude in degrees with
-- three decimals, a tab, the time in ms, LF. Assumes nothing.
use Rattle.std.specs.Prelude.{ℕ, ◌+◌, ◌*◌, Bool, cond, ◌&&◌, List, [], ◌∷◌, ◌++◌, eqb, leb, ℤ, pos, length}
use Rattle.text.specs.Write.{written, place_after}
use Rattle.decimal.specs.Field.{tab, line_feed, field_text}
use Rattle.degrees.specs.Degrees.{degrees_text, largest_size}
use Rattle.peak_groups.specs.declared.Peak.{Peak}

-- of several files the number stands first; 0 is a file alone
unfoldable pub file_text : ℕ → List ℕ
file_text file = cond (eqb file 0) [] (field_text file tab)

-- a magnitude in thousandths of a degree; no sample in range has a larger one
abbrev pub shown : ℕ → ℤ
shown size = cond (leb size largest_size) (pos size) (pos 0)

-- a time in ms; none in a record is later
abbrev pub shown_time : ℕ → ℕ
shown_time time = cond (leb time 10000000) time 0

unfoldable pub peak_line : ℕ → ℕ → ℕ → List ℕ
peak_line file size time = file_text file ++ (degrees_text (shown size) ++ (tab ∷ field_text (shown_time time) line_feed))

-- line after line, of magnitudes and times
unfoldable pub peak_lines : ℕ → List ℕ → List ℕ → List ℕ
peak_lines file [] times = []
peak_lines file (size ∷ sizes) [] = []
peak_lines file (size ∷ sizes) (time ∷ times) = peak_line file size time ++ peak_lines file sizes times

-- THE LINES OF PEAKS
unfoldable pub peaks_text : ℕ → List Peak → List ℕ
peaks_text file [] = []
peaks_text file (p ∷ l) = peak_line file p.size p.time ++ peaks_text file l

-- ---- written into lent bytes
-- more bytes than a line has: a file's number of 20 digits, eight bytes of degrees, a time of eight digits, and what
-- ends them
abbrev pub longest_peak_line : ℕ
longest_peak_line = 48

-- so many lines have room from a place on
abbrev pub room_for : ℕ → ℕ → ℕ → Bool
room_for lines len at = leb (at + lines * longest_peak_line) len

abbrev pub roomy : List ℕ → List ℕ → List ℕ → ℕ → Bool
roomy sizes times out at = eqb (length sizes) (length times) && room_for (length sizes) (length out) at

-- the place after them, and the bytes then; nothing is written where there is no room
unfoldable pub lines_place : ℕ → List ℕ → List ℕ → List ℕ → ℕ → ℕ
lines_place file sizes times out at = cond (roomy sizes times out at) (place_after out at (peak_lines file sizes times)) at

unfoldable pub lines_left : ℕ → List ℕ → List ℕ → List ℕ → ℕ → List ℕ
lines_left file sizes times out at = cond (roomy sizes times out at) (written out at (peak_lines file sizes times)) out
