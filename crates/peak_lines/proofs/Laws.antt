-- Laws of the lines of peaks: how long a line is, one peak more, and that the lines of magnitudes and times are those
-- of their peaks. Assumes nothing.
use Prim.Native.Nat.{ℕ, ◌*◌, ◌/◌, ◌≤◌, ◌<◌}
use mathlib.Core.Path.{◌≡◌, refl, sym, ap, ◌∙◌}
use mathlib.Core.Bool.{true, false}
use mathlib.Core.List.{List, [], ◌∷◌, ◌++◌, map, append_assoc}
use native.Mathlib.Nat.{div-lt_iff_lt-mul}
use native.Mathlib.Omega.{arith}
use lib.Dec.{eqb, leb}
use lib.IntN.{pos}
use lib.ListN.{length, length-append}
use borrow.Author.Tests.{leb-true, eq-eqb, ne_eqb}
use Rattle.text.proofs.Laws.{Wrote}
use Rattle.truth.proofs.Cases.{by_test}
use Rattle.decimal.specs.Decimal.{digits_of}
use Rattle.decimal.specs.Field.{tab, line_feed, field_text}
use Rattle.decimal.proofs.Text.{field_few, digits_below}
use Rattle.degrees.specs.Degrees.{degrees_text, largest_size, three_digits, point}
use Rattle.peak_groups.specs.declared.Peak.{Peak}
use Rattle.peak_machine.specs.Step.{size_of, moment_of}
use Rattle.peak_lines.specs.Lines.{file_text, shown, shown_time, peak_line, peak_lines, peaks_text, longest_peak_line}
use Rattle.peak_lines.specs.Lines.{room_for, roomy, lines_place, lines_left}

file_few : (file : ℕ) → file < 18446744073709551616 → length (file_text file) ≤ 21
unfolding file_text
file_few file h = by_test (eqb file 0) (λ e. rw e (omega arith)) (λ e. rw e (field_few file tab 19 (omega arith)))

pos_few : (m : ℕ) → m ≤ 1000000 → length (degrees_text (pos m)) ≤ 8
unfolding degrees_text
pos_few m h =
    let d = digits_below 3 (m / 1000) ((div-lt_iff_lt-mul {k = 1000} {x = m} {y = 10000} (omega arith)).1 (omega arith)) in
    rw (length-append (digits_of (m / 1000)) (point ∷ three_digits m)) (omega arith)

degrees_few : (size : ℕ) → length (degrees_text (shown size)) ≤ 8
degrees_few size =
    by_test (leb size largest_size)
    (λ e. rw e (pos_few size (leb-true size largest_size e)))
    (λ e. rw e (pos_few 0 (omega arith)))

time_few : (time : ℕ) → length (field_text (shown_time time) line_feed) ≤ 9
time_few time =
    by_test (leb time 10000000)
    (λ e. rw e (field_few time line_feed 7 (omega (arith, leb-true time 10000000 e))))
    (λ e. rw e (field_few 0 line_feed 7 (omega arith)))

pub line_few : (file size time : ℕ) → file < 18446744073709551616 → length (peak_line file size time) ≤ longest_peak_line
unfolding peak_line
line_few file size time h =
    rw (length-append (file_text file) (degrees_text (shown size) ++ (tab ∷ field_text (shown_time time) line_feed)), length-append (degrees_text (shown size)) (tab ∷ field_text (shown_time time) line_feed))
    (omega (arith, file_few file h, degrees_few size, time_few time))

pub lines_next : (file size time : ℕ) (sizes times : List ℕ) → peak_lines file (size ∷ sizes) (time ∷ times) ≡ peak_line file size time ++ peak_lines file sizes times
unfolding peak_lines
lines_next file size time sizes times = refl

pub lines_none : (file : ℕ) (times : List ℕ) → peak_lines file [] times ≡ []
unfolding peak_lines
lines_none file times = refl

pub lines_few : (file : ℕ) (sizes times : List ℕ) → file < 18446744073709551616 → length (peak_lines file sizes times) ≤ length sizes * longest_peak_line
unfolding peak_lines
lines_few file [] times h = omega arith
lines_few file (size ∷ sizes) [] h = omega arith
lines_few file (size ∷ sizes) (time ∷ times) h =
    rw (length-append (peak_line file size time) (peak_lines file sizes times))
    (omega (arith, line_few file size time h, lines_few file sizes times h))

pub lines_of : (file : ℕ) (l : List Peak) → peak_lines file (map size_of l) (map moment_of l) ≡ peaks_text file l
unfolding peak_lines peaks_text
lines_of file [] = refl
lines_of file (p ∷ l) = ap (λ (t : List ℕ). peak_line file p.size p.time ++ t) (lines_of file l)

pub text_append : (file : ℕ) (l m : List Peak) → peaks_text file (l ++ m) ≡ peaks_text file l ++ peaks_text file m
unfolding peaks_text
text_append file [] m = refl
text_append file (p ∷ l) m = ap (λ (t : List ℕ). peak_line file p.size p.time ++ t) (text_append file l m) ∙ sym
    (append_assoc (peak_line file p.size p.time) (peaks_text file l) (peaks_text file m))

-- ---- what writing answers and leaves
module _ (file : ℕ) (sizes times out : List ℕ) (at : ℕ) where
  abbrev Writes : List ℕ → ℕ → Type 0
  Writes later next = (next ≡ lines_place file sizes times out at) × (later ≡ lines_left file sizes times out at)

  pub writes_none : roomy sizes times out at ≡ false → Writes out at
  unfolding lines_place lines_left
  writes_none e = rw e (refl, refl)

  pub writes_all : {later : List ℕ} {next : ℕ} → roomy sizes times out at ≡ true → Wrote out at (peak_lines file sizes times) later next → Writes later next
  unfolding lines_place lines_left
  writes_all e w = rw e w

  pub uneven : (length sizes ≡ length times → ⊥) → roomy sizes times out at ≡ false
  uneven h = rw (ne_eqb (length sizes) (length times) h)

  pub no_room : length sizes ≡ length times → room_for (length sizes) (length out) at ≡ false → roomy sizes times out at ≡ false
  no_room e h = rw (eq-eqb (length sizes) (length times) e, h)

  pub all_room : length sizes ≡ length times → room_for (length sizes) (length out) at ≡ true → roomy sizes times out at ≡ true
  all_room e h = rw (eq-eqb (length sizes) (length times) e, h)
