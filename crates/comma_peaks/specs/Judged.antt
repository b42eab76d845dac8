-- WHAT A COMMA FILE COMES TO where its envelope peaks are looked for (document 02, [1] and [11]): over all lines of the
-- text 10, 2, 3, 4, in this order, or the peaks that are handed out. And the same after a reading, from its number of
-- lines and its first sample out of range. Items in range are assumed by who asks. Assumes nothing.
use Rattle.std.specs.Prelude.{ℕ, ◌+◌, ◌-◌, ◌%◌, ◌^◌, Bool, cond, not, ◌&&◌, List, length, ◌==◌, nat_lt, Result, Ok, Err}
use Rattle.refusal.specs.declared.Refusal.TheVariants.{Sample, TooLong, TooShort, CommaLine}
use Rattle.sample_items.specs.Limits.{most_in_range}
use Rattle.sample_range.specs.Range.{first_bad}
use Rattle.crossing_places.specs.Reading.{too_few}
use Rattle.comma_line.specs.Text.{first_wrong, samples_of}
use Rattle.comma_stream.specs.declared.Follow.{Follow}
use Rattle.peak_stream.specs.declared.Surveying.{Surveying}
use Rattle.refusal.specs.declared.Refusal.{Refusal}

-- D is the step, R the ramp
unfoldable pub comes_to : ℕ → ℕ → List (List ℕ) → Result (Unit {0}) (ℕ × Refusal)
comes_to D R lines =
    let wrong = first_wrong D 0 lines in
    let bad = first_bad (samples_of lines) in
    cond (nat_lt wrong (length lines)) (Err (wrong + 1, CommaLine (wrong + 1)))
    (cond (nat_lt bad (length lines)) (Err (bad + 1, Sample bad))
    (cond (nat_lt (most_in_range D R) (length lines)) (Err (0, TooLong))
    (cond (too_few R (length lines)) (Err (0, TooShort))
    (Ok tt))))

-- the number of the line after those that a reading has counted, in 64 bits; no text has so many
abbrev pub next_line : Follow → ℕ
next_line f = (f.lines + 1) % 2 ^ 64

-- after the right lines that a reading has counted, of which the next is wrong or there is none
unfoldable pub judging : Follow → ℕ → Bool → Result (Unit {0}) (ℕ × Refusal)
judging f R wrong =
    cond wrong (Err (next_line f, CommaLine (next_line f)))
    (cond (not (f.outside == 0)) (Err (f.outside, Sample (f.outside - 1)))
    (cond (nat_lt (most_in_range f.step R) f.lines) (Err (0, TooLong))
    (cond (too_few R f.lines) (Err (0, TooShort))
    (Ok tt))))

-- two readings
abbrev pub alike : Follow → Surveying → Follow → Surveying → Bool
alike f s g t = (f.lines == g.lines && f.outside == g.outside) && (s.number == t.number && s.sum == t.sum)
