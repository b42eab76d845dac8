-- Document 02 [1]: what writing samples answers, in its order of refusals, each judged over all samples.
-- Assumes nothing.
use Rattle.std.specs.Prelude.{ℕ, ◌-◌, ◌*◌, ◌^◌, cond, not, List, length, leb, ltb, ℤ, Result, Err}
use Rattle.refusal.specs.declared.Refusal.TheVariants.{Item, Sample, TooLong}
use Rattle.sample_items.specs.Limits.{step_in_range}
use Rattle.sample_range.specs.Range.{first_bad}
use Rattle.text.specs.Write.{within_room}
use Rattle.decimal.specs.Decimal.{longest}
use Rattle.comma_line.specs.Text.{text_of}
use Rattle.refusal.specs.declared.Refusal.{Refusal}

-- the time of the last sample
abbrev pub last_time : ℕ → List ℤ → ℕ
last_time D xs = (length xs - 1) * D

-- writing samples: 1, 2, 3 where the last time needs more than 12 digits, 7 with the bytes needed
unfoldable pub writing_comma : ℕ → List ℤ → List ℕ → Result ℕ Refusal
writing_comma D xs out =
    cond (not (step_in_range D)) (Err (Item 1))
    (cond (ltb (first_bad xs) (length xs)) (Err (Sample (first_bad xs)))
    (cond (leb (10 ^ longest) (last_time D xs)) (Err TooLong)
    (within_room (length (text_of D xs)) (length out))))
