-- Laws of the text of samples: a line by its parts, one sample more, and what writing answers. Assumes nothing.
use mathlib.Core.Path.{◌≡◌, refl, ap, ◌∙◌}
use mathlib.Core.Bool.{true, false}
use mathlib.Core.List.{List, [], ◌∷◌, ◌++◌}
use Prim.Native.Nat.{ℕ, ◌+◌, ◌-◌, ◌*◌, ◌^◌, ◌≤◌, ◌<◌}
use native.Mathlib.Nat.{mul-le-mul_left}
use native.Mathlib.Omega.{arith}
use lib.Dec.{leb}
use lib.IntN.{ℤ}
use lib.ListN.{length, length-append}
use borrow.Author.Tests.{le-ltb, lt-ltb}
use Rattle.refusal.specs.declared.Refusal.TheVariants.{Item, Sample, TooLong, Room}
use Rattle.sample_items.specs.Limits.{step_in_range}
use Rattle.sample_range.specs.Range.{first_bad}
use Rattle.decimal.specs.Decimal.{longest, digits_of}
use Rattle.decimal.specs.Field.{line_feed}
use Rattle.degrees.specs.Degrees.{degrees_text}
use Rattle.comma_line.specs.Line.{comma, sample_text}
use Rattle.comma_line.specs.Text.{text_from, text_of}
use Rattle.comma_write.specs.Answers.{last_time, writing_comma}
use Rattle.std.specs.Prelude.{Ok, Err}

pub line_bytes : (time : ℕ) (x : ℤ) → length (sample_text time x) ≡ length (digits_of time) + (length (degrees_text x) + 2)
unfolding sample_text
line_bytes time x =
    let deg = length-append (degrees_text x) (line_feed ∷ []) in
    rw (length-append (digits_of time) (comma ∷ (degrees_text x ++ (line_feed ∷ [])))) (omega arith)

pub text_next : (D time : ℕ) (x : ℤ) (xs : List ℤ) → text_from D time (x ∷ xs) ≡ sample_text time x ++ text_from D (time + D) xs
unfolding text_from
text_next D time x xs = refl

pub text_none : (D time : ℕ) → text_from D time [] ≡ []
unfolding text_from
text_none D time = refl

pub next_bytes : (D time : ℕ) (x : ℤ) (xs : List ℤ) → length (text_from D time (x ∷ xs)) ≡ length (sample_text time x) + length (text_from D (time + D) xs)
next_bytes D time x xs = ap length (text_next D time x xs) ∙ length-append (sample_text time x) (text_from D (time + D) xs)

-- ---- what writing answers
module _ (D : ℕ) (xs : List ℤ) (out : List ℕ) where
  pub bad_step : step_in_range D ≡ false → Err (Item 1) ≡ writing_comma D xs out
  unfolding writing_comma
  bad_step e = rw e

  module _ (step : step_in_range D ≡ true) where
    pub bad_sample : first_bad xs < length xs → Err (Sample (first_bad xs)) ≡ writing_comma D xs out
    unfolding writing_comma
    bad_sample h = rw (step, lt-ltb _ _ h)

    module _ (good : length xs ≤ first_bad xs) where
      pub too_late : leb (10 ^ longest) (last_time D xs) ≡ true → Err TooLong ≡ writing_comma D xs out
      unfolding writing_comma
      too_late e = rw (step, le-ltb _ _ good, e)

      module _ (time : leb (10 ^ longest) (last_time D xs) ≡ false) where
        pub no_room : length out < length (text_of D xs) → Err (Room (length (text_of D xs))) ≡ writing_comma D xs out
        unfolding writing_comma
        no_room h = rw (step, le-ltb _ _ good, time, lt-ltb _ _ h)

        pub all_written : length (text_of D xs) ≤ length out → Ok (length (text_of D xs)) ≡ writing_comma D xs out
        unfolding writing_comma
        all_written h = rw (step, le-ltb _ _ good, time, le-ltb _ _ h)

-- times of 12 digits are not too many
pub few : (n D : ℕ) → 1 ≤ D → (n - 1) * D < 10 ^ longest → n ≤ 1000000000000
few n D some h = omega (arith, mul-le-mul_left {m = 1} {n = D} (n - 1) some)
