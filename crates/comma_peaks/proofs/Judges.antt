-- What is judged, one law for each answer; and that a reading over all lines of a text is judged as the text is
-- (`right_judged`, `wrong_judged`). Assumes nothing.
use Rattle.std.proofs.Common.{◌≡◌, ℕ, ◌+◌, ◌-◌, ◌%◌, ◌^◌, ◌<◌, ◌≤◌, Bool, true, false, cond, not, eqb, ltb, List, length, sym, refl, ap, ◌∙◌, mod-eq_of_lt, zero-add, arith, le-ltb, lt-ltb, eq-eqb, ne_eqb}
use Rattle.truth.proofs.Cases.{by_order}
use Rattle.refusal.specs.declared.Refusal.TheVariants.{Sample, TooLong, TooShort, CommaLine}
use Rattle.sample_items.specs.Limits.{most_in_range}
use Rattle.sample_range.specs.Range.{first_bad}
use Rattle.comma_line.specs.Text.{first_wrong, samples_of}
use Rattle.comma_stream.specs.declared.Follow.{Follow}
use Rattle.comma_stream.specs.Follow.{after_lines}
use Rattle.comma_peaks.specs.Judged.{comes_to, judging, next_line}
use Rattle.refusal.specs.declared.Refusal.{Refusal}
use Rattle.std.specs.Prelude.{Result, Ok, Err}

module _ (f : Follow) (R : ℕ) (wrong : Bool) where
  pub judged_wrong : wrong ≡ true → Err (next_line f, CommaLine (next_line f)) ≡ judging f R wrong
  unfolding judging
  judged_wrong w = rw w

  module _ (w : wrong ≡ false) where
    pub judged_outside : (f.outside ≡ 0 → ⊥) → Err (f.outside, Sample (f.outside - 1)) ≡ judging f R wrong
    unfolding judging
    judged_outside o = rw (w, ne_eqb f.outside 0 o)

    module _ (o : f.outside ≡ 0) where
      pub judged_long : most_in_range f.step R < f.lines → Err (0, TooLong) ≡ judging f R wrong
      unfolding judging
      judged_long h = rw (w, eq-eqb f.outside 0 o, lt-ltb (most_in_range f.step R) f.lines h)

      module _ (h : f.lines ≤ most_in_range f.step R) where
        pub judged_short : f.lines < R + 2 → Err (0, TooShort) ≡ judging f R wrong
        unfolding judging
        judged_short k = rw (w, eq-eqb f.outside 0 o, le-ltb (most_in_range f.step R) f.lines h, lt-ltb f.lines (R + 2) k)

        pub judged_peaks : R + 2 ≤ f.lines → (Ok (tt {0})) ≡ judging f R wrong
        unfolding judging
        judged_peaks k = rw (w, eq-eqb f.outside 0 o, le-ltb (most_in_range f.step R) f.lines h, le-ltb f.lines (R + 2) k)

-- ---- the lines of a text
module _ (D R : ℕ) (lines : List (List ℕ)) where
  -- before the first
  abbrev pub fresh : Follow
  fresh = record { step = D; lines = 0; outside = 0 }

  bad_is : (b : ℕ) → ◌≡◌ {A = (Result (Unit {0}) (ℕ × Refusal))} (Err (0 + b + 1, Sample (0 + b + 1 - 1))) (Err (b + 1, Sample b))
  bad_is b = let e : 0 + b + 1 - 1 ≡ b = omega arith in rw (e, zero-add b)

  -- all are right
  pub right_judged : length lines ≤ first_wrong D 0 lines → judging (after_lines fresh lines) R false ≡ comes_to D R lines
  unfolding judging comes_to after_lines
  right_judged r =
      let n = length lines in
      let b = first_bad (samples_of lines) in
      by_order b n
      (λ h. rw (le-ltb (first_wrong D 0 lines) n r, lt-ltb b n h, ne_eqb (0 + b + 1) 0 (λ z. omega arith)) (bad_is b))
      (λ h. rw (le-ltb (first_wrong D 0 lines) n r, le-ltb b n h, zero-add n))

  -- the line after the right ones is wrong
  pub wrong_judged : (us : List (List ℕ)) → first_wrong D 0 lines ≡ length us → length us < length lines → length us < 18446744073709551615
      → judging (after_lines fresh us) R true ≡ comes_to D R lines
  unfolding judging comes_to after_lines
  wrong_judged us e h small =
      let m : (0 + length us + 1) % 2 ^ 64 ≡ length us + 1 = mod-eq_of_lt {n = 0 + length us + 1} {m = 2 ^ 64} (omega arith) ∙ (omega arith) in
      rw (e, lt-ltb (length us) (length lines) h, m)
