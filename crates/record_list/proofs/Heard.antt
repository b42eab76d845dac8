-- What a pass tells: how many failures are counted and, if there was room for them, their times. Assumes nothing.
use Prim.Native.Nat.{ℕ, ◌≤◌}
use mathlib.Core.Path.{◌≡◌, sym, ap, ◌∙◌}
use mathlib.Core.Bool.{false}
use mathlib.Core.List.{List}
use native.Mathlib.Omega.{arith}
use lib.IntN.{ℤ}
use lib.ListN.{length, take, drop}
use lib.Seq.{take_at}
use Rattle.truth.proofs.Laws.{true≢false}
use Rattle.sample_channels.specs.declared.Levels.{Levels}
use Rattle.sample_channels.specs.Channels.{moments, any_bad}
use Rattle.crossing_places.specs.Reading.{counted_times, unramped}
use Rattle.record_list.proofs.Walked.{walked_count, walked_times}
use Rattle.record_list.specs.Answers.{WritesTo}
use Rattle.record_list.specs.Pass.{Passes, Heard}
use Rattle.record_list.proofs.Answered.{writes_times}
use Rattle.std.specs.Prelude.{Option, Some, None, Ok}

module _ (D : ℕ) (a : Levels) (τ : ℕ) (xs ys : List ℤ) where
  abbrev times : List ℕ
  times = counted_times (unramped D a τ) (moments xs ys)

  -- with room for them, a pass over good samples writes the times
  pub writes_passed : (before after : List ℕ) (r : Option ℕ) → any_bad xs ys ≡ false → length times ≤ length before
      → Passes D a τ xs ys before r after → WritesTo times before (Ok (length times)) after
  writes_passed before after (Some n) g l p = rw (p.2 ∙ walked_times D a τ (moments xs ys) before l) (writes_times times before l)
  writes_passed before after None g l p = absurd (true≢false (sym p ∙ g))

  module _ {n : ℕ} {kept : List ℕ} (h : Heard D a τ xs ys (Some n) kept) where
    pub heard_count : n ≡ length times
    heard_count = h.passes.1 ∙ walked_count D a τ (moments xs ys) h.before

    pub heard_times : n ≤ length kept → take n kept ≡ times
    heard_times l =
        ap (take n) (h.passes.2 ∙ walked_times D a τ (moments xs ys) h.before (omega (arith, heard_count, h.same))) ∙ take_at times (drop (length times) h.before) n (sym heard_count)
