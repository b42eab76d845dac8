-- A block that begins before the first sample at which a crossing can stand: its leading samples only move n and the
-- last sample, and the rest goes on from there. Assumes nothing.
use Prim.Native.Nat.{ℕ, ◌+◌, ◌-◌, ◌≤◌}
use mathlib.Core.Path.{◌≡◌, sym, ap, ◌∙◌}
use mathlib.Core.Bool.{true}
use mathlib.Core.List.{List, ◌++◌, foldl, foldl-append}
use native.Mathlib.Omega.{arith}
use lib.ListN.{length, take, drop, take-append-drop}
use lib.Seq.{get_or-take, length-take-le}
use Rattle.sample_channels.specs.declared.Moment.{Moment}
use Rattle.sample_channels.specs.Channels.{still, AllInRange}
use Rattle.sample_channels.proofs.Range.{all_left, all_right}
use Rattle.sample_items.specs.Limits.{most_samples}
use Rattle.crossing_places.specs.Reading.{sample_at}
use Rattle.record_state.specs.declared.Record.{Record}
use Rattle.record_state.specs.State.{sound}
use Rattle.record_step.specs.Step.{moved, stepped}
use Rattle.record_feed.proofs.Cutting.{run_sound}
use Rattle.record_feed.proofs.Quiet.{ramp_still, still_run}

module _ (r : Record) (p : List Moment) (j : ℕ) (some : 1 ≤ j) (within : j ≤ length p) (ramp : r.n + j ≤ r.items.ramp + 1) where
  long : length (take j p) ≡ j
  long = length-take-le j p within

  pub led : foldl stepped r (take j p) ≡ moved r j (sample_at p (j - 1))
  led =
      rw long at (still_run r (take j p) (ramp_still r (take j p) (omega (arith, long))) (omega (arith, long)))
      ∙ ap (moved r j) (get_or-take j p (j - 1) still (omega arith))

  pub led_on : foldl stepped (moved r j (sample_at p (j - 1))) (drop j p) ≡ foldl stepped r p
  led_on = ap (λ (s : Record). foldl stepped s (drop j p)) (sym led) ∙ sym (foldl-append stepped r (take j p) (drop j p)) ∙ ap (foldl stepped r) (take-append-drop j p)

  module _ (good : AllInRange p) where
    cut : AllInRange (take j p ++ drop j p)
    cut = rw (take-append-drop j p) good

    pub led_good : AllInRange (drop j p)
    led_good = all_right (take j p) (drop j p) cut

    pub led_sound : sound r ≡ true → r.n + length p ≤ most_samples r.items.step r.items.ramp → sound (moved r j (sample_at p (j - 1))) ≡ true
    led_sound s room = rw led at (run_sound r (take j p) s (all_left (take j p) (drop j p) cut) (omega (arith, long)))
