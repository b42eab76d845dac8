-- The decorrelation time in samples: a quotient rounded up is the fewest steps, and samples that many apart are as far
-- apart as the time asks. Assumes nothing.
use Prim.Native.Nat.{ℕ, suc, ◌+◌, ◌-◌, ◌*◌, ◌/◌, ◌≤◌, ◌<◌}
use mathlib.Core.Path.{◌≡◌, refl, sym}
use mathlib.Core.Bool.{Bool, true, false, cond}
use native.Mathlib.Nat.{div-mul-le_self, lt-div-mul-add, mul-le-mul_right}
use native.Mathlib.Decide.{dec_le}
use native.Mathlib.Omega.{arith}
use lib.Dec.{leb}
use borrow.Author.Tests.{leb-true, leb-false, le-leb, lt-leb}
use Rattle.sample_channels.specs.declared.Moment.{Moment}
use Rattle.record_state.specs.declared.Record.{Record}
use Rattle.record_feed.specs.Gap.{Gap}
use Rattle.record_step.specs.Step.{crosses, crossed, moved, stepped}

pub rounded_up : (D τ : ℕ) → 1 ≤ D → Gap D τ ((τ + (D - 1)) / D)
rounded_up D τ some =
    record {
      long = omega (arith, lt-div-mul-add {a = τ + (D - 1)} {b = D} some);
      least = λ k h. go k h (dec_le ((τ + (D - 1)) / D) k);
    }
  where
    go : (k : ℕ) → τ ≤ k * D → Dec ((τ + (D - 1)) / D ≤ k) → (τ + (D - 1)) / D ≤ k
    go k h (yes l) = l
    go k h (no l) = absurd (omega (arith, mul-le-mul_right {m = suc k} {n = (τ + (D - 1)) / D} D (omega arith), div-mul-le_self (τ + (D - 1)) D))

-- so many samples are long enough
pub in_samples : {D τ g : ℕ} → Gap D τ g → (k : ℕ) → leb g k ≡ leb τ (k * D)
in_samples {D} {τ} {g} s k = go (leb g k) refl
  where
    go : (b : Bool) → leb g k ≡ b → b ≡ leb τ (k * D)
    go true e = sym (le-leb τ (k * D) (omega (arith, s.long, mul-le-mul_right {m = g} {n = k} D (leb-true g k e))))
    go false e = sym (lt-leb τ (k * D) (shorter (dec_le τ (k * D))))
      where
        shorter : Dec (τ ≤ k * D) → k * D < τ
        shorter (yes l) = absurd (omega (arith, s.least k l, leb-false g k e))
        shorter (no l) = omega arith

-- the items stay
pub gap_stays : (r : Record) (x : Moment) {g : ℕ} → Gap r.items.step r.items.decorrelation g → Gap (stepped r x).items.step (stepped r x).items.decorrelation g
unfolding stepped
gap_stays r x {g} s = go (crosses r x)
  where
    go : (b : Bool) → Gap (cond b (crossed r x) (moved r 1 x)).items.step (cond b (crossed r x) (moved r 1 x)).items.decorrelation g
    go true = s
    go false = s
