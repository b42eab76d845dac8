-- Items in range, as facts about numbers, and how many samples they let a record have. Assumes nothing.
use Prim.Native.Nat.{ℕ, ◌*◌, ◌/◌, ◌≤◌}
use mathlib.Core.Path.{◌≡◌, refl}
use mathlib.Core.Bool.{Bool, true, false, cond, not}
use native.Mathlib.Omega.{arith}
use native.Mathlib.Nat.{mul-le-mul, div-le_self, div-mul-le_self}
use lib.Dec.{leb}
use borrow.Author.Tests.{leb-true}
use Rattle.truth.proofs.Laws.{and-true, both_true}
use Rattle.sample_items.specs.declared.Items.{Items}
use Rattle.sample_items.specs.Limits.{item_outside, within, step_in_range, ramp_in_range, level_in_range, decorrelation_in_range, longest_time, most_samples, most_in_range}

pub record WithinRanges (items : Items) : Type 0 where
  pub step_low : 1 ≤ items.step
  pub step-high : items.step ≤ 10000
  pub ramp : items.ramp ≤ 1000000
  pub decorrelation : items.decorrelation ≤ 10000000

none_outside : (a b c d e : Bool) → ◌≡◌ {A = ℕ} (cond (not a) 1 (cond (not b) 2 (cond (not c) 3 (cond (not d) 4 (cond (not e) 6 0))))) 0 → (a ≡ true) × (b ≡ true) × (d ≡ true)
none_outside true true true true true z = (refl, refl, refl)
none_outside false b c d e z = absurd (omega (arith, z))
none_outside true false c d e z = absurd (omega (arith, z))
none_outside true true false d e z = absurd (omega (arith, z))
none_outside true true true false e z = absurd (omega (arith, z))
none_outside true true true true false z = absurd (omega (arith, z))

pub low : (l h x : ℕ) → within l h x ≡ true → l ≤ x
low l h x e = leb-true l x (and-true (leb l x) (leb x h) e).0

pub high : (l h x : ℕ) → within l h x ≡ true → x ≤ h
high l h x e = leb-true x h (and-true (leb l x) (leb x h) e).1

pub within_ranges : (items : Items) → item_outside items ≡ 0 → WithinRanges items
unfolding item_outside
within_ranges items e =
    let i = none_outside (step_in_range items.step) (ramp_in_range items.ramp)
    (level_in_range items.levels.roll) (decorrelation_in_range items.decorrelation)
    (level_in_range items.levels.acceleration) e in
    record {
      step_low = low 1 10000 items.step i.0;
      step-high = high 1 10000 items.step i.0;
      ramp = high 0 1000000 items.ramp i.1;
      decorrelation = high 0 10000000 items.decorrelation i.2;
    }

-- items in range let a record have so many samples
pub most_in_range_lem : (items : Items) → item_outside items ≡ 0 → most_in_range items.step items.ramp ≡ most_samples items.step items.ramp
unfolding item_outside most_in_range
most_in_range_lem items e =
    let i = none_outside (step_in_range items.step) (ramp_in_range items.ramp)
    (level_in_range items.levels.roll) (decorrelation_in_range items.decorrelation)
    (level_in_range items.levels.acceleration) e in
    rw (both_true i.0 i.1)

-- the longest record, in samples
pub most_small : {items : Items} → WithinRanges items → most_samples items.step items.ramp ≤ 11000001
most_small {items} i = omega (arith, div-le_self 10000000 items.step, i.ramp)

-- so many samples past R stand within the longest timed length
pub in_time : (k D : ℕ) → k ≤ longest_time / D → k * D ≤ longest_time
in_time k D l = omega (arith, mul-le-mul {n₁ = k} {m₁ = D} {n₂ = longest_time / D} {m₂ = D} l (omega arith), div-mul-le_self longest_time D)
