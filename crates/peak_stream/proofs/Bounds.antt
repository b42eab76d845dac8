-- A sample that a record may still have stands within the longest timed length. Assumes nothing.
use Prim.Native.Nat.{ℕ, ◌*◌, ◌≤◌, ◌<◌}
use mathlib.Core.Bool.{Bool, true, false, cond, ◌&&◌}
use native.Mathlib.Nat.{div-le_self}
use native.Mathlib.Omega.{arith}
use Rattle.sample_items.specs.Limits.{step_in_range, ramp_in_range, most_samples, most_in_range}
use Rattle.sample_items.proofs.Ranges.{in_time}

pub most_few : (D : ℕ) → most_in_range D 0 ≤ 10000001
unfolding most_in_range
most_few D = go (step_in_range D && ramp_in_range 0)
  where
    go : (b : Bool) → cond b (most_samples D 0) 0 ≤ 10000001
    go true = omega (arith, div-le_self 10000000 D)
    go false = omega arith

pub soon : (n D : ℕ) → n < most_in_range D 0 → n * D ≤ 10000000
unfolding most_in_range
soon n D = go (step_in_range D && ramp_in_range 0)
  where
    go : (b : Bool) → n < cond b (most_samples D 0) 0 → n * D ≤ 10000000
    go true h = in_time n D (omega arith)
    go false h = absurd (omega arith)
