-- The decorrelation time in samples. Assumes nothing.
use Rattle.std.specs.Prelude.{ℕ, ◌*◌, ◌≤◌}

-- g steps of D ms are the fewest that are at least τ ms long
pub record Gap (D τ g : ℕ) : Type 0 where
  pub long : τ ≤ g * D
  pub least : (k : ℕ) → τ ≤ k * D → g ≤ k
