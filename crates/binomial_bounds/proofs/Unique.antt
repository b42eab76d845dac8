-- Two answers that a promise allows are the same answer: each promise equates the answer with a definition's value.
-- Assumes nothing.
use mathlib.Core.Path.{◌≡◌}
use Rattle.truth.proofs.Unique.{settled}
use Rattle.binomial_sum.specs.declared.Sum.{Sum}
use Rattle.binomial_bounds.specs.Answers.{bounding, rating}
use Rattle.refusal.specs.declared.Refusal.{Refusal}
use Rattle.campaign_verdict.specs.declared.Rates.{Rates}
use Rattle.binomial_bounds.specs.declared.Bounds.{Bounds}
use Rattle.std.specs.Prelude.{Bool, Option, Result}

pub bound_unique : (s : Sum) (a b : Result (Bool × Bounds) Refusal) → a ≡ bounding s → b ≡ bounding s → a ≡ b
bound_unique s a b = settled

pub rate_unique : (s : Sum) (a b : Result (Option Rates) Refusal) → a ≡ rating s → b ≡ rating s → a ≡ b
rate_unique s a b = settled
