-- Two answers that a promise allows are the same answer: each promise equates the answer with a definition's value.
-- Assumes nothing.
use mathlib.Core.Path.{◌≡◌}
use Prim.Native.Nat.{ℕ}
use Rattle.bureau_table.specs.declared.Place.{Place}
use Rattle.truth.proofs.Unique.{settled}
use Rattle.bureau_survey.specs.declared.Seen.{Seen}
use Rattle.bureau_survey.specs.Survey.{surveyed, unseen}

pub unseen_unique : (r s : Seen) → r ≡ unseen → s ≡ unseen → r ≡ s
unseen_unique r s = settled

pub look_unique : (s : Seen) (i : ℕ) (p : Place) (a b : Seen) → a ≡ surveyed s i p → b ≡ surveyed s i p → a ≡ b
look_unique s i p a b = settled
