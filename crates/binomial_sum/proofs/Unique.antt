-- Two answers that a promise allows are the same answer: each promise equates the answer with a definition's value.
-- Assumes nothing.
use mathlib.Core.Path.{◌≡◌}
use mathlib.Core.Bool.{Bool}
use Prim.Native.Nat.{ℕ}
use Rattle.truth.proofs.Unique.{settled}
use Rattle.record_state.specs.declared.Record.{Record}
use Rattle.binomial_sum.specs.declared.Sum.{Sum}
use Rattle.binomial_sum.specs.Answers.{adding, opened}
use Rattle.binomial_sum.specs.State.{sound}
use Rattle.refusal.specs.declared.Refusal.{Refusal}
use Rattle.std.specs.Prelude.{Result}

pub open_unique : (D : ℕ) (a b : Result Sum Refusal) → a ≡ opened D → b ≡ opened D → a ≡ b
open_unique D a b = settled

pub sound_unique : (s : Sum) (a b : Bool) → a ≡ sound s → b ≡ sound s → a ≡ b
sound_unique s a b = settled

pub add_unique : (s : Sum) (r : Record) (a b : Result Sum Refusal) → a ≡ adding s r → b ≡ adding s r → a ≡ b
add_unique s r a b = settled
