-- Two answers that a promise allows are the same answer: each promise equates the answer with a definition's value.
-- Assumes nothing.
use mathlib.Core.Path.{◌≡◌}
use mathlib.Core.Bool.{Bool}
use Prim.Native.Nat.{ℕ}
use Rattle.record_end.specs.declared.Outcome.{Outcome}
use Rattle.truth.proofs.Unique.{settled}
use Rattle.campaign_state.specs.declared.Campaign.{Campaign}
use Rattle.campaign_state.specs.Answers.{entering, opened}
use Rattle.campaign_state.specs.State.{sound}
use Rattle.refusal.specs.declared.Refusal.{Refusal}
use Rattle.std.specs.Prelude.{Result}

pub open_unique : (q : ℕ) (a b : Result Campaign Refusal) → a ≡ opened q → b ≡ opened q → a ≡ b
open_unique q a b = settled

pub sound_unique : (c : Campaign) (a b : Bool) → a ≡ sound c → b ≡ sound c → a ≡ b
sound_unique c a b = settled

pub enter_unique : (c : Campaign) (o : Outcome) (a b : Result Campaign Refusal) → a ≡ entering c o → b ≡ entering c o → a ≡ b
enter_unique c o a b = settled
