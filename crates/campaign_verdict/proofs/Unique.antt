-- Two answers that a promise allows are the same answer. Assumes nothing.
use mathlib.Core.Path.{◌≡◌}
use Rattle.truth.proofs.Unique.{settled}
use Rattle.campaign_state.specs.declared.Campaign.{Campaign}
use Rattle.campaign_verdict.specs.Answers.{Judges, counting, rating}
use Rattle.campaign_verdict.proofs.Only.{only}
use Rattle.refusal.specs.declared.Refusal.{Refusal}
use Rattle.campaign_verdict.specs.declared.Verdict.{Verdict}
use Rattle.campaign_verdict.specs.declared.Rates.{Rates}
use Rattle.std.specs.Prelude.{ℕ, Option, Result}

pub censored_unique : (c : Campaign) (a b : Result ℕ Refusal) → a ≡ counting c → b ≡ counting c → a ≡ b
censored_unique c a b = settled

-- accept and reject never both hold, so one of the verdict's cases is allowed
pub judge_unique : (c : Campaign) (a b : Result Verdict Refusal) → Judges c a → Judges c b → a ≡ b
judge_unique c a b p q = settled (only c a p) (only c b q)

pub rate_unique : (c : Campaign) (a b : Result (Option Rates) Refusal) → a ≡ rating c → b ≡ rating c → a ≡ b
rate_unique c a b = settled
