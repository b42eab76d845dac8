-- Two answers that a promise allows are the same answer: each promise equates the answer with a definition's value.
-- Assumes nothing.
use mathlib.Core.Path.{◌≡◌}
use Rattle.truth.proofs.Unique.{settled}
use Rattle.record_state.specs.declared.Record.{Record}
use Rattle.record_end.specs.declared.Outcome.{Outcome}
use Rattle.record_end.specs.declared.RecordResult.{RecordResult}
use Rattle.record_end.specs.Result.{ending, outcome_of}
use Rattle.refusal.specs.declared.Refusal.{Refusal}
use Rattle.std.specs.Prelude.{Result}

pub end_unique : (r : Record) (a b : Result RecordResult Refusal) → a ≡ ending r → b ≡ ending r → a ≡ b
end_unique r a b = settled

pub outcome_unique : (x : RecordResult) (a b : Outcome) → a ≡ outcome_of x → b ≡ outcome_of x → a ≡ b
outcome_unique x a b = settled
