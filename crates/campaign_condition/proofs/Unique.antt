-- Two answers that the promise allows are the same answer: it equates both with a definition's value. Assumes nothing.
use mathlib.Core.Path.{◌≡◌}
use mathlib.Core.List.{List}
use Prim.Native.Nat.{ℕ}
use lib.ListN.{take}
use Rattle.truth.proofs.Unique.{settled}
use Rattle.campaign_state.specs.declared.Campaign.{Campaign}
use Rattle.campaign_condition.specs.Answers.{judging}
use Rattle.refusal.specs.declared.Refusal.{Refusal}
use Rattle.campaign_condition.specs.declared.Standing.{Standing}
use Rattle.std.specs.Prelude.{Result}

pub judge_unique : (all : List Campaign) (number : ℕ) (r s : Result Standing Refusal) → r ≡ judging number (take number all) → s ≡ judging number (take number all) → r ≡ s
judge_unique all number r s = settled
