-- Two answers that a promise allows are the same answer: the promise equates it with a definition's value. Assumes
-- nothing.
use mathlib.Core.Path.{◌≡◌}
use Prim.Native.Nat.{ℕ}
use Rattle.campaign_state.specs.declared.Campaign.{Campaign}
use Rattle.bureau_table.specs.declared.Work.{Work}
use Rattle.bureau_table.specs.declared.Worked.{Worked}
use Rattle.bureau_table.specs.Calls.{worked}
use Rattle.truth.proofs.Unique.{settled}
use Rattle.bureau_table.specs.declared.Call.{Call}
use Rattle.bureau_table.specs.declared.Place.{Place}
use Rattle.bureau_survey.specs.declared.Seen.{Seen}
use Rattle.bureau_choice.specs.declared.Choice.{Choice}
use Rattle.bureau_choice.specs.Steps.{acted, chosen}

pub work_unique : (b : ℕ) (c : Campaign) (w : Work) (x y : Worked) → x ≡ worked b c w → y ≡ worked b c w → x ≡ y
work_unique b c w x y = settled

pub choose_unique : (c : Call) (s : Seen) (n : ℕ) (a b : Choice) → a ≡ chosen c s n → b ≡ chosen c s n → a ≡ b
choose_unique c s n a b = settled

pub act_unique : (c : Call) (d : Choice) (p : Place) (a b : Worked) → a ≡ acted c d p → b ≡ acted c d p → a ≡ b
act_unique c d p a b = settled
