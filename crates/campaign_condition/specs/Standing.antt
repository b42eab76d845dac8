-- Document 02 [13]: where a loading condition stands, from the verdicts on its campaigns, one for each design
-- situation. Assumes nothing.
use Rattle.std.specs.Prelude.{◌≡◌, Bool, cond, false, true, ◌&&◌, ◌||◌, List, [], ◌∷◌, Result, Ok, Err}
use Rattle.campaign_state.specs.declared.Campaign.{Campaign}
use Rattle.campaign_verdict.specs.Answers.{judging}
use Rattle.campaign_verdict.specs.declared.Verdict.{Verdict}
use Rattle.campaign_verdict.specs.declared.Verdict.TheVariants.{Accept, Continue, NoRecord, Reject}
use Rattle.campaign_condition.specs.declared.Standing.{Standing}
use Rattle.campaign_condition.specs.declared.Standing.TheVariants.{Accepted, Open, Rejected}
use Rattle.refusal.specs.declared.Refusal.{Refusal}

-- ---- one campaign: the verdict on it is reject, or accept. No record is neither
abbrev pub rejection : Verdict → Bool
rejection (Reject lower) = true
rejection (Accept upper) = false
rejection (Continue lower upper) = false
rejection NoRecord = false

abbrev pub acceptance : Verdict → Bool
acceptance (Accept upper) = true
acceptance (Reject lower) = false
acceptance (Continue lower upper) = false
acceptance NoRecord = false

abbrev pub holds_in : (Verdict → Bool) → Result Verdict Refusal → Bool
holds_in says (Ok v) = says v
holds_in says (Err r) = false

unfoldable pub rejected : Campaign → Bool
rejected c = holds_in rejection (judging c)

unfoldable pub accepted : Campaign → Bool
accepted c = holds_in acceptance (judging c)

-- ---- all campaigns
-- at least one is rejected
unfoldable pub one_rejected : List Campaign → Bool
one_rejected [] = false
one_rejected (c ∷ cs) = rejected c || one_rejected cs

-- all are accepted
unfoldable pub all_accepted : List Campaign → Bool
all_accepted [] = true
all_accepted (c ∷ cs) = accepted c && all_accepted cs

-- THE STANDING: rejected if at least one is rejected; accepted if all are accepted; else open
unfoldable pub standing : List Campaign → Standing
standing cs = cond (one_rejected cs) Rejected (cond (all_accepted cs) Accepted Open)

-- ---- in words, for the statements
-- at least one of the campaigns is so
pub data One (is : Campaign → Bool) : List Campaign → Type 0 where
  this : {c : Campaign} {cs : List Campaign} → is c ≡ true → One is (c ∷ cs)
  another : {c : Campaign} {cs : List Campaign} → One is cs → One is (c ∷ cs)

-- all of them are
pub data All (is : Campaign → Bool) : List Campaign → Type 0 where
  done : All is []
  next : {c : Campaign} {cs : List Campaign} → is c ≡ true → All is cs → All is (c ∷ cs)
