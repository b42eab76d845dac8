-- What each C function of a campaign leaves, from the answers that the crates below give to the states that the arrays
-- hold. Assumes nothing.
use Rattle.std.specs.Prelude.{ℕ, cond, List, eqb, leb}
use Rattle.refusal.specs.declared.Refusal.TheVariants.{BrokenState}
use Rattle.record_end.specs.declared.Outcome.{Outcome}
use Rattle.campaign_state.specs.Answers.{entering, opened}
use Rattle.record_end.specs.Result.{outcome_of}
use Rattle.capi.specs.Numbers.{campaign_of, result_of}
use Rattle.capi.specs.Told.{Told, campaign_kept, refused}

abbrev pub campaign_opened : ℕ → List ℕ → Told
campaign_opened q s = campaign_kept (opened q) s

-- a flag is 0 or 1
abbrev pub outcome : ℕ → ℕ → Outcome
outcome f t = record { failed = eqb f 1; exposure = t }

unfoldable pub campaign_entered : List ℕ → ℕ → ℕ → Told
campaign_entered s f t = cond (leb f 1) (campaign_kept (entering (campaign_of s) (outcome f t)) s) (refused BrokenState s)

-- document 02, [4]: of a result's five numbers whether there is a first failure, and the exposure
abbrev pub campaign_result_entered : List ℕ → List ℕ → Told
campaign_result_entered s x = campaign_kept (entering (campaign_of s) (outcome_of (result_of x))) s
