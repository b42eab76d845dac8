-- A campaign's figures over the whole list of its records, oldest first: document 000, section 4.2, with document 01
-- deciding. Assumes nothing.
use Rattle.std.specs.Prelude.{◌≡◌, Bool, cond, false, List, [], ◌∷◌, ℕ, ◌+◌, length, Ok}
use Rattle.record_state.specs.declared.Record.{Record}
use Rattle.record_end.specs.Result.{ending, outcome_of, result_of}
use Rattle.record_end.specs.declared.Outcome.{Outcome}
use Rattle.record_end.specs.declared.RecordResult.{RecordResult}
use Rattle.campaign_state.specs.declared.Campaign.{Campaign}
use Rattle.campaign_state.specs.Answers.{entering}

-- what a campaign takes of a record
abbrev pub outcome : Record → Outcome
outcome r = outcome_of (result_of r)

-- n: how many records failed
unfoldable pub failures_in : List Outcome → ℕ
failures_in [] = 0
failures_in (o ∷ os) = cond o.failed 1 0 + failures_in os

-- the sum of the durations
unfoldable pub exposure_in : List Outcome → ℕ
exposure_in [] = 0
exposure_in (o ∷ os) = o.exposure + exposure_in os

-- the records but the last
unfoldable pub but_last : List Outcome → List Outcome
but_last [] = []
but_last (o ∷ []) = []
but_last (o ∷ (p ∷ os)) = o ∷ but_last (p ∷ os)

-- n*: the failures before the last record, plus 1
unfoldable pub censored_in : List Outcome → ℕ
censored_in [] = 0
censored_in (o ∷ os) = failures_in (but_last (o ∷ os)) + 1

unfoldable pub last_failed : List Outcome → Bool
last_failed [] = false
last_failed (o ∷ []) = o.failed
last_failed (o ∷ (p ∷ os)) = last_failed (p ∷ os)

-- the campaign of those records at the standard q
unfoldable pub campaign_of : ℕ → List Outcome → Campaign
campaign_of q os =
    record {
      standard = q;
      records = length os;
      failures = failures_in os;
      exposure = exposure_in os;
      failed = last_failed os;
    }

-- outcomes entered one after the other, all taken, lead from c to d
pub data AllEntered : Campaign → List Outcome → Campaign → Type 0 where
  none : {c : Campaign} → AllEntered c [] c
  one : {c d e : Campaign} {o : Outcome} {os : List Outcome} → entering c o ≡ Ok d → AllEntered d os e → AllEntered c (o ∷ os) e

-- records ended and their results entered one after the other, all taken, lead from c to d
pub data AllEnded : Campaign → List Record → Campaign → Type 0 where
  none : {c : Campaign} → AllEnded c [] c
  one :
      {c d e : Campaign} {r : Record} {x : RecordResult} {rs : List Record}
      → ending r ≡ Ok x
      → entering c (outcome_of x) ≡ Ok d
      → AllEnded d rs e
      → AllEnded c (r ∷ rs) e
