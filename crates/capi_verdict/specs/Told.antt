-- What each C function leaves that reads figures off the campaign that an array holds: the number that it answers, what
-- it carries, and the lent rates afterwards, which a refusal leaves as they stood. Assumes nothing.
use Rattle.std.specs.Prelude.{ℕ, List, Float, Option, Some, None, Result, Ok, Err}
use Rattle.refusal.specs.Numbers.{number_of, value_of}
use Rattle.campaign_verdict.specs.Answers.{counting, judging, rating}
use Rattle.campaign_verdict.specs.Figures.{zero64}
use Rattle.campaign_verdict.specs.declared.Rates.{Rates}
use Rattle.campaign_verdict.specs.declared.Verdict.{Verdict}
use Rattle.campaign_verdict.specs.declared.Verdict.TheVariants.{Accept, Continue, NoRecord, Reject}
use Rattle.capi.specs.Numbers.{campaign_of}
use Rattle.refusal.specs.declared.Refusal.{Refusal}

-- the censored count
pub record Count : Type 0 where
  pub number : ℕ
  pub carried : ℕ

abbrev pub count : ℕ → ℕ → Count
count n v = record { number = n; carried = v }

unfoldable pub count_told : Result ℕ Refusal → Count
count_told (Ok k) = count 0 k
count_told (Err f) = count (number_of f) (value_of f)

abbrev pub campaign_censored : List ℕ → Count
campaign_censored s = count_told (counting (campaign_of s))

-- the number, the verdict's case, and two lent rates afterwards
pub record Judgement : Type 0 where
  pub number : ℕ
  pub carried : ℕ
  pub lower : Float
  pub upper : Float

abbrev pub judgement : ℕ → ℕ → Float → Float → Judgement
judgement n v x y = record { number = n; carried = v; lower = x; upper = y }

-- "The campaign": accept carries the upper rate, reject the lower, continue both; a rate that the verdict does not
-- carry is 0
unfoldable pub verdict_told : Verdict → Judgement
verdict_told NoRecord = judgement 0 0 zero64 zero64
verdict_told (Accept y) = judgement 0 1 zero64 y
verdict_told (Reject x) = judgement 0 2 x zero64
verdict_told (Continue x y) = judgement 0 3 x y

unfoldable pub judged_told : Result Verdict Refusal → Float → Float → Judgement
judged_told (Ok v) x y = verdict_told v
judged_told (Err f) x y = judgement (number_of f) (value_of f) x y

abbrev pub campaign_judged : List ℕ → Float → Float → Judgement
campaign_judged s x y = judged_told (judging (campaign_of s)) x y

-- the number, 1 if there is a record and else 0, which is 01's "no record" without a number, and three lent rates
-- afterwards
pub record Rating : Type 0 where
  pub number : ℕ
  pub carried : ℕ
  pub rates : Rates

abbrev pub ratings : ℕ → ℕ → Rates → Rating
ratings n v x = record { number = n; carried = v; rates = x }

abbrev pub rates : Float → Float → Float → Rates
rates e x y = record { estimate = e; lower = x; upper = y }

unfoldable pub told_rates : Option Rates → Rating
told_rates (Some x) = ratings 0 1 x
told_rates None = ratings 0 0 (rates zero64 zero64 zero64)

unfoldable pub rated_told : Result (Option Rates) Refusal → Rates → Rating
rated_told (Ok r) y = told_rates r
rated_told (Err f) y = ratings (number_of f) (value_of f) y

abbrev pub campaign_rated : List ℕ → Rates → Rating
campaign_rated s y = rated_told (rating (campaign_of s)) y
