-- Two answers that a promise allows are the same answer, with the same later contents of everything that was lent.
-- Assumes nothing.
use Prim.Native.Nat.{ℕ}
use mathlib.Core.Path.{◌≡◌}
use mathlib.Core.List.{List}
use lib.Ieee.{Float}
use Rattle.truth.proofs.Unique.{settled}
use Rattle.poisson.proofs.Unique as poisson
use Rattle.poisson.specs.Rows.{LowerRow, UpperRow}
use Rattle.campaign_verdict.specs.declared.Verdict.{Verdict}
use Rattle.capi_verdict.specs.Told.{Count, Judgement, Rating, campaign_censored, campaign_judged, campaign_rated, rates, told_rates, verdict_told}
use Rattle.campaign_verdict.specs.declared.Rates.{Rates}
use Rattle.std.specs.Prelude.{Option}

pub campaign_censored_unique : (s : List ℕ) (x y : Count) → x ≡ campaign_censored s → y ≡ campaign_censored s → x ≡ y
campaign_censored_unique s x y = settled

pub tell_unique : (v : Verdict) (x y : Judgement) → x ≡ verdict_told v → y ≡ verdict_told v → x ≡ y
tell_unique v x y = settled

pub tell_rates_unique : (r : Option Rates) (x y : Rating) → x ≡ told_rates r → y ≡ told_rates r → x ≡ y
tell_rates_unique r x y = settled

pub campaign_verdict_unique : (s : List ℕ) (l u : Float) (x y : Judgement) → x ≡ campaign_judged s l u → y ≡ campaign_judged s l u → x ≡ y
campaign_verdict_unique s l u x y = settled

pub campaign_rates_unique :
    (s : List ℕ) (e l u : Float) (x y : Rating) → x ≡ campaign_rated s (rates e l u) → y ≡ campaign_rated s (rates e l u) → x ≡ y
campaign_rates_unique s e l u x y = settled

pub upper_row_unique : (n r s : ℕ) → UpperRow n r → UpperRow n s → r ≡ s
upper_row_unique = poisson.upper_row_unique

pub lower_row_unique : (n r s : ℕ) → LowerRow n r → LowerRow n s → r ≡ s
lower_row_unique = poisson.lower_row_unique
