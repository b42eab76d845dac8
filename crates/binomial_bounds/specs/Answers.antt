-- What each entry answers: refusal 8, or whether there is a record beside the figures. A sum has a timed sample as soon
-- as it has a record, so P = 0 is "no record". Assumes nothing.
use Rattle.std.specs.Prelude.{Bool, cond, not, eqb, Option, Some, None, Result, Ok, Err}
use Rattle.refusal.specs.declared.Refusal.TheVariants.{BrokenState}
use Rattle.binomial_sum.specs.declared.Sum.{Sum}
use Rattle.binomial_sum.specs.State.{sound}
use Rattle.binomial_bounds.specs.Bounds.{bounds_of, rates_of}
use Rattle.refusal.specs.declared.Refusal.{Refusal}
use Rattle.campaign_verdict.specs.declared.Rates.{Rates}
use Rattle.binomial_bounds.specs.declared.Bounds.{Bounds}

abbrev pub recorded : Sum → Bool
recorded s = not (eqb s.samples 0)

unfoldable pub bounding : Sum → Result (Bool × Bounds) Refusal
bounding s = cond (sound s) (Ok (recorded s, bounds_of s)) (Err BrokenState)

unfoldable pub rating : Sum → Result (Option Rates) Refusal
rating s = cond (sound s) (Ok (cond (recorded s) (Some (rates_of s)) None)) (Err BrokenState)
