-- What each entry answers (document 01, "Refusal numbers"). Assumes nothing.
use Rattle.std.specs.Prelude.{◌≡◌, cond, false, not, true, eqb, ℕ, Option, Some, None, Result, Ok, Err}
use Rattle.refusal.specs.declared.Refusal.TheVariants.{BrokenState}
use Rattle.campaign_state.specs.declared.Campaign.{Campaign}
use Rattle.campaign_state.specs.State.{censored, sound}
use Rattle.campaign_verdict.specs.Figures.{IsVerdict, rates_of, verdict_of}
use Rattle.refusal.specs.declared.Refusal.{Refusal}
use Rattle.campaign_verdict.specs.declared.Verdict.{Verdict}
use Rattle.campaign_verdict.specs.declared.Rates.{Rates}

-- Verdict and rates 8
abbrev pub Judges : Campaign → Result Verdict Refusal → Type 0
Judges c (Ok v) = (sound c ≡ true) × IsVerdict c v
Judges c (Err r) = (sound c ≡ false) × (r ≡ BrokenState)

-- the one answer that this allows, for those who compute with it
unfoldable pub judging : Campaign → Result Verdict Refusal
judging c = cond (sound c) (Ok (verdict_of c)) (Err BrokenState)

unfoldable pub rating : Campaign → Result (Option Rates) Refusal
rating c = cond (sound c) (Ok (cond (not (eqb c.records 0)) (Some (rates_of c)) None)) (Err BrokenState)

unfoldable pub counting : Campaign → Result ℕ Refusal
counting c = cond (sound c) (Ok (censored c)) (Err BrokenState)
