-- The letter of a campaign with a record, whatever stands for no record: it is that of the test that holds. Assumes
-- nothing.
use mathlib.Core.Path.{◌≡◌, ap, refl, sym}
use mathlib.Core.Bool.{false, true}
use Prim.Native.Nat.{ℕ, ◌≤◌}
use Rattle.campaign_state.specs.declared.Campaign.{Campaign}
use Rattle.campaign_state.specs.State.{sound}
use Rattle.campaign_verdict.specs.declared.Verdict.TheVariants.{Accept, Continue, Reject}
use Rattle.campaign_verdict.specs.Figures.{accepts, lower_rate, rejects, upper_rate, verdict_of}
use Rattle.campaign_verdict.specs.Letters.{letter_a, letter_c, letter_of, letter_r}
use Rattle.campaign_verdict.proofs.Only.{only_verdict}

module _ (none : ℕ) (c : Campaign) (kept : sound c ≡ true) (some : 1 ≤ c.records) where
  pub of_accept : accepts c ≡ true → letter_of none (verdict_of c) ≡ letter_a
  of_accept a = ap (letter_of none) (sym (only_verdict c kept (Accept (upper_rate c)) (some, a, refl)))

  pub of_reject : rejects c ≡ true → letter_of none (verdict_of c) ≡ letter_r
  of_reject r = ap (letter_of none) (sym (only_verdict c kept (Reject (lower_rate c)) (some, r, refl)))

  pub of_continue : accepts c ≡ false → rejects c ≡ false → letter_of none (verdict_of c) ≡ letter_c
  of_continue a r = ap (letter_of none) (sym (only_verdict c kept (Continue (lower_rate c) (upper_rate c)) (some, r, a, refl, refl)))
