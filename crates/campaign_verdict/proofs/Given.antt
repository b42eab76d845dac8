-- A campaign that keeps its relations is not refused: it has its verdict and its censored count. Assumes nothing.
use Prim.Native.Nat.{ℕ}
use mathlib.Core.Path.{◌≡◌, sym}
use mathlib.Core.Bool.{true}
use Rattle.truth.proofs.Laws.{impossible}
use Rattle.refusal.specs.declared.Refusal.{Refusal}
use Rattle.campaign_state.specs.declared.Campaign.{Campaign}
use Rattle.campaign_verdict.specs.declared.Verdict.{Verdict}
use Rattle.campaign_verdict.specs.Answers.{Judges, counting, judging}
use Rattle.campaign_verdict.specs.Figures.{verdict_of}
use Rattle.campaign_verdict.proofs.Only.{only}
use Rattle.campaign_state.specs.State.{censored, sound}
use Rattle.std.specs.Prelude.{Result, Ok, Err}
use Rattle.truth.proofs.Answers.{ok_not_err, same_ok}

module _ (c : Campaign) (s : sound c ≡ true) where
  pub has_verdict : (j : Result Verdict Refusal) {v : Verdict} → Judges c j → j ≡ Ok v → v ≡ verdict_of c
  unfolding judging
  has_verdict j p f = sym (same_ok (rw (only c j p, s) at f))

  pub not_refused : (j : Result Verdict Refusal) {r : Refusal} → Judges c j → j ≡ Err r → ⊥
  unfolding judging
  not_refused j p f = ok_not_err (rw (only c j p, s) at f)

  pub has_count : {j : (Result ℕ Refusal)} {n : ℕ} → j ≡ counting c → j ≡ Ok n → n ≡ censored c
  unfolding counting
  has_count e f = sym (same_ok (rw (e, s) at f))

  pub count_not_refused : {j : (Result ℕ Refusal)} {r : Refusal} → j ≡ counting c → j ≡ Err r → ⊥
  unfolding counting
  count_not_refused e f = ok_not_err (rw (e, s) at f)
