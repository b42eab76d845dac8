-- Accept and reject never both hold in a state that keeps the relations and has a record: the two rows lie apart
-- (poisson: Exposure). So one verdict is allowed, and it is the one that `judging` computes. Assumes nothing.
use mathlib.Core.Path.{◌≡◌, ap, refl, sym}
use mathlib.Core.Bool.{Bool, cond, false, not, true, ◌&&◌}
use Prim.Native.Nat.{◌≤◌}
use native.Mathlib.Omega.{arith}
use borrow.Author.Tests.{eqb-false, eqb-true, ltb-true, ne_eqb}
use lib.Dec.{eqb}
use Rattle.poisson.proofs.Exposure.{never_both}
use Rattle.truth.proofs.Laws.{holds, is_true, no}
use Rattle.campaign_state.specs.declared.Campaign.{Campaign}
use Rattle.campaign_state.specs.State.{censored, sound}
use Rattle.campaign_state.proofs.Relations.{censored_row, kept_from}
use Rattle.campaign_verdict.specs.declared.Verdict.{Verdict}
use Rattle.campaign_verdict.specs.declared.Verdict.TheVariants.{Accept, Continue, NoRecord, Reject}
use Rattle.campaign_verdict.specs.Answers.{Judges, judging}
use Rattle.campaign_verdict.specs.Figures.{IsVerdict, accepts, lower_rate, rejects, upper_rate, verdict_of, weighed}
use Rattle.refusal.specs.declared.Refusal.{Refusal}
use Rattle.std.specs.Prelude.{Result, Ok, Err}
use Rattle.truth.proofs.Answers.{same_ok}

module _ (c : Campaign) (kept : sound c ≡ true) where
  pub not_both : 1 ≤ c.records → accepts c ≡ true → rejects c ≡ true → ⊥
  not_both some a r =
      let k = kept_from c (holds kept) in
      let row = censored_row c k some in
      never_both c.failures (censored c) c.exposure c.standard row.from row.to row.high (ltb-true _ _ r) (ltb-true _ _ a)

  pub only_verdict : (v : Verdict) → IsVerdict c v → v ≡ verdict_of c
  only_verdict (Reject x) (some, r, e) =
      rw (ne_eqb c.records 0 (λ z. omega arith), r, no (accepts c) (λ a. not_both some (is_true (accepts c) a) r)) (ap Reject e)
  only_verdict (Accept y) (some, a, e) =
      rw (ne_eqb c.records 0 (λ z. omega arith), a, no (rejects c) (λ r. not_both some a (is_true (rejects c) r))) (ap Accept e)
  only_verdict (Continue x y) (some, r, a, d, e) = rw (ne_eqb c.records 0 (λ z. omega arith), r, a, d, e)
  only_verdict NoRecord e = rw e

  -- and the verdict that is computed is allowed
  weighs : 1 ≤ c.records → (r a : Bool) → rejects c ≡ r → accepts c ≡ a
      → IsVerdict c (cond (r && not a) (Reject (lower_rate c)) (cond (a && not r) (Accept (upper_rate c)) (Continue (lower_rate c) (upper_rate c))))
  weighs some true true r a = absurd (not_both some a r)
  weighs some true false r a = (some, r, refl)
  weighs some false true r a = (some, a, refl)
  weighs some false false r a = (some, r, a, refl, refl)

  is_verdict : (b : Bool) → eqb c.records 0 ≡ b → IsVerdict c (cond b NoRecord (weighed c))
  is_verdict true e = eqb-true _ _ e
  is_verdict false e = let some : ¬ (c.records ≡ 0) = eqb-false _ _ e in weighs (omega arith) (rejects c) (accepts c) refl refl

  pub given : (v : Verdict) → judging c ≡ Ok v → IsVerdict c v
  unfolding judging
  given v e = let f : verdict_of c ≡ v = same_ok (rw kept at e) in rw (← f) (is_verdict (eqb c.records 0) refl)

  pub gives : (v : Verdict) → IsVerdict c v → judging c ≡ Ok v
  unfolding judging
  gives v is = rw kept (ap Ok (sym (only_verdict v is)))

pub only : (c : Campaign) (a : Result Verdict Refusal) → Judges c a → a ≡ judging c
unfolding judging
only c (Ok v) (kept, is) = rw kept (ap Ok (only_verdict c kept v is))
only c (Err r) (broken, e) = rw (broken, e)
