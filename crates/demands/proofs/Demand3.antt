-- Demand 3: what accept and reject say of the standard, with exact chances.  Of a campaign that keeps document 01's
-- relations and has a record, with N failures, the censored count N* and T ms of exposure at a standard of one failure
-- in q ms, a Poisson stream at the standard rate expects T/q failures.  The proof reads the verdict's two tests off the
-- answer (verdict: Only); what they say of the chances is said by the rows (poisson: Exposure). Assumes nothing.
use mathlib.Core.Path.{◌≡◌, refl}
use mathlib.Core.Bool.{Bool, cond, false, not, true}
use Prim.Native.Nat.{ℕ, zero, suc, ◌*◌, ◌≤◌, ◌<◌}
use native.Mathlib.Omega.{arith}
use lib.Dec.{eqb}
use lib.Ieee.{Float}
use borrow.Author.Tests.{lt-ltb, ltb-true, ne_eqb}
use Rattle.poisson.specs.Chances.{FewerRarely, OrMoreRarely}
use Rattle.poisson.specs.Fractions.{Fraction, over}
use Rattle.poisson.specs.Rows.{million, millionth_less, millionth_more}
use Rattle.poisson.specs.Tables.{l}
use Rattle.poisson.proofs.Exposure.{accept_only_if, accept_whenever, none_or_more, reject_only_if, reject_whenever}
use Rattle.campaign_state.specs.declared.Campaign.{Campaign}
use Rattle.campaign_verdict.specs.declared.Verdict.{Verdict}
use Rattle.campaign_verdict.specs.declared.Verdict.TheVariants.{Accept, Continue, NoRecord, Reject}
use Rattle.campaign_verdict.specs.declared.Rates.{Rates}
use Rattle.campaign_verdict.specs.Answers.{judging, rating}
use Rattle.campaign_verdict.specs.Figures.{IsVerdict, lower_rate, rates_of, three, upper_rate}
use Rattle.campaign_verdict.proofs.Only.{given, gives}
use Rattle.campaign_state.specs.State.{censored, sound}
use Rattle.truth.proofs.Laws.{holds}
use Rattle.campaign_state.proofs.Relations.{censored_row, kept_from}
use Rattle.std.specs.Prelude.{Some, None, Ok}
use Rattle.truth.proofs.Answers.{none_not_some, same_ok, same_some}

-- ---- the statement
-- the failures that a stream at the standard rate expects over the campaign's exposure
abbrev pub expected : Campaign → Fraction
expected c = over c.exposure c.standard

-- the verdict that is given, at whatever rate
abbrev pub AcceptGiven : Campaign → Type 0
AcceptGiven c = (r : Float) × (judging c ≡ Ok (Accept r))

abbrev pub RejectGiven : Campaign → Type 0
RejectGiven c = (r : Float) × (judging c ≡ Ok (Reject r))

pub record Demand3 (c : Campaign) : Type 0 where
  -- accept only if fewer failures than the censored count would be shown less than once in 40
  pub accept_only_if : AcceptGiven c → FewerRarely (censored c) (expected c)
  -- and whenever that holds with one millionth of an expected failure less exposure
  pub accept_whenever : FewerRarely (censored c) (millionth_less (expected c)) → AcceptGiven c
  -- reject only if the plain count or more would be shown at most once in 40
  pub reject_only_if : RejectGiven c → OrMoreRarely c.failures (expected c)
  -- and whenever that holds with one millionth more
  pub reject_whenever : OrMoreRarely c.failures (millionth_more (expected c)) → RejectGiven c

-- the rates that a verdict carries, among the three rates
abbrev pub Carries : Verdict → Rates → Type 0
Carries (Accept x) r = x ≡ r.upper
Carries (Reject x) r = x ≡ r.lower
Carries (Continue x y) r = (x ≡ r.lower) × (y ≡ r.upper)
Carries NoRecord r = Unit {0}

pub RatesCarried : Campaign → Type 0
RatesCarried c = (v : Verdict) (r : Rates) → judging c ≡ Ok v → rating c ≡ Ok (Some r) → Carries v r

-- ---- the proof
module _ (c : Campaign) (kept : sound c ≡ true) (some : 1 ≤ c.records) where
  rejects_when : (n : ℕ) → n ≡ c.failures → OrMoreRarely n (millionth_more (expected c)) → c.exposure * million < l n * c.standard
  rejects_when zero e h = absurd (none_or_more (millionth_more (expected c)) h)
  rejects_when (suc i) e h =
      let k = kept_from c (holds kept) in
      reject_whenever (suc i) c.exposure c.standard (omega arith) (omega arith) k.standard_low h

  rejects_if : (n : ℕ) → n ≤ 64 → c.exposure * million < l n * c.standard → OrMoreRarely n (expected c)
  unfolding l
  rejects_if zero e h = absurd (omega arith)
  rejects_if (suc i) e h = reject_only_if (suc i) c.exposure c.standard (omega arith) e (kept_from c (holds kept)).standard_low h

  pub demand_3 : Demand3 c
  demand_3 =
      let k = kept_from c (holds kept) in
      let row = censored_row c k some in
      record {
        accept_only_if =
            λ g.
            accept_only_if (censored c) c.exposure c.standard row.low row.high k.standard_low
            (ltb-true _ _ (given c kept (Accept g.0) g.1).1);
        accept_whenever =
            λ h.
            let a = lt-ltb _ _ (accept_whenever (censored c) c.exposure c.standard row.low row.high k.standard_low h) in
            (upper_rate c, gives c kept (Accept (upper_rate c)) (some, a, refl));
        reject_only_if =
            λ g.
            rejects_if c.failures k.failures_rows
            (ltb-true _ _ (given c kept (Reject g.0) g.1).1);
        reject_whenever = λ h. (lower_rate c, gives c kept (Reject (lower_rate c)) (some, lt-ltb _ _ (rejects_when c.failures refl h), refl));
      }

-- with a record the rates are the three
three_are : (c : Campaign) → 1 ≤ c.records → rates_of c ≡ three c
three_are c some = rw (ne_eqb c.records 0 (λ e. omega arith))

carried : (c : Campaign) (v : Verdict) → IsVerdict c v → Carries v (rates_of c)
carried c (Accept x) (some, a, e) = rw (three_are c some) e
carried c (Reject x) (some, r, e) = rw (three_are c some) e
carried c (Continue x y) (some, r, a, d, e) = rw (three_are c some) (d, e)
carried c NoRecord e = tt

-- rates that are there are those that were picked
picked : (none : Bool) (x : Rates) {r : Rates} → cond (not none) (Some x) None ≡ Some r → x ≡ r
picked false x e = same_some e
picked true x e = absurd (none_not_some e)

pub rates_carried : (c : Campaign) → sound c ≡ true → RatesCarried c
unfolding RatesCarried rating
rates_carried c kept v r j q =
    let r-is : rates_of c ≡ r = picked (eqb c.records 0) (rates_of c) (same_ok (rw kept at q)) in
    rw (← r-is) (carried c v (given c kept v j))
