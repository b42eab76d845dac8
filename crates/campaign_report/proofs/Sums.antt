-- The sums on their way through the campaigns: what was added up and what is left are the whole, and each is small.
-- Assumes nothing.
use Prim.Native.Nat.{ℕ, ◌+◌, ◌*◌, ◌≤◌}
use mathlib.Core.Path.{◌≡◌, refl, ap, ◌∙◌}
use mathlib.Core.List.{List, [], ◌∷◌}
use native.Mathlib.Omega.{arith}
use Rattle.campaign_state.specs.declared.Campaign.{Campaign}
use Rattle.campaign_state.specs.Kept.{Kept}
use Rattle.campaign_report.specs.Report.{blocks, sum_of, total_of}

pub record Summed (cs rest : List Campaign) (i records failures exposure billed : ℕ) : Type 0 where
  pub all_records : records + sum_of (λ c. c.records) rest ≡ sum_of (λ c. c.records) cs
  pub all_failures : failures + sum_of (λ c. c.failures) rest ≡ sum_of (λ c. c.failures) cs
  pub all_exposure : exposure + sum_of (λ c. c.exposure) rest ≡ sum_of (λ c. c.exposure) cs
  pub all_billed : billed + sum_of (λ c. blocks c.failures) rest ≡ sum_of (λ c. blocks c.failures) cs
  pub few_records : records ≤ 100000 * i
  pub few_failures : failures ≤ 64 * i
  pub few_exposure : exposure ≤ 1000000000000 * i
  pub few_billed : billed ≤ 13 * i

pub start : (cs : List Campaign) → Summed cs cs 0 0 0 0 0
start cs =
    record {
      all_records = omega arith;
      all_failures = omega arith;
      all_exposure = omega arith;
      all_billed = omega arith;
      few_records = omega arith;
      few_failures = omega arith;
      few_exposure = omega arith;
      few_billed = omega arith;
    }

sum_next : (figure : Campaign → ℕ) (c : Campaign) (cs : List Campaign) → sum_of figure (c ∷ cs) ≡ figure c + sum_of figure cs
unfolding sum_of
sum_next figure c cs = refl

-- one figure more
more : (figure : Campaign → ℕ) {rest : List Campaign} {c : Campaign} {later : List Campaign} (sum : ℕ) {total : ℕ} → rest ≡ c ∷ later
    → sum + sum_of figure rest ≡ total → sum + figure c + sum_of figure later ≡ total
more figure {rest} {c} {later} sum e h = omega (arith, ap (sum_of figure) e ∙ sum_next figure c later)

module _ {cs : List Campaign} {i records failures exposure billed : ℕ} where
  pub on : {rest : List Campaign} {c : Campaign} {later : List Campaign} → rest ≡ c ∷ later → Kept c → Summed cs rest i records failures exposure billed
      → Summed cs later (i + 1) (records + c.records) (failures + c.failures) (exposure + c.exposure) (billed + blocks c.failures)
  on {c = c} e k s =
      record {
        all_records = more (λ c. c.records) records e s.all_records;
        all_failures = more (λ c. c.failures) failures e s.all_failures;
        all_exposure = more (λ c. c.exposure) exposure e s.all_exposure;
        all_billed = more (λ c. blocks c.failures) billed e s.all_billed;
        few_records = omega (arith, k.records, s.few_records);
        few_failures = omega (arith, k.failures_rows, s.few_failures);
        few_exposure = omega (arith, k.records, k.exposure_high, s.few_exposure);
        few_billed = omega (arith, k.failures_rows, s.few_billed);
      }

  pub ended : {rest : List Campaign} → rest ≡ [] → Summed cs rest i records failures exposure billed
      → record { records = records; failures = failures; exposure = exposure; blocks = billed } ≡ total_of cs
  unfolding sum_of
  ended e s =
      let m : records ≡ sum_of (λ c. c.records) cs = done _ s.all_records (ap (sum_of (λ c. c.records)) e) in
      let n : failures ≡ sum_of (λ c. c.failures) cs = done _ s.all_failures (ap (sum_of (λ c. c.failures)) e) in
      let t : exposure ≡ sum_of (λ c. c.exposure) cs = done _ s.all_exposure (ap (sum_of (λ c. c.exposure)) e) in
      let b : billed ≡ sum_of (λ c. blocks c.failures) cs = done _ s.all_billed (ap (sum_of (λ c. blocks c.failures)) e) in
      rw (m, n, t, b)
    where
      done : {sum : ℕ} (left : ℕ) {total : ℕ} → sum + left ≡ total → left ≡ 0 → sum ≡ total
      done left h z = omega arith
