-- What a customer may rely on later (document 02, [6]), of a campaign that keeps document 01's relations and has a
-- record: which verdicts stay when the standard is changed afterwards, or when one more record comes in. After a failed
-- record an accept need not stay: the slate has the request's numbers (demands_slate: Shown).  The proof: a shorter q
-- lowers u(N*)·q, a longer one raises l(N)·q, and neither moves a rate; a record without failure after one leaves N*
-- and raises T. Accept and reject never both hold, since the rows lie apart (verdict: Only). Assumes nothing.
use mathlib.Core.Path.{◌≡◌, refl}
use mathlib.Core.Bool.{Bool, false, true}
use Prim.Native.Nat.{ℕ, ◌+◌, ◌*◌, ◌≤◌, ◌<◌}
use native.Mathlib.Nat.{mul-le-mul_left}
use native.Mathlib.Omega.{arith}
use lib.Dec.{T, leb→le}
use lib.Ieee.{Float}
use lib.Ieee.Fits.{and_l, and_r}
use borrow.Author.Tests.{lt-ltb, ltb-true, ne_eqb}
use Rattle.poisson.specs.Rows.{million}
use Rattle.poisson.specs.Tables.{l, u}
use Rattle.truth.proofs.Laws.{holds, is_true, true≢false}
use Rattle.record_end.specs.declared.Outcome.{Outcome}
use Rattle.campaign_state.specs.declared.Campaign.{Campaign}
use Rattle.campaign_state.specs.Answers.{entering}
use Rattle.campaign_state.specs.State.{censored, entered, sound, standard_in_range}
use Rattle.campaign_state.proofs.Answered.{entered_from}
use Rattle.campaign_state.proofs.Keeping.{entering_sound}
use Rattle.campaign_state.proofs.Relations.{kept_from, sound_from}
use Rattle.campaign_verdict.specs.declared.Verdict.TheVariants.{Accept, Reject}
use Rattle.campaign_verdict.specs.Answers.{judging}
use Rattle.campaign_verdict.specs.Figures.{accepts, rejects, upper_rate}
use Rattle.campaign_verdict.proofs.Only.{given, gives, not_both}
use Rattle.std.specs.Prelude.{Ok}

-- ---- the statement
-- the campaign at another standard
abbrev pub at_standard : ℕ → Campaign → Campaign
at_standard q c = record { standard = q; records = c.records; failures = c.failures; exposure = c.exposure; failed = c.failed }

pub record Stays (c : Campaign) : Type 0 where
  -- accepted at q stays accepted at every shorter q in range, with the same rate
  pub accepted_shorter : (x : Float) (q : ℕ) → T (standard_in_range q) → q ≤ c.standard → judging c ≡ Ok (Accept x) → judging (at_standard q c) ≡ Ok (Accept x)
  -- rejected at q stays rejected at every longer one, with the same rate
  pub rejected_longer : (x : Float) (q : ℕ) → T (standard_in_range q) → c.standard ≤ q → judging c ≡ Ok (Reject x) → judging (at_standard q c) ≡ Ok (Reject x)
  -- if the last record did not fail and the verdict is accept, one more record without failure, if taken, leaves it
  -- accept, with the upper rate of then
  pub accepted_on : (x : Float) (o : Outcome) (d : Campaign) → c.failed ≡ false → judging c ≡ Ok (Accept x) → o.failed ≡ false → entering c o ≡ Ok d
      → judging d ≡ Ok (Accept (upper_rate d))
  -- accept and reject never both hold
  pub never_both : accepts c ≡ true → rejects c ≡ true → ⊥

-- ---- the proof
module _ (c : Campaign) (kept : sound c ≡ true) (some : 1 ≤ c.records) where
  sound_at : (q : ℕ) → T (standard_in_range q) → sound (at_standard q c) ≡ true
  sound_at q t =
      let k = kept_from c (holds kept) in
      is_true _
      (sound_from (at_standard q c)
      (record {
        standard_low = search (and_l, leb→le);
        standard_high = search (and_r, leb→le);
        records = k.records;
        failures_rows = k.failures_rows;
        failures_records = k.failures_records;
        exposure_low = k.exposure_low;
        exposure_high = k.exposure_high;
        failed = k.failed;
        unfailed = k.unfailed;
        empty = k.empty;
        full = k.full;
      }))

  -- N* stays where neither the last record failed nor the new one
  same_count : (t : ℕ) → c.failed ≡ false → censored (entered c false t) ≡ censored c
  unfolding censored
  same_count t f = rw (f, ne_eqb c.records 0 (λ e. omega arith), ne_eqb (c.records + 1) 0 (λ e. omega arith))

  on : (x : Float) (f : Bool) (t : ℕ) → c.failed ≡ false → judging c ≡ Ok (Accept x) → f ≡ false → sound (entered c f t) ≡ true
      → judging (entered c f t) ≡ Ok (Accept (upper_rate (entered c f t)))
  on x true t last e new s = absurd (true≢false new)
  on x false t last e new s =
      let v = given c kept (Accept x) e in
      let a = ltb-true (u (censored c) * c.standard) (c.exposure * million) v.1 in
      let b : u (censored (entered c false t)) * c.standard < (c.exposure + t) * million = rw (same_count t last) (omega arith) in
      gives (entered c false t) s (Accept _) (omega arith, lt-ltb _ _ b, refl)

  pub stays : Stays c
  unfolding censored
  stays =
      record {
        accepted_shorter =
            λ x q t less e.
            let v = given c kept (Accept x) e in
            let a = ltb-true (u (censored c) * c.standard) (c.exposure * million) v.1 in
            let b : u (censored c) * q < c.exposure * million = omega (arith, mul-le-mul_left (u (censored c)) less) in
            gives (at_standard q c) (sound_at q t) (Accept x) (some, lt-ltb _ _ b, v.2);
        rejected_longer =
            λ x q t more e.
            let v = given c kept (Reject x) e in
            let r = ltb-true (c.exposure * million) (l c.failures * c.standard) v.1 in
            let b : c.exposure * million < l c.failures * q = omega (arith, mul-le-mul_left (l c.failures) more) in
            gives (at_standard q c) (sound_at q t) (Reject x) (some, lt-ltb _ _ b, v.2);
        accepted_on =
            λ x o d last e new taken.
            let after = (entered_from c o d taken).room.after in
            rw after (on x o.failed o.exposure last e new (is_true _ (rw after at (entering_sound c o d taken))));
        never_both = not_both c kept some;
      }
