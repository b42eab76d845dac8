-- The test of the relations and the facts that it finds are the same thing; and what the facts say of the censored
-- count. Assumes nothing.
use mathlib.Core.Path.{◌≡◌}
use mathlib.Core.Bool.{Bool, cond, false, not, true, ◌&&◌, ◌||◌}
use Prim.Native.Nat.{ℕ, suc, ◌+◌, ◌-◌, ◌*◌, ◌≤◌, zero-le}
use native.Mathlib.Nat.{le_refl}
use native.Mathlib.Omega.{arith}
use borrow.Author.Tests.{ne_eqb}
use lib.Dec.{T, eqb, eqb_refl, eqb→eq, leb, leb→le, le→leb, ltb, ltb→lt, lt→ltb}
use lib.Ieee.Fits.{and_i, and_l, and_r}
use Rattle.truth.proofs.Laws.{only_if, only_if_i}
use Rattle.campaign_state.specs.declared.Campaign.{Campaign}
use Rattle.campaign_state.specs.State.{censored, empty_kept, exposure_kept, failed_kept, failures_kept, full_kept, records_kept, sound, standard_kept, unfailed_kept}
use Rattle.campaign_state.specs.Kept.{Kept}

-- "n = m only if b"
equal_only_if : (n m : ℕ) (b : Bool) → T (not (eqb n m) || b) → n ≡ m → T b
equal_only_if n m b t e = only_if (eqb n m) b t (rw e (eqb_refl m))

module _ (c : Campaign) where
  pub kept_from : T (sound c) → Kept c
  unfolding sound
  kept_from t =
      let f : T (failed_kept c) = search (and_l, and_r) in
      let n : T (unfailed_kept c) = search (and_l, and_r) in
      let e : T (empty_kept c) = search (and_l, and_r) depth 8 in
      let z : T (full_kept c) = search (and_l, and_r) depth 8 in
      record {
        standard_low = search (and_l, and_r, leb→le);
        standard_high = search (and_l, and_r, leb→le);
        records = leb→le _ _ (and_l (records_kept c) _ t);
        failures_rows = search (and_l, and_r, leb→le);
        failures_records = search (and_l, and_r, leb→le);
        exposure_low = search (and_l, and_r, leb→le);
        exposure_high = search (and_l, and_r, leb→le);
        failed = λ h. leb→le _ _ (only_if c.failed _ f h);
        unfailed = λ h k. ltb→lt _ _ (only_if (not c.failed && leb 1 c.records) _ n (and_i (not c.failed) (leb 1 c.records) h (le→leb _ _ k)));
        empty = equal_only_if _ _ _ e;
        full = equal_only_if _ _ _ z;
      }

  pub sound_from : Kept c → T (sound c)
  unfolding sound
  sound_from k =
      let q : T (standard_kept c) = and_i (leb 1 c.standard) (leb c.standard 100000000000) (le→leb _ _ k.standard_low) (le→leb _ _ k.standard_high) in
      let m : T (records_kept c) = le→leb _ _ k.records in
      let n : T (failures_kept c) = and_i (leb c.failures 64) (leb c.failures c.records) (le→leb _ _ k.failures_rows) (le→leb _ _ k.failures_records) in
      let t : T (exposure_kept c) = and_i (leb c.records c.exposure) (leb c.exposure (c.records * 10000000)) (le→leb _ _ k.exposure_low) (le→leb _ _ k.exposure_high) in
      let f : T (failed_kept c) = only_if_i c.failed (leb 1 c.failures) (λ h. le→leb _ _ (k.failed h)) in
      let u : T (unfailed_kept c) =
      only_if_i (not c.failed && leb 1 c.records) (ltb c.failures c.records)
      (λ h. lt→ltb _ _ (k.unfailed (and_l (not c.failed) _ h) (leb→le _ _ (and_r (not c.failed) _ h))))
      in
      let e : T (empty_kept c) = only_if_i (eqb c.records 0) (not c.failed) (λ h. k.empty (eqb→eq _ _ h)) in
      let z : T (full_kept c) = only_if_i (eqb c.failures 64) c.failed (λ h. k.full (eqb→eq _ _ h)) in
      search (and_i) depth 12

-- a count of which the last record, where it failed, has one
pub before_fits : (b : Bool) (n : ℕ) → (T b → 1 ≤ n) → cond b 1 0 ≤ n
before_fits true n f = f tt
before_fits false n f = zero-le

one_more : (b : Bool) (n : ℕ) → (T b → 1 ≤ n) → n - cond b 1 0 + 1 ≡ cond b n (n + 1)
one_more true n f = let h = f tt in omega arith
one_more false n f = omega arith

pub record Row (n m : ℕ) : Type 0 where
  pub low : 1 ≤ m
  pub high : m ≤ 64
  pub from : n ≤ m
  pub to : m ≤ suc n

row : (b : Bool) (n : ℕ) → (T b → 1 ≤ n) → n ≤ 64 → (n ≡ 64 → T b) → Row n (cond b n (n + 1))
row true n f h z = record { low = f tt; high = h; from = le_refl n; to = omega arith }
row false n f h z = let k : ¬ (n ≡ 64) = z in record { low = omega arith; high = omega arith; from = omega arith; to = omega arith }

-- with a record N* is N or N + 1, and a row of the table
pub censored_row : (c : Campaign) → Kept c → 1 ≤ c.records → Row c.failures (censored c)
unfolding censored
censored_row c k some =
    rw (ne_eqb c.records 0 (λ e. omega arith), one_more c.failed c.failures k.failed)
    (row c.failed c.failures k.failed k.failures_rows k.full)
