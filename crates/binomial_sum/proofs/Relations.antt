-- The test of a sum's relations and the facts that it finds are the same thing; and what a sound record brings to a
-- sum: no more groups than timed samples, and no more of these than fit. Assumes nothing.
use mathlib.Core.Path.{◌≡◌}
use mathlib.Core.Bool.{false, true}
use mathlib.Core.Logic.{◌⊎◌, inl, inr}
use Prim.Native.Nat.{◌+◌, ◌≤◌}
use native.Mathlib.Omega.{arith}
use borrow.Author.Tests.{ltb-false}
use lib.Dec.{T, leb, leb→le, le→leb}
use lib.Ieee.Fits.{and_i, and_l, and_r}
use Rattle.sample_items.specs.Limits.{step_in_range}
use Rattle.record_state.specs.State as reading
use Rattle.record_state.specs.State.{too_short}
use Rattle.record_state.specs.declared.Record.{Record}
use Rattle.record_state.proofs.Bounds.{small}
use Rattle.record_state.proofs.Relations as kept
use Rattle.record_state.proofs.Relations.{Failure, None}
use Rattle.binomial_sum.specs.declared.Sum.{Sum}
use Rattle.binomial_sum.specs.Kept.{Kept}
use Rattle.binomial_sum.specs.State.{most_failures, most_samples, sound, timed}

module _ (s : Sum) where
  pub kept_from : T (sound s) → Kept s
  unfolding sound
  kept_from t =
      record {
        step_low = search (and_l, and_r, leb→le);
        step-high = search (and_l, and_r, leb→le);
        failures = search (and_l, and_r, leb→le);
        samples = search (and_l, and_r, leb→le);
        within = search (and_l, and_r, leb→le);
      }

  pub sound_from : Kept s → T (sound s)
  unfolding sound
  sound_from k =
      let d : T (step_in_range s.step) = and_i (leb 1 s.step) (leb s.step 10000) (le→leb _ _ k.step_low) (le→leb _ _ k.step-high) in
      let n : T (leb s.failures most_failures) = le→leb _ _ k.failures in
      let p : T (leb s.samples most_samples) = le→leb _ _ k.samples in
      let w : T (leb s.failures s.samples) = le→leb _ _ k.within in
      search (and_i) depth 8

-- what a record brings
pub record Brings (r : Record) : Type 0 where
  pub some : 2 ≤ timed r
  pub few : timed r ≤ 11000001
  pub groups : r.groups ≤ timed r

pub brings : (r : Record) → reading.sound r ≡ true → too_short r ≡ false → Brings r
brings r s l =
    let k = kept.kept_from r s in
    let long : r.items.ramp + 2 ≤ r.n = ltb-false r.n (r.items.ramp + 2) l in
    record {
      some = omega arith;
      few = omega (arith, k.length, small k);
      groups = go k.figures;
    }
  where
    go : None r ⊎ Failure r → r.groups ≤ timed r
    go (inl n) = omega (arith, n.groups)
    go (inr f) = omega (arith, f.crossings, f.within, (kept.kept_from r s).counts)
