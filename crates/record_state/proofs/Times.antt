-- What closing a record may rely on: a sound state with at least R + 2 samples has its full time, and its first
-- failure's time where it failed, from 1 ms to the longest timed length. A place at most n - 1 is at most
-- floor(10,000,000 / D) samples past R. Assumes nothing.
use Prim.Native.Nat.{ℕ, ◌+◌, ◌-◌, ◌*◌, ◌/◌, ◌≤◌}
use mathlib.Core.Path.{◌≡◌, sym}
use mathlib.Core.Bool.{true, false}
use mathlib.Core.Logic.{◌⊎◌, inl, inr}
use native.Mathlib.Nat.{mul-le-mul}
use native.Mathlib.Omega.{arith}
use borrow.Author.Tests.{ltb-false, eq-eqb}
use Rattle.record_state.specs.declared.Record.{Record}
use Rattle.sample_items.specs.Limits.{longest_time}
use Rattle.record_state.specs.State.{sound, failed, first_time, whole_time, too_short}
use Rattle.truth.proofs.Laws.{true≢false}
use Rattle.sample_items.proofs.Ranges.{in_time}
use Rattle.record_state.proofs.Relations.{None, Failure, kept_from}
use Rattle.record_state.proofs.Bounds.{items_of}

spanned : (k D : ℕ) → 1 ≤ k → 1 ≤ D → k ≤ longest_time / D → (1 ≤ k * D) × (k * D ≤ longest_time)
spanned k D h d l = (mul-le-mul {n₁ = 1} {m₁ = 1} {n₂ = k} {m₂ = D} h d, in_time k D l)

module _ (r : Record) (s : sound r ≡ true) where
  pub whole_time_lem : too_short r ≡ false → (1 ≤ whole_time r) × (whole_time r ≤ longest_time)
  whole_time_lem e =
      let k = kept_from r s in
      spanned (r.n - 1 - r.items.ramp) r.items.step (omega (arith, ltb-false r.n (r.items.ramp + 2) e)) (items_of k).step_low (omega (arith, k.length))

  pub failed_failure : failed r ≡ true → Failure r
  failed_failure e = go (kept_from r s).figures
    where
      go : None r ⊎ Failure r → Failure r
      go (inl n) = absurd (true≢false (sym (rw (eq-eqb r.first 0 n.first) at e)))
      go (inr f) = f

  pub first_time_lem : failed r ≡ true → (1 ≤ first_time r) × (first_time r ≤ longest_time)
  first_time_lem e =
      let k = kept_from r s in
      let f = failed_failure e in
      spanned (r.first - r.items.ramp) r.items.step (omega (arith, f.above)) (items_of k).step_low (omega (arith, k.length, f.ordered, f.below))
