-- What an answer tells of the question, and back: a record that was added met every test on the way, and one that meets
-- them all is added. So what is handed out keeps the relations, and a sum grown by adding is never refused with 8.
-- Assumes nothing.
use mathlib.Core.Path.{◌≡◌, ap, sym}
use mathlib.Core.Bool.{Bool, cond, false, not, true}
use Prim.Native.Nat.{ℕ, ◌+◌, ◌≤◌}
use native.Mathlib.Omega.{arith}
use borrow.Author.Tests.{eq-eqb, eqb-true, le-ltb, ltb-false, not-false}
use lib.Dec.{T, eqb, leb→le, ltb}
use lib.Ieee.Fits.{and_l, and_r}
use Rattle.truth.proofs.Laws.{holds, impossible, is_true, neither, past}
use Rattle.sample_items.specs.Limits.{step_in_range}
use Rattle.refusal.specs.declared.Refusal.{Refusal}
use Rattle.refusal.specs.declared.Refusal.TheVariants.{Item}
use Rattle.record_state.specs.State as reading
use Rattle.record_state.specs.State.{too_short}
use Rattle.record_state.specs.declared.Record.{Record}
use Rattle.binomial_sum.specs.declared.Sum.{Sum}
use Rattle.binomial_sum.specs.Answers.{adding, opened}
use Rattle.binomial_sum.specs.Kept.{Kept}
use Rattle.binomial_sum.specs.State.{empty, grown, most_failures, most_samples, sound, timed, would_pass}
use Rattle.binomial_sum.proofs.Relations.{brings, kept_from, sound_from}
use Rattle.std.specs.Prelude.{Ok, Err}
use Rattle.truth.proofs.Answers.{err_not_ok}

-- what adding a record that is taken has met, and what comes out
pub record Added (s : Sum) (r : Record) (t : Sum) : Type 0 where
  pub sum : T (sound s)
  pub record_sound : reading.sound r ≡ true
  pub long : too_short r ≡ false
  pub step : r.items.step ≡ s.step
  pub failures : s.failures + r.groups ≤ most_failures
  pub samples : s.samples + timed r ≤ most_samples
  pub after : t ≡ grown s r.groups (timed r)

pub added_from : (s : Sum) (r : Record) (t : Sum) → adding s r ≡ Ok t → Added s r t
unfolding adding
added_from s r t e =
    let o = past (not (sound s)) err_not_ok e in
    let p = past (not (reading.sound r)) err_not_ok o.1 in
    let q = past (too_short r) err_not_ok p.1 in
    let u = past (not (eqb r.items.step s.step)) err_not_ok q.1 in
    let v = past (would_pass s r.groups (timed r)) err_not_ok u.1 in
    let w = neither (ltb most_failures (s.failures + r.groups)) (ltb most_samples (s.samples + timed r)) v.0 in
    record {
      sum = holds {b = sound s} (not-false _ o.0);
      record_sound = not-false _ p.0;
      long = q.0;
      step = eqb-true _ _ (not-false _ u.0);
      failures = ltb-false _ _ w.0;
      samples = ltb-false _ _ w.1;
      after = cc v.1;
    }

pub added_back : (s : Sum) (r : Record) (t : Sum) → Added s r t → adding s r ≡ Ok t
unfolding adding
added_back s r t a =
    rw (is_true (sound s) a.sum, a.record_sound, a.long, eq-eqb _ _ a.step, le-ltb _ _ a.failures, le-ltb _ _ a.samples) (ap Ok (sym a.after))

-- ---- what is handed out keeps the relations
pub opened_from : (D : ℕ) (t : Sum) → opened D ≡ Ok t → T (step_in_range D) × (t ≡ empty D)
opened_from D t e = go (step_in_range D) e
  where
    go : (b : Bool) → cond b (Ok (empty D)) (Err (Item 1)) ≡ Ok t → T b × (t ≡ empty D)
    go true e = (tt, cc)
    go false e = absurd (err_not_ok e)

empty_kept : (D : ℕ) → T (step_in_range D) → Kept (empty D)
empty_kept D t =
    record {
      step_low = search (and_l, leb→le);
      step-high = search (and_r, leb→le);
      failures = omega arith;
      samples = omega arith;
      within = omega arith;
    }

pub opened_sound : (D : ℕ) (t : Sum) → opened D ≡ Ok t → T (sound t)
opened_sound D t e = let o = opened_from D t e in sound_from t (rw o.1 (empty_kept D o.0))

pub added_sound : {s : Sum} {r : Record} {t : Sum} → Added s r t → T (sound t)
added_sound {s} {r} {t} a =
    let k = kept_from s a.sum in
    let b = brings r a.record_sound a.long in
    let g : Kept (grown s r.groups (timed r)) =
    record { step_low = k.step_low; step-high = k.step-high; failures = a.failures; samples = a.samples; within = omega (arith, k.within, b.groups) } in
    sound_from t (rw a.after g)

pub adding_sound : (s : Sum) (r : Record) (t : Sum) → adding s r ≡ Ok t → T (sound t)
adding_sound s r t e = added_sound (added_from s r t e)
