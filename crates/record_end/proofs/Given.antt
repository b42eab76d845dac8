-- What a result that was given tells: the record was sound and long enough, and the exposure is from 1 ms to the
-- longest timed length. Assumes nothing.
use mathlib.Core.Path.{◌≡◌, refl}
use mathlib.Core.Bool.{Bool, cond, false, not, true}
use Prim.Native.Nat.{ℕ, ◌≤◌}
use borrow.Author.Tests.{not-false}
use Rattle.truth.proofs.Laws.{impossible, past}
use Rattle.refusal.specs.declared.Refusal.{Refusal}
use Rattle.refusal.specs.declared.Refusal.TheVariants.{BrokenState, TooShort}
use Rattle.record_state.proofs.Times.{first_time_lem, whole_time_lem}
use Rattle.sample_items.specs.Limits.{longest_time}
use Rattle.record_state.specs.State.{failed, first_time, sound, too_short, whole_time}
use Rattle.record_state.specs.declared.Record.{Record}
use Rattle.record_end.specs.declared.RecordResult.{RecordResult}
use Rattle.record_end.specs.Result.{ending, exposure_of, result_of}
use Rattle.std.specs.Prelude.{Ok, Err}
use Rattle.truth.proofs.Answers.{err_not_ok}

-- the exposure of a record that may be ended
pub exposure_bounds : (r : Record) → sound r ≡ true → too_short r ≡ false → (1 ≤ exposure_of r) × (exposure_of r ≤ longest_time)
exposure_bounds r s l = go (failed r) (first_time_lem r s)
  where
    go : (b : Bool) → (b ≡ true → (1 ≤ first_time r) × (first_time r ≤ longest_time)) → (1 ≤ cond b (first_time r) (whole_time r)) × (cond b (first_time r) (whole_time r) ≤ longest_time)
    go true f = f refl
    go false f = whole_time_lem r s l

pub record Comes (r : Record) (x : RecordResult) : Type 0 where
  pub sound : sound r ≡ true
  pub long : too_short r ≡ false
  pub is : x ≡ result_of r

pub given : (r : Record) (x : RecordResult) → ending r ≡ Ok x → Comes r x
unfolding ending
given r x e =
    let p = past (not (sound r)) err_not_ok e in
    let q = past (too_short r) err_not_ok p.1 in
    record { sound = not-false _ p.0; long = q.0; is = cc }

pub given_bounds : (r : Record) (x : RecordResult) → ending r ≡ Ok x → (1 ≤ x.exposure) × (x.exposure ≤ longest_time)
given_bounds r x e = let g = given r x e in rw g.is (exposure_bounds r g.sound g.long)
