-- What is handed out keeps document 01's relations: opening and entering do, so a campaign grown by them is never
-- refused with 8. Assumes nothing.
use mathlib.Core.Path.{◌≡◌}
use mathlib.Core.Bool.{Bool, false, true}
use Prim.Native.Nat.{ℕ, ◌≤◌, zero-le}
use native.Mathlib.Omega.{arith}
use lib.Dec.{T, leb→le}
use lib.Ieee.Fits.{and_l, and_r}
use Rattle.sample_items.specs.Limits.{longest_time}
use Rattle.record_end.specs.declared.Outcome.{Outcome}
use Rattle.campaign_state.specs.declared.Campaign.{Campaign}
use Rattle.campaign_state.specs.Answers.{entering, opened}
use Rattle.campaign_state.specs.Kept.{Kept}
use Rattle.campaign_state.specs.State.{empty, entered, sound, standard_in_range}
use Rattle.campaign_state.proofs.Answered.{Room, entered_from, opened_from}
use Rattle.campaign_state.proofs.Relations.{kept_from, sound_from}
use Rattle.std.specs.Prelude.{Ok}

empty_kept : (q : ℕ) → T (standard_in_range q) → Kept (empty q)
empty_kept q t =
    record {
      standard_low = search (and_l, leb→le);
      standard_high = search (and_r, leb→le);
      records = zero-le;
      failures_rows = zero-le;
      failures_records = zero-le;
      exposure_low = zero-le;
      exposure_high = zero-le;
      failed = λ h. absurd h;
      unfailed = λ h k. absurd (omega arith);
      empty = λ e. tt;
      full = λ e. absurd (omega arith);
    }

-- a record of 1 to 10,000,000 ms, where there is room for it
entered_kept : (c : Campaign) (f : Bool) (t : ℕ) → Kept c → ¬ (c.records ≡ 100000) → ¬ (c.failures ≡ 64) → 1 ≤ t → t ≤ longest_time → Kept (entered c f t)
entered_kept c true t k m n low high =
    record {
      standard_low = k.standard_low;
      standard_high = k.standard_high;
      records = omega arith;
      failures_rows = omega arith;
      failures_records = omega arith;
      exposure_low = omega arith;
      exposure_high = omega arith;
      failed = λ h. omega arith;
      unfailed = λ h e. absurd h;
      empty = λ e. absurd (omega arith);
      full = λ e. tt;
    }
entered_kept c false t k m n low high =
    record {
      standard_low = k.standard_low;
      standard_high = k.standard_high;
      records = omega arith;
      failures_rows = omega arith;
      failures_records = omega arith;
      exposure_low = omega arith;
      exposure_high = omega arith;
      failed = λ h. absurd h;
      unfailed = λ h e. omega arith;
      empty = λ e. absurd (omega arith);
      full = λ e. absurd (n e);
    }

room_kept : {c : Campaign} {f : Bool} {t : ℕ} {d : Campaign} → T (sound c) → Room c f t d → 1 ≤ t → t ≤ longest_time → T (sound d)
room_kept {c} {f} {t} {d} s o low high =
    sound_from d (rw o.after (entered_kept c f t (kept_from c s) o.records o.failures low high))

pub opened_sound : (q : ℕ) (d : Campaign) → opened q ≡ Ok d → T (sound d)
opened_sound q d e = let o = opened_from q d e in sound_from d (rw o.1 (empty_kept q o.0))

pub entering_sound : (c : Campaign) (o : Outcome) (d : Campaign) → entering c o ≡ Ok d → T (sound d)
entering_sound c o d e = let a = entered_from c o d e in room_kept a.sound a.room a.low a.high
