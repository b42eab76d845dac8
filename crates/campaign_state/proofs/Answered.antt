-- What an answer tells of the question: a record that was taken met every test on the way. Assumes nothing.
use mathlib.Core.Path.{◌≡◌, refl}
use mathlib.Core.Bool.{Bool, cond, false, not, true}
use Prim.Native.Nat.{ℕ, ◌≤◌}
use lib.Dec.{T, eqb}
use borrow.Author.Tests.{eqb-false, leb-true, not-false}
use Rattle.refusal.specs.declared.Refusal.{Refusal}
use Rattle.refusal.specs.declared.Refusal.TheVariants.{BrokenState, CampaignFull, Item, RowsUsedUp}
use Rattle.sample_items.specs.Limits.{longest_time}
use Rattle.truth.proofs.Laws.{and-true, holds, impossible, past}
use Rattle.record_end.specs.declared.Outcome.{Outcome}
use Rattle.campaign_state.specs.declared.Campaign.{Campaign}
use Rattle.campaign_state.specs.Answers.{entering, opened, outcome_kept, taken}
use Rattle.campaign_state.specs.State.{empty, entered, most_records, sound, standard_in_range}
use Rattle.std.specs.Prelude.{Ok, Err}
use Rattle.truth.proofs.Answers.{err_not_ok}

-- 5 and 6 were not given
pub record Room (c : Campaign) (f : Bool) (t : ℕ) (d : Campaign) : Type 0 where
  pub records : ¬ (c.records ≡ most_records)
  pub failures : ¬ (c.failures ≡ 64)
  pub after : d ≡ entered c f t

pub taken_room : (c : Campaign) (f : Bool) (t : ℕ) (d : Campaign) → taken c f t ≡ Ok d → Room c f t d
taken_room c f t d e =
    let p = past (eqb c.records most_records) err_not_ok e in
    let q = past (eqb c.failures 64) err_not_ok p.1 in
    record { records = eqb-false _ _ p.0; failures = eqb-false _ _ q.0; after = cc }

pub record Entered (c : Campaign) (o : Outcome) (d : Campaign) : Type 0 where
  pub sound : T (sound c)
  pub low : 1 ≤ o.exposure
  pub high : o.exposure ≤ longest_time
  pub room : Room c o.failed o.exposure d

pub entered_from : (c : Campaign) (o : Outcome) (d : Campaign) → entering c o ≡ Ok d → Entered c o d
unfolding entering
entered_from c o d e =
    let p = past (not (sound c)) err_not_ok e in
    let q = past (not (outcome_kept o)) err_not_ok p.1 in
    let k = and-true _ _ (not-false _ q.0) in
    record {
      sound = holds {b = sound c} (not-false _ p.0);
      low = leb-true _ _ k.0;
      high = leb-true _ _ k.1;
      room = taken_room c o.failed o.exposure d q.1;
    }

pub opened_from : (q : ℕ) (d : Campaign) → opened q ≡ Ok d → T (standard_in_range q) × (d ≡ empty q)
opened_from q d e = go (standard_in_range q) e
  where
    go : (b : Bool) → cond b (Ok (empty q)) (Err (Item 5)) ≡ Ok d → T b × (d ≡ empty q)
    go true e = (tt, cc)
    go false e = absurd (err_not_ok e)
