-- Arrays and states: what was written into an array is read back from it, and an array of other numbers holds no sound
-- state. Assumes nothing.
use Prim.Native.Nat.{ℕ}
use mathlib.Core.Path.{◌≡◌, refl}
use mathlib.Core.Bool.{Bool, cond, false, true}
use mathlib.Core.List.{List}
use borrow.Author.Tests.{eq-eqb, le-leb, leb-true}
use lib.Dec.{leb}
use lib.ListN.{length}
use Rattle.truth.proofs.Laws.{and-true}
use Rattle.sample_range.specs.Range.{sample_in_range}
use Rattle.record_state.proofs.Relations.{kept_from}
use Rattle.sample_items.specs.Limits.{item_outside}
use Rattle.record_state.specs.State as state
use Rattle.record_state.specs.declared.Record.{Record}
use Rattle.record_end.specs.declared.RecordResult.{RecordResult}
use Rattle.campaign_state.specs.State.{sound}
use Rattle.campaign_state.specs.declared.Campaign.{Campaign}
use Rattle.capi.specs.Numbers.{campaign_at, campaign_numbers, campaign_of, code_of, flag, highest_code, is_campaign}
use Rattle.capi.specs.Numbers.{is_record, no_campaign, of_campaign, of_record, of_result, record_numbers, record_of}
use Rattle.capi.specs.Numbers.{result_of}
use Rattle.capi.specs.Told.{campaign_kept, campaign_told, record_kept, record_told}
use Rattle.capi.proofs.Codes.{code_high, read_back}
use Rattle.refusal.specs.declared.Refusal.{Refusal}
use Rattle.std.specs.Prelude.{Result, Ok}

-- ---- other numbers are refused by 8
pub other_record : (s : List ℕ) → is_record s ≡ false → state.sound (record_of s) ≡ false
unfolding record_of state.sound item_outside
other_record s e = rw e

pub other_campaign : (s : List ℕ) → is_campaign s ≡ false → sound (campaign_of s) ≡ false
unfolding campaign_of sound
other_campaign s e = rw e

-- ---- there and back
-- the array of a sound record holds that record
pub record_back : (r : Record) → state.sound r ≡ true → record_of (of_record r) ≡ r
unfolding record_of
record_back r h =
    let g = and-true (sample_in_range r.last.roll) (sample_in_range r.last.acceleration) (kept_from r h).range in
    rw (
      le-leb (code_of r.last.roll) highest_code (code_high r.last.roll (leb-true _ _ g.0)),
      le-leb (code_of r.last.acceleration) highest_code (code_high r.last.acceleration
          (leb-true _ _ g.1)),
      read_back r.last.roll,
      read_back r.last.acceleration,
    )

-- and that of any campaign the campaign
pub campaign_back : (c : Campaign) → campaign_of (of_campaign c) ≡ c
unfolding campaign_of
campaign_back c = go c c.failed refl
  where
    go : (c : Campaign) (b : Bool) → c.failed ≡ b → cond (leb (flag c.failed) 1) (campaign_at (of_campaign c)) no_campaign ≡ c
    go c true e = rw e refl
    go c false e = rw e refl

-- and that of any result the result
pub result_back : (x : RecordResult) → result_of (of_result x) ≡ x
unfolding result_of
result_back x = refl

-- so what an entry leaves in an array is the state that it answers
pub record_left_lem : (a : Result Record Refusal) (s : List ℕ) (r : Record) → length s ≡ record_numbers → a ≡ Ok r → state.sound r ≡ true → record_of (record_kept a s).lent ≡ r
unfolding record_kept record_told
record_left_lem a s r l e h = rw (eq-eqb (length s) record_numbers l, e) (record_back r h)

pub campaign_left : (a : Result Campaign Refusal) (s : List ℕ) (c : Campaign) → length s ≡ campaign_numbers → a ≡ Ok c → campaign_of (campaign_kept a s).lent ≡ c
unfolding campaign_kept campaign_told
campaign_left a s c l e = rw (eq-eqb (length s) campaign_numbers l, e) (campaign_back c)
