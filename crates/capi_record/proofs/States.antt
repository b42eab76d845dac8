-- What opening and feeding leave in an array is the record that they answer; an array that is no record is refused by 8
-- and stays. Assumes nothing.
use Prim.Native.Nat.{ℕ}
use mathlib.Core.Path.{◌≡◌, refl}
use mathlib.Core.Bool.{Bool, cond, false, true}
use mathlib.Core.List.{List}
use borrow.Author.Tests.{eqb-true}
use lib.Dec.{eqb}
use lib.IntN.{ℤ}
use lib.ListN.{length}
use Rattle.truth.proofs.Laws.{and-true, true≢false}
use Rattle.record_feed.proofs.Fed.{fed_broken, taken}
use Rattle.record_state.proofs.Opening.{opened_sound}
use Rattle.record_feed.proofs.Theorems.{fed_sound}
use Rattle.record_state.specs.Answers.{opened}
use Rattle.record_feed.specs.Answers.{fed}
use Rattle.record_state.specs.State.{sound}
use Rattle.record_state.specs.declared.Record.{Record}
use Rattle.refusal.specs.declared.Refusal.TheVariants.{BrokenState}
use Rattle.sample_items.specs.declared.Items.{Items}
use Rattle.capi.proofs.States.{other_record, record_left_lem}
use Rattle.capi.specs.Numbers.{is_record, record_numbers, record_of}
use Rattle.capi.specs.Told.{record_kept, record_told, refused}
use Rattle.capi_record.specs.Told.{record_fed, record_opened}
use Rattle.std.specs.Prelude.{Ok, Err}

pub other_fed : (s : List ℕ) (xs ys : List ℤ) → is_record s ≡ false → record_fed s xs ys ≡ refused BrokenState s
unfolding record_kept record_told
other_fed s xs ys e = rw (fed_broken (record_of s) xs ys (other_record s e)) (go (eqb (length s) record_numbers))
  where
    go : (b : Bool) → cond b (record_told (Err BrokenState) s) (refused BrokenState s) ≡ refused BrokenState s
    go true = refl
    go false = refl

is_record_lem : (s : List ℕ) (b : Bool) → is_record s ≡ b → sound (record_of s) ≡ true → b ≡ true
is_record_lem s true e h = refl
is_record_lem s false e h = absurd (true≢false (cc (other_record s e)))

fed_length : (s : List ℕ) (xs ys : List ℤ) (r : Record) → fed (record_of s) xs ys ≡ Ok r → length s ≡ record_numbers
fed_length s xs ys r e = eqb-true _ _ (and-true _ _ (is_record_lem s (is_record s) refl (taken (record_of s) xs ys r e).state)).0

pub opened_left : (items : Items) (s : List ℕ) (r : Record) → length s ≡ record_numbers → opened items ≡ Ok r → record_of (record_opened items s).lent ≡ r
opened_left items s r l e = record_left_lem (opened items) s r l e (opened_sound items r e)

pub fed_left : (s : List ℕ) (xs ys : List ℤ) (r : Record) → fed (record_of s) xs ys ≡ Ok r → record_of (record_fed s xs ys).lent ≡ r
fed_left s xs ys r e = record_left_lem (fed (record_of s) xs ys) s r (fed_length s xs ys r e) e (fed_sound (record_of s) xs ys r e)
