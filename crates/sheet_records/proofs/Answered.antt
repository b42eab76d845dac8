-- What reading the records answers, by what the passes came to. Assumes nothing.
use mathlib.Core.Path.{◌≡◌, refl, ◌∙◌}
use mathlib.Core.List.{List}
use Prim.Native.Nat.{ℕ, ◌≤◌, ◌<◌}
use native.Mathlib.Nat.{zero-add}
use native.Mathlib.Omega.{arith}
use lib.IntN.{ℤ}
use lib.ListN.{length}
use lib.Seq.{sets, sets-eq}
use borrow.Author.Tests.{le-ltb, lt-ltb}
use Rattle.refusal.specs.declared.Refusal.TheVariants.{Room}
use Rattle.campaign_state.specs.declared.Campaign.{Campaign}
use Rattle.sheet_text.specs.declared.Reading.{Reading}
use Rattle.sheet_text.specs.declared.Reading.TheVariants.{Read, Stopped, Waiting}
use Rattle.sheet_text.specs.Sheet.{meaning}
use Rattle.sheet_records.specs.Pass.{CleanPass, stopped_from}
use Rattle.sheet_records.specs.Records.{filled_by, resumed_from, resuming}
use Rattle.std.specs.Prelude.{Ok, Err}

-- a sheet that does not read cleanly
pub unclean : (text : List ℕ) (places : ℕ) → ((c : Campaign) → ¬ ((meaning text).end ≡ Read c)) → stopped_from (meaning text).end ≡ resuming text places
unfolding resuming
unclean text places never = go (meaning text).end refl
  where
    go : (r : Reading) → (meaning text).end ≡ r → stopped_from r ≡ resumed_from r places
    go (Read c) e = absurd (never c e)
    go (Stopped line column r) e = refl
    go (Waiting s left) e = refl

pub stopped_kept : (r : Reading) (xs slice : List ℤ) → filled_by (stopped_from r) xs slice ≡ slice
unfolding filled_by
stopped_kept (Read c) xs slice = refl
stopped_kept (Stopped line column r) xs slice = refl
stopped_kept (Waiting s left) xs slice = refl

module _ {text : List ℕ} {q n begin : ℕ} (p : CleanPass text q n begin) (places : ℕ) where
  pub no_room : places < n → Err (0, 0, Room n) ≡ resuming text places
  unfolding resuming
  no_room h = rw (p.reads, p.count, lt-ltb places n h)

  pub all_read : n ≤ places → Ok (q, n) ≡ resuming text places
  unfolding resuming
  all_read h = rw (p.reads, p.standard, p.count, le-ltb places n h)

-- the places after the second pass
pub put_front : (xs slice : List ℤ) (q n : ℕ) → length xs ≡ n → n ≤ length slice → sets slice 0 xs ≡ filled_by (Ok (q, n)) xs slice
unfolding filled_by
put_front xs slice q n e h = sets-eq xs slice 0 (omega (arith, e)) ∙ rw (zero-add, e)
