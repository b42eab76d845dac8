-- What a sheet that reads cleanly says of its records: there are as many as it entered, at most 100,000, and they are
-- clean (`old_clean`), so that they can stand before a day's files; and the records that were read stand at the front of
-- the lent ones (`front_is`). Assumes nothing.
use Prim.Native.Nat.{ℕ, ◌+◌, ◌≤◌}
use mathlib.Core.Path.{◌≡◌, refl, sym, ap, ◌∙◌}
use mathlib.Core.Bool.{cond}
use mathlib.Core.List.{List, [], ◌∷◌, ◌++◌, map}
use native.Mathlib.Omega.{arith}
use lib.IntN.{ℤ}
use lib.Dec.{ltb}
use lib.ListN.{length, take, drop, length-append}
use lib.Seq.{take-append_seam}
use borrow.Author.Tests.{le-ltb}
use Rattle.truth.proofs.Cases.{by_test}
use Rattle.truth.proofs.Laws.{is_true}
use Rattle.campaign_state.specs.declared.Campaign.{Campaign}
use Rattle.campaign_state.specs.Records as records
use Rattle.sheet_text.specs.declared.Reading.{Reading}
use Rattle.sheet_text.specs.declared.Reading.TheVariants.{Read, Stopped, Waiting}
use Rattle.sheet_text.specs.Sheet.{meaning}
use Rattle.sheet_records.specs.Ledger.{failed_in, outcome_in}
use Rattle.sheet_records.specs.Records.{filled_by, records_of, resumed_from, resuming}
use Rattle.sheet_records.proofs.Clean.{written_again}
use Rattle.sheet_records.proofs.Entered.{judged_campaign, judged_few, judged_records, judged_sound}
use Rattle.sheet_files.specs.Files.{failures_in}
use Rattle.sheet_files.proofs.Clean.{Clean}
use Rattle.sheet_after.specs.Taking.{counted_up, up_by, up_of}
use Rattle.std.specs.Prelude.{Ok}

failures_same : (xs : List ℤ) → records.failures_in (map outcome_in xs) ≡ failures_in xs
unfolding failures_in records.failures_in
failures_same [] = refl
failures_same (x ∷ xs) = ap (λ (n : ℕ). cond (failed_in x) 1 0 + n) (failures_same xs)

-- a sheet that reads as the campaign c
module _ (old : List ℕ) (c : Campaign) (e : (meaning old).end ≡ Read c) where
  pub old_many : length (records_of old) ≡ c.records
  old_many = sym (judged_records c.standard (records_of old) c (written_again old c e).0)

  pub old_few : c.records ≤ 100000
  old_few = omega (arith, old_many, judged_few c.standard (records_of old) c (written_again old c e).0)

  old_fails : c.failures ≡ failures_in (records_of old)
  unfolding records.campaign_of
  old_fails = ap (λ (d : Campaign). d.failures) (judged_campaign c.standard (records_of old) c (written_again old c e).0) ∙ failures_same (records_of old)

  pub old_clean : Clean c.standard (records_of old)
  old_clean =
      let taken = (written_again old c e).0 in
      record {
        campaign = c;
        taken = taken;
        keeps = is_true _ (judged_sound c.standard (records_of old) c taken);
        many = sym old_many;
        fails = old_fails;
      }

-- the front of a list that starts with another
pub front_is : (xs ys : List ℤ) (n : ℕ) → length xs ≡ n → take n (xs ++ ys) ≡ xs
front_is xs ys n e = ap (λ m. take m (xs ++ ys)) (sym e) ∙ take-append_seam xs ys

-- ---- what was read and counted is what the sheet says
up_read : (sheet : List ℕ) (places : List ℤ) (r : Reading) → (meaning sheet).end ≡ r
    → let x = resumed_from r (length places) in up_by x (filled_by x (records_of sheet) places) ≡ up_of x sheet
unfolding filled_by counted_up
up_read sheet places (Read c) e =
    by_test (ltb (length places) c.records)
    (λ b. rw b)
    (λ b.
    let long = length-append (records_of sheet) (drop c.records places) in
    rw (b, le-ltb (length (records_of sheet ++ drop c.records places)) c.records (omega (arith, long, old_many sheet c e)))
    (ap (λ l. Ok (c.standard, c.records, failures_in l)) (front_is (records_of sheet) (drop c.records places) c.records (old_many sheet c e))))
up_read sheet places (Stopped line column r) e = refl
up_read sheet places (Waiting s left) e = refl

pub up_same : (sheet : List ℕ) (places : List ℤ)
    → let x = resuming sheet (length places) in up_by x (filled_by x (records_of sheet) places) ≡ up_of x sheet
unfolding resuming
up_same sheet places = up_read sheet places (meaning sheet).end refl
