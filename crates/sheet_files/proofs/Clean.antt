-- Records that were filed are clean: judged as the sheet's reader judges them, all are taken (`Clean`), and so they are
-- with one more where there is room for it (`clean_next`). So the sheet's writer writes them (`clean_written`). Assumes
-- nothing.
use Prim.Native.Nat.{ℕ, zero, suc, ◌+◌, ◌≤◌, ◌<◌}
use mathlib.Core.Path.{◌≡◌, refl, sym, ap, ◌∙◌}
use mathlib.Core.Bool.{Bool, true, false, cond, not}
use mathlib.Core.List.{List, [], ◌∷◌, ◌++◌}
use native.Mathlib.Omega.{arith}
use lib.Dec.{eqb}
use lib.IntN.{ℤ, pos, negsuc, neg_ℤ, nat_abs}
use lib.ListN.{length, length-append}
use borrow.Author.Tests.{le-ltb}
use Rattle.truth.proofs.Laws.{is_true}
use Rattle.sample_items.specs.Limits.{longest_time}
use Rattle.campaign_state.specs.declared.Campaign.{Campaign}
use Rattle.campaign_state.specs.Answers.{opened}
use Rattle.campaign_state.specs.State.{empty, entered, most_records, sound, standard_in_range}
use Rattle.campaign_state.proofs.Keeping.{opened_sound}
use Rattle.degrees.specs.Degrees.{signed}
use Rattle.sheet_line.specs.Line.{telling}
use Rattle.sheet_records.specs.Ledger.{failed_in, exposure_in, sheet_text}
use Rattle.sheet_records.specs.Answers.{judged, judged_from, onward, writing_sheet}
use Rattle.sheet_records.proofs.Judging.{told_taken}
use Rattle.sheet_files.specs.Files.{failures_in, most_failures}
use Rattle.refusal.specs.declared.Refusal.{Refusal}
use Rattle.std.specs.Prelude.{Result, Ok, Err}

-- ---- what is judged of two lists one after the other
onward_twice : (a : Result Campaign Refusal) (f g : Campaign → Result Campaign Refusal) → onward (onward a f) g ≡ onward a (λ c. onward (f c) g)
onward_twice (Ok c) f g = refl
onward_twice (Err r) f g = refl

onward_same : (a : Result Campaign Refusal) (f g : Campaign → Result Campaign Refusal) → ((c : Campaign) → f c ≡ g c) → onward a f ≡ onward a g
onward_same (Ok c) f g e = e c
onward_same (Err r) f g e = refl

from-append : (xs ys : List ℤ) (c : Campaign) → judged_from c (xs ++ ys) ≡ onward (judged_from c xs) (λ d. judged_from d ys)
unfolding judged_from
from-append [] ys c = refl
from-append (x ∷ xs) ys c =
    onward_same (telling c (failed_in x) (exposure_in x)) (λ d. judged_from d (xs ++ ys)) (λ d. onward (judged_from d xs) (λ e. judged_from e ys)) (from-append xs ys)
    ∙ sym (onward_twice (telling c (failed_in x) (exposure_in x)) (λ d. judged_from d xs) (λ d. judged_from d ys))

judged_append : (q : ℕ) (xs ys : List ℤ) → judged q (xs ++ ys) ≡ onward (judged q xs) (λ d. judged_from d ys)
unfolding judged
judged_append q xs ys =
    onward_same (opened q) (λ c. judged_from c (xs ++ ys)) (λ c. onward (judged_from c xs) (λ d. judged_from d ys)) (from-append xs ys)
    ∙ sym (onward_twice (opened q) (λ c. judged_from c xs) (λ d. judged_from d ys))

-- ---- failures among them
pub failures_append : (xs : List ℤ) (x : ℤ) → failures_in (xs ++ (x ∷ [])) ≡ failures_in xs + cond (failed_in x) 1 0
unfolding failures_in
failures_append [] x = omega arith
failures_append (y ∷ xs) x = omega (arith, failures_append xs x)

counted : (b : Bool) {n m : ℕ} → n ≡ m → cond b (n + 1) n ≡ m + cond b 1 0
counted true e = omega (arith, e)
counted false e = omega (arith, e)

-- ---- clean records
pub record Clean (q : ℕ) (xs : List ℤ) : Type 0 where
  pub campaign : Campaign
  pub taken : judged q xs ≡ Ok campaign
  pub keeps : sound campaign ≡ true
  pub many : campaign.records ≡ length xs
  pub fails : campaign.failures ≡ failures_in xs

pub clean_none : (q : ℕ) → standard_in_range q ≡ true → Clean q []
unfolding judged judged_from failures_in
clean_none q e =
    let o : opened q ≡ Ok (empty q) = rw e in
    record { campaign = empty q; taken = rw e; keeps = is_true _ (opened_sound q (empty q) o); many = refl; fails = refl }

-- a record as one number, failed or not
pub signed_failed : (b : Bool) (n : ℕ) → 1 ≤ n → failed_in (signed b n) ≡ b
signed_failed false n h = refl
signed_failed true zero h = absurd (omega arith)
signed_failed true (suc n) h = refl

pub signed_exposure : (b : Bool) (n : ℕ) → exposure_in (signed b n) ≡ n
signed_exposure false n = refl
signed_exposure true zero = refl
signed_exposure true (suc n) = refl

module _ (q : ℕ) (xs : List ℤ) (x : ℤ) (k : Clean q xs) (low : 1 ≤ exposure_in x) (high : exposure_in x ≤ longest_time)
    (few : length xs < most_records) (left : failures_in xs < most_failures) where
  abbrev c : Campaign
  c = k.campaign

  abbrev d : Campaign
  d = entered c (failed_in x) (exposure_in x)

  told : (telling c (failed_in x) (exposure_in x) ≡ Ok d) × (sound d ≡ true)
  told = told_taken c (failed_in x) (exposure_in x) k.keeps low high (λ e. omega (arith, e, k.many)) (λ e. omega (arith, e, k.fails))

  one_more : judged_from c (x ∷ []) ≡ Ok d
  unfolding judged_from
  one_more = ap (λ a. onward a (λ e. Ok e)) told.0

  taken_all : judged q (xs ++ (x ∷ [])) ≡ Ok d
  taken_all = judged_append q xs (x ∷ []) ∙ ap (λ a. onward a (λ e. judged_from e (x ∷ []))) k.taken ∙ one_more

  records_more : d.records ≡ length (xs ++ (x ∷ []))
  records_more = omega (arith, k.many, length-append xs (x ∷ []))

  fails_more : d.failures ≡ failures_in (xs ++ (x ∷ []))
  fails_more = counted (failed_in x) k.fails ∙ sym (failures_append xs x)

  pub clean_next : Clean q (xs ++ (x ∷ []))
  clean_next = record { campaign = d; taken = taken_all; keeps = told.1; many = records_more; fails = fails_more }

-- ---- and so they are written
pub clean_written : (q : ℕ) (xs : List ℤ) (out : List ℕ) → Clean q xs → length (sheet_text q xs) ≤ length out → writing_sheet q xs out ≡ Ok (length (sheet_text q xs))
unfolding writing_sheet
clean_written q xs out k h = rw (k.taken, le-ltb (length out) (length (sheet_text q xs)) h)
