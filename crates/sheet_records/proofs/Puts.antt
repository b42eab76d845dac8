-- Laws of the text of a sheet: a line by its parts, one record more, and what writing answers. Assumes nothing.
use mathlib.Core.Path.{◌≡◌, refl, ap, ◌∙◌}
use mathlib.Core.Bool.{Bool, true, false, cond}
use mathlib.Core.List.{List, [], ◌∷◌, ◌++◌, append_assoc}
use Prim.Native.Nat.{ℕ, ◌+◌, ◌≤◌, ◌<◌}
use native.Mathlib.Omega.{arith}
use lib.IntN.{ℤ, pos, negsuc}
use lib.ListN.{length, length-append}
use lib.Signed.{lt_z}
use lib.Dec.{ltb}
use borrow.Author.Tests.{le-ltb, lt-ltb, ltb-false}
use Rattle.truth.proofs.Cases.{by_test}
use Rattle.refusal.specs.declared.Refusal.{Refusal}
use Rattle.refusal.specs.declared.Refusal.TheVariants.{Room}
use Rattle.decimal.specs.Decimal.{zero_byte, digits_of}
use Rattle.decimal.specs.Field.{tab, line_feed, field_text}
use Rattle.decimal.proofs.Text.{digits_one}
use Rattle.campaign_state.specs.declared.Campaign.{Campaign}
use Rattle.sheet_records.proofs.Judging.{judged_clean, judged_fault}
use Rattle.sheet_line.specs.Texts.{entry_text, head_text}
use Rattle.sheet_records.specs.Ledger.{exposure_in, failed_in, signed_record_text, lines_from, sheet_text}
use Rattle.sheet_records.specs.Answers.{after_judging, judged, judged_as, writing_sheet}
use Rattle.std.specs.Prelude.{Result, Ok, Err}
use Rattle.truth.proofs.Answers.{err_not_ok, same_ok}

-- a record failed if its number is below zero
pub failed_below : (x : ℤ) → lt_z x (pos 0) ≡ failed_in x
failed_below (pos n) = le-ltb n 0 (omega arith)
failed_below (negsuc n) = refl

-- a flag has one digit
flag_digit : (f : Bool) → digits_of (cond f 1 0) ≡ (zero_byte + cond f 1 0) ∷ []
flag_digit true = digits_one 1 (omega arith)
flag_digit false = digits_one 0 (omega arith)

-- a record's line, part by part
pub line_parts : (number : ℕ) (f : Bool) (t : ℕ)
    → entry_text number (cond f 1 0) t ≡ digits_of number ++ (tab ∷ ((zero_byte + cond f 1 0) ∷ (tab ∷ (digits_of t ++ (line_feed ∷ [])))))
unfolding field_text
line_parts number f t = rw flag_digit (simp append_assoc)

pub line_bytes : (number : ℕ) (x : ℤ) → length (signed_record_text number x) ≡ length (digits_of number) + length (digits_of (exposure_in x)) + 4
line_bytes number x = ap length (line_parts number (failed_in x) (exposure_in x)) ∙ simp length-append (omega arith)

pub head_bytes : (q : ℕ) → length (head_text q) ≡ length (digits_of q) + 10
unfolding field_text
head_bytes q = simp length-append (omega arith)

pub lines_next : (number : ℕ) (x : ℤ) (xs : List ℤ) → lines_from number (x ∷ xs) ≡ signed_record_text number x ++ lines_from (number + 1) xs
unfolding lines_from
lines_next number x xs = refl

pub lines_none : (number : ℕ) → lines_from number [] ≡ []
unfolding lines_from
lines_none number = refl

pub next_bytes : (number : ℕ) (x : ℤ) (xs : List ℤ) → length (lines_from number (x ∷ xs)) ≡ length (signed_record_text number x) + length (lines_from (number + 1) xs)
next_bytes number x xs = ap length (lines_next number x xs) ∙ length-append (signed_record_text number x) (lines_from (number + 1) xs)

pub sheet_bytes : (q : ℕ) (xs : List ℤ) → length (sheet_text q xs) ≡ length (head_text q) + length (lines_from 1 xs)
unfolding sheet_text
sheet_bytes q xs = length-append (head_text q) (lines_from 1 xs)

-- ---- what writing answers
module _ (q : ℕ) (xs : List ℤ) (out : List ℕ) where
  pub at_fault : (r : Refusal) → Err r ≡ judged_as (judged q xs) → Err r ≡ writing_sheet q xs out
  unfolding writing_sheet
  at_fault r e = rw (judged_fault (judged q xs) r e)

  module _ (clean : (Ok (tt {0})) ≡ judged_as (judged q xs)) where
    pub no_room : length out < length (sheet_text q xs) → Err (Room (length (sheet_text q xs))) ≡ writing_sheet q xs out
    unfolding writing_sheet
    no_room h = rw ((judged_clean (judged q xs) clean).1, lt-ltb _ _ h)

    pub all_written : length (sheet_text q xs) ≤ length out → Ok (length (sheet_text q xs)) ≡ writing_sheet q xs out
    unfolding writing_sheet
    all_written h = rw ((judged_clean (judged q xs) clean).1, le-ltb _ _ h)

-- what was written was judged clean, and there was room for it
pub record Wrote (q : ℕ) (xs : List ℤ) (out : List ℕ) (n : ℕ) : Type 0 where
  pub end : Campaign
  pub clean : judged q xs ≡ Ok end
  pub bytes : n ≡ length (sheet_text q xs)
  pub room : n ≤ length out

pub wrote : (q : ℕ) (xs : List ℤ) (out : List ℕ) (n : ℕ) → writing_sheet q xs out ≡ Ok n → Wrote q xs out n
unfolding writing_sheet
wrote q xs out n e = go (judged q xs) refl e
  where
    go : (a : Result Campaign Refusal) → judged q xs ≡ a → after_judging a (length (sheet_text q xs)) (length out) ≡ Ok n → Wrote q xs out n
    go (Err r) is e = absurd (err_not_ok e)
    go (Ok d) is e =
        by_test (ltb (length out) (length (sheet_text q xs)))
        (λ t. absurd (err_not_ok (rw t at e)))
        (λ t.
        let f : length (sheet_text q xs) ≡ n = same_ok (rw t at e) in
        let same : n ≡ length (sheet_text q xs) = cc (f) in
        record { end = d; clean = is; bytes = same; room = omega (arith, ltb-false (length out) (length (sheet_text q xs)) t) })
