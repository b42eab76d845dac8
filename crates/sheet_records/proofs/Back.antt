-- Reading what was written: a sheet of records that are all judged clean reads as the campaign that they come to
-- (`read_back`), and the records of a sheet that was written are the records (`records_back`). Assumes nothing.
use mathlib.Core.Path.{◌≡◌, refl, ap, ◌∙◌}
use mathlib.Core.Bool.{Bool, true, false, cond}
use mathlib.Core.List.{List, [], ◌∷◌, ◌++◌, map}
use Prim.Native.Nat.{ℕ, ◌+◌, ◌^◌, ◌<◌}
use native.Mathlib.Omega.{arith}
use lib.IntN.{ℤ, pos, negsuc}
use lib.ListN.{drop}
use Rattle.truth.proofs.Laws.{is_true}
use Rattle.campaign_state.specs.declared.Campaign.{Campaign}
use Rattle.campaign_state.specs.Answers.{opened}
use Rattle.campaign_state.specs.State.{sound}
use Rattle.campaign_state.proofs.Answered.{entered_from, opened_from}
use Rattle.campaign_state.proofs.Keeping.{entering_sound, opened_sound}
use Rattle.decimal.specs.Decimal.{longest}
use Rattle.decimal.specs.Lines.{lines_of}
use Rattle.sheet_line.specs.declared.Sheet.TheVariants.{Fresh, Open}
use Rattle.sheet_line.specs.Line.{line_after, outcome, stepping, telling, line_outcome}
use Rattle.sheet_line.proofs.Theorems.{flag_of, line_back, standard_back, told_entered}
use Rattle.sheet_text.specs.declared.Reading.TheVariants.{Read}
use Rattle.sheet_text.specs.Sheet.{Account, after_step, meaning, reading_sheet}
use Rattle.sheet_records.specs.Answers.{judged, judged_from}
use Rattle.degrees.specs.Degrees.{signed}
use Rattle.sheet_line.specs.Texts.{entry_text, head_text}
use Rattle.sheet_records.specs.Ledger.{exposure_in, failed_in, signed_record_text, lines_from, sheet_text}
use Rattle.sheet_records.proofs.Enough.{in_range}
use Rattle.sheet_records.proofs.Entered.{went_on}
use Rattle.sheet_records.specs.Records.{record_in, records_of}
use Rattle.sheet_records.proofs.Lines.{entry_lines, entry_says, head_lines}
use Rattle.std.specs.Prelude.{Ok}
use Rattle.truth.proofs.Answers.{same_ok}

-- ---- a record's line, read from a campaign
module _ (c : Campaign) (f : Bool) (t : ℕ) (g : sound c ≡ true) (small : t < 10 ^ longest) where
  entry_steps : stepping (Open c) (entry_text (c.records + 1) (cond f 1 0) t) ≡ outcome (line_after c) (telling c f t)
  entry_steps = line_back c (cond f 1 0) t g (flag_of f).1 small ∙ ap (λ y. outcome (line_after c) (telling c y t)) (flag_of f).0

  pub entry_reads : (rest : List ℕ)
      → reading_sheet false (lines_of (entry_text (c.records + 1) (cond f 1 0) t ++ rest)) (Open c) ≡ after_step (outcome (line_after c) (telling c f t)) (reading_sheet false (lines_of rest))
  unfolding reading_sheet
  entry_reads rest = rw (entry_lines (c.records + 1) (cond f 1 0) t rest, entry_steps)

-- ---- line 1
pub head_reads : (q : ℕ) → q < 10 ^ longest → (rest : List ℕ) → reading_sheet false (lines_of (head_text q ++ rest)) Fresh ≡ after_step (outcome 1 (opened q)) (reading_sheet false (lines_of rest))
unfolding reading_sheet
head_reads q small rest = rw (head_lines q rest, standard_back q small)

-- ---- all lines
read_lines : (c : Campaign) (xs : List ℤ) (d : Campaign) → sound c ≡ true → judged_from c xs ≡ Ok d → (reading_sheet false (lines_of (lines_from (c.records + 1) xs)) (Open c)).end ≡ Read d
unfolding judged_from lines_from reading_sheet lines_of
read_lines c [] d g e = ap Read (same_ok e)
read_lines c (x ∷ xs) d g e =
    let f = failed_in x in
    let t = exposure_in x in
    let (b, taken, rest) = went_on (telling c f t) (λ b. judged_from b xs) d e in
    let enters = told_entered c f t b taken in
    let o = entered_from c (line_outcome f t) b enters in
    let one_more : b.records ≡ c.records + 1 = ap (λ (y : Campaign). y.records) o.room.after in
    let good : sound b ≡ true = is_true _ (entering_sound c (line_outcome f t) b enters) in
    ap (λ (a : Account). a.end) (entry_reads c f t g (omega (arith, o.high)) (lines_from (c.records + 1 + 1) xs)) ∙ rw taken (rw one_more at (read_lines b xs d good rest))

-- READING WHAT WAS WRITTEN
pub read_back : (q : ℕ) (xs : List ℤ) (d : Campaign) → judged q xs ≡ Ok d → (meaning (sheet_text q xs)).end ≡ Read d
unfolding judged meaning sheet_text
read_back q xs d e =
    let (c, opens, rest) = went_on (opened q) (λ c. judged_from c xs) d e in
    let (range, is) = opened_from q c opens in
    let small = in_range q range in
    let good : sound c ≡ true = is_true _ (opened_sound q c opens) in
    let none : c.records ≡ 0 = ap (λ (y : Campaign). y.records) is in
    ap (λ (a : Account). a.end) (head_reads q small (lines_from 1 xs)) ∙ rw opens (rw none at (read_lines c xs d good rest))

-- ---- the records of what was written
number_is : (x : ℤ) → signed (failed_in x) (exposure_in x) ≡ x
number_is (pos n) = refl
number_is (negsuc n) = refl

line_says : (number : ℕ) (x : ℤ) → record_in (signed_record_text number x) ≡ x
line_says number x = entry_says number (cond (failed_in x) 1 0) (exposure_in x) ∙ ap (λ f. signed f (exposure_in x)) (flag_of (failed_in x)).0 ∙ number_is x

records_lines : (number : ℕ) (xs : List ℤ) → map record_in (lines_of (lines_from number xs)) ≡ xs
unfolding lines_from lines_of
records_lines number [] = refl
records_lines number (x ∷ xs) =
    ap (map record_in) (entry_lines number (cond (failed_in x) 1 0) (exposure_in x) (lines_from (number + 1) xs)) ∙ rw (line_says number x, records_lines (number + 1) xs)

-- THE RECORDS OF WHAT WAS WRITTEN
pub records_back : (q : ℕ) (xs : List ℤ) → records_of (sheet_text q xs) ≡ xs
unfolding records_of sheet_text
records_back q xs = ap (λ lines. map record_in (drop 1 lines)) (head_lines q (lines_from 1 xs)) ∙ records_lines 1 xs
