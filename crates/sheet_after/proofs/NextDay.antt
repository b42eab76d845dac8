-- THE NEXT DAY: the sheet of some files, taken up and followed by others, is the sheet of all of them (`next_day`). Files
-- that made a sheet made records, and the files after them go on from those (`went_through`); the records of the sheet
-- that was written are those records, since reading is the inverse of writing. And a sheet taken up with no file after
-- it is written again as it was (`none_today`). Assumes nothing.
use Prim.Native.Nat.{ℕ, ◌+◌}
use mathlib.Core.Path.{◌≡◌, refl, sym, ap, subst, ◌∙◌}
use mathlib.Core.Bool.{Bool, cond, not, true, false}
use mathlib.Core.List.{List, [], ◌∷◌, ◌++◌, append-nil, map}
use native.Mathlib.Omega.{arith}
use lib.Dec.{eqb, leb, ltb}
use lib.IntN.{ℤ, pos}
use lib.ListN.{length, take, replicate, length-replicate}
use borrow.Author.Tests.{not-false}
use Rattle.truth.proofs.Laws.{past, impossible}
use Rattle.refusal.specs.declared.Refusal.{Refusal}
use Rattle.refusal.specs.declared.Refusal.TheVariants.{CampaignFull, Item, RowsUsedUp}
use Rattle.sample_items.specs.declared.Items.{Items}
use Rattle.sample_items.specs.Limits.{item_outside, most_samples}
use Rattle.sample_range.specs.Range.{first_bad}
use Rattle.crossing_places.specs.Reading.{too_few}
use Rattle.campaign_state.specs.declared.Campaign.{Campaign}
use Rattle.campaign_state.specs.Records.{campaign_of}
use Rattle.campaign_state.specs.State.{most_records, standard_in_range}
use Rattle.text.specs.Pieces.{joined}
use Rattle.decimal.specs.Lines.{lines_of}
use Rattle.comma_line.specs.Text.{first_wrong, samples_of}
use Rattle.sheet_text.specs.declared.Reading.TheVariants.{Read}
use Rattle.sheet_text.specs.Sheet.{meaning}
use Rattle.sheet_records.specs.Ledger.{sheet_text}
use Rattle.sheet_records.specs.Records.{records_of}
use Rattle.sheet_records.proofs.Back.{read_back, records_back}
use Rattle.sheet_records.proofs.Clean.{written_again}
use Rattle.sheet_records.proofs.Entered.{judged_campaign}
use Rattle.desk_line.specs.Said.{Said, read_digit, refused_digit}
use Rattle.comma_count.specs.Line.{file_then}
use Rattle.sheet_files.specs.Files.{failures_in, most_failures, record_of, refused_record, sheet_from, sheet_said, written}
use Rattle.sheet_files.proofs.Clean.{Clean}
use Rattle.sheet_files.proofs.Anywhere.{Kept, Well, desk_of, desk_said, desk_well, files_said, filed_said}
use Rattle.sheet_after.specs.After.{after_reading, sheet_after}
use Rattle.std.specs.Prelude.{Result, Ok, Err}

-- ---- what was not refused came through every test
pub past_end : (b : Bool) (r a : Said) → (cond b r a).end ≡ read_digit → r.end ≡ refused_digit → (b ≡ false) × (a.end ≡ read_digit)
past_end true r a e f = let z : refused_digit ≡ read_digit = sym f ∙ e in absurd (omega (arith, z))
past_end false r a e f = (refl, e)

-- the records that files made after others, and the files that follow
record Through (q : ℕ) (i : Items) (before : List ℤ) (xs ys : List (List ℕ)) : Type 0 where
  pub after : List ℤ
  pub is : sheet_from q i before xs ≡ written q after
  pub on : sheet_from q i before (xs ++ ys) ≡ sheet_from q i after ys

-- past its tests a file leaves its record
passed : (q : ℕ) (i : Items) (before : List ℤ) (text : List ℕ) → let lines = lines_of text in
    ltb (first_wrong i.step 0 lines) (length lines) ≡ false → ltb (first_bad (samples_of lines)) (length lines) ≡ false
    → ltb (most_samples i.step i.ramp) (length lines) ≡ false → too_few i.ramp (length lines) ≡ false
    → leb most_records (length before) ≡ false → leb most_failures (failures_in before) ≡ false → (rest : List (List ℕ))
    → sheet_from q i before (text ∷ rest) ≡ sheet_from q i (before ++ (record_of i lines ∷ [])) rest
unfolding sheet_from
passed q i before text a b c d f g rest = rw (a, b, c, d, f, g)

went_through : (q : ℕ) (i : Items) (ys xs : List (List ℕ)) (before : List ℤ) → (sheet_from q i before xs).end ≡ read_digit → Through q i before xs ys
unfolding sheet_from
went_through q i ys [] before e = record { after = before; is = refl; on = refl }
went_through q i ys (text ∷ xs) before e =
    let lines = lines_of text in
    let (a, e1) = past_end (ltb (first_wrong i.step 0 lines) (length lines)) _ _ e refl in
    let (b, e2) = past_end (ltb (first_bad (samples_of lines)) (length lines)) _ _ e1 refl in
    let (c, e3) = past_end (ltb (most_samples i.step i.ramp) (length lines)) _ _ e2 refl in
    let (d, e4) = past_end (too_few i.ramp (length lines)) _ _ e3 refl in
    let (f, e5) = past_end (leb most_records (length before)) _ _ e4 refl in
    let (g, e6) = past_end (leb most_failures (failures_in before)) _ _ e5 refl in
    let t = went_through q i ys xs (before ++ (record_of i (lines_of text) ∷ [])) e6 in
    let go = passed q i before text a b c d f g in
    record { after = t.after; is = go xs ∙ t.is; on = go (xs ++ ys) ∙ t.on }

-- ---- the records of a sheet that files made are clean
whole_files : (xs : List (List ℕ)) → map joined (map (λ x. x ∷ []) xs) ≡ xs
unfolding joined
whole_files [] = refl
whole_files (x ∷ xs) = ap (λ l. l ∷ map joined (map (λ y. y ∷ []) xs)) (append-nil x) ∙ ap (λ l. x ∷ l) (whole_files xs)

same_records : (q : ℕ) (xs ys : List ℤ) → written q xs ≡ written q ys → xs ≡ ys
same_records q xs ys e = sym (records_back q xs) ∙ ap (λ (s : Said). records_of s.line) e ∙ records_back q ys

pub filed_clean : (q : ℕ) (a : Result (ℕ × ℕ) (ℕ × ℕ × Refusal)) (rs after : List ℤ) → Well q a rs → filed_said q a rs ≡ written q after → Clean q after
filed_clean q (Ok (n, failures)) rs after w e = subst (Clean q) (same_records q (take n rs) after e) w.clean
filed_clean q (Err (number, line, r)) rs after w e = let z : refused_digit ≡ read_digit = ap (λ (s : Said). s.end) e in absurd (omega (arith, z))

abbrev places : List ℤ
places = replicate most_records (pos 0)

made_clean : (q : ℕ) (i : Items) (xs : List (List ℕ)) (after : List ℤ) → sheet_said q i xs ≡ written q after → Clean q after
made_clean q i xs after e =
    let files = map (λ x. x ∷ []) xs in
    let d = desk_of q i places files in
    filed_clean q d.filed d.records after (desk_well q i places files)
    (files_said q i places files (omega (arith, length-replicate most_records (pos 0))) ∙ ap (sheet_said q i) (whole_files xs) ∙ e)

-- ---- a sheet that was written of clean records, taken up
module _ (q : ℕ) (i : Items) (ok : eqb (item_outside i) 0 ≡ true) (rs : List ℤ) (k : Clean q rs) (ys : List (List ℕ)) where
  pub standard_is : k.campaign.standard ≡ q
  unfolding campaign_of
  standard_is = ap (λ (c : Campaign). c.standard) (judged_campaign q rs k.campaign k.taken)

  pub taken_up : sheet_after i (sheet_text q rs) ys ≡ sheet_from q i rs ys
  unfolding sheet_after
  taken_up =
      rw ok
      (ap (λ r. after_reading r i (sheet_text q rs) ys) (read_back q rs k.campaign k.taken)
      ∙ ap (λ p. sheet_from p i (records_of (sheet_text q rs)) ys) standard_is
      ∙ ap (λ l. sheet_from q i l ys) (records_back q rs))

-- ---- a standard and items in range leave it to the files
module _ (q : ℕ) (i : Items) where
  opens : (xs : List (List ℕ)) → (sheet_said q i xs).end ≡ read_digit → (not (standard_in_range q) ≡ false) × (not (eqb (item_outside i) 0) ≡ false)
  unfolding sheet_said
  opens xs e =
      let (a, e1) = past_end (not (standard_in_range q)) _ _ e refl in
      let (b, e2) = past_end (not (eqb (item_outside i) 0)) _ _ e1 refl in
      (a, b)

  said_from : not (standard_in_range q) ≡ false → not (eqb (item_outside i) 0) ≡ false → (xs : List (List ℕ)) → sheet_said q i xs ≡ sheet_from q i [] xs
  unfolding sheet_said
  said_from a b xs = rw (a, b)

-- THE NEXT DAY
pub next_day : (q : ℕ) (i : Items) (xs ys : List (List ℕ)) → (sheet_said q i xs).end ≡ read_digit → sheet_after i (sheet_said q i xs).line ys ≡ sheet_said q i (xs ++ ys)
next_day q i xs ys e =
    let (a, b) = opens q i xs e in
    let is = said_from q i a b in
    let t = went_through q i ys xs [] (ap (λ (s : Said). s.end) (sym (is xs)) ∙ e) in
    let made : sheet_said q i xs ≡ written q t.after = is xs ∙ t.is in
    ap (λ (s : Said). sheet_after i s.line ys) made
    ∙ taken_up q i (not-false _ b) t.after (made_clean q i xs t.after made) ys
    ∙ sym t.on
    ∙ sym (is (xs ++ ys))

-- with no file today the sheet is written as it was
pub none_today : (i : Items) (old : List ℕ) (c : Campaign) → eqb (item_outside i) 0 ≡ true → (meaning old).end ≡ Read c → sheet_after i old [] ≡ record { line = old; end = read_digit }
unfolding sheet_after sheet_from
none_today i old c ok e =
    rw (ok, e) (ap (λ (text : List ℕ). record { line = text; end = read_digit }) (written_again old c e).1)
