-- However each file of a campaign is cut into pieces, what is written for them is what is written for their texts
-- (`sheet_anywhere`). The records that were filed stand at the front of the lent ones and are clean (`Well`), whatever
-- the files came to; so the sheet's writer writes them (`well_finished`). What is said of the files so far and of those
-- after them is the definition's, file by file (`from`). Assumes nothing.
use Prim.Native.Nat.{ℕ, zero, suc, ◌+◌, ◌≤◌, ◌<◌}
use mathlib.Core.Path.{◌≡◌, refl, sym, ap, subst, ◌∙◌}
use mathlib.Core.Bool.{Bool, true, false, cond, not}
use mathlib.Core.List.{List, [], ◌∷◌, ◌++◌, map}
use native.Mathlib.Numerals.{add-one}
use native.Mathlib.Omega.{arith}
use lib.Dec.{eqb, leb}
use lib.IntN.{ℤ}
use lib.ListN.{length, take, drop, set}
use lib.Seq.{length-take-le}
use borrow.Author.Tests.{eq-eqb, eqb-true, lt-leb, leb-false, le-ltb}
use Rattle.truth.proofs.Cases.{by_test}
use Rattle.refusal.specs.declared.Refusal.{Refusal}
use Rattle.refusal.specs.declared.Refusal.TheVariants.{BrokenState, CampaignFull, Item, RowsUsedUp, TooShort}
use Rattle.sample_items.specs.declared.Items.{Items}
use Rattle.sample_items.specs.Limits.{item_outside, longest_time}
use Rattle.crossing_places.specs.Reading.{too_few}
use Rattle.record_state.specs.declared.Record.{Record}
use Rattle.record_state.specs.State.{sound, state_of}
use Rattle.record_end.specs.declared.RecordResult.{RecordResult}
use Rattle.record_end.specs.Result.{ending, result_of}
use Rattle.record_end.proofs.Given.{given_bounds}
use Rattle.campaign_state.specs.State.{most_records, standard_in_range}
use Rattle.text.specs.Pieces.{joined}
use Rattle.text.specs.Write.{laid_by}
use Rattle.text.proofs.Laws.{laid_front, written_fits}
use Rattle.decimal.specs.Lines.{lines_of}
use Rattle.comma_line.specs.Text.{samples_of}
use Rattle.sheet_records.specs.Ledger.{failed_in, exposure_in, sheet_text}
use Rattle.desk_line.specs.declared.Finished.{Finished}
use Rattle.desk_line.specs.Said.{Said, longest_said, putting, put_left}
use Rattle.comma_count.specs.Line.{one_channel, end_of_text, file_then, result_for}
use Rattle.comma_count.specs.Taking.{end_of, on_end, opening}
use Rattle.comma_count.specs.Pieces.{carrying}
use Rattle.comma_count.proofs.Cut.{end_anywhere}
use Rattle.comma_count.proofs.Whole.{end_then}
use Rattle.sheet_files.specs.Files.{failures_in, most_failures, record_in, record_of, refused_record, sheet_from, sheet_said, written}
use Rattle.sheet_files.specs.Filing.{Desk, opened_sheet, step_taken, step_as, step_ended, step_by, step_in, filed_of, left_by, with_file, desk_after}
use Rattle.sheet_files.specs.Filing.{finishing, finish_left, sheet_put, sheet_left}
use Rattle.sheet_files.proofs.Clean.{Clean, clean_none, clean_next, clean_written, failures_append, signed_exposure, signed_failed}
use Rattle.std.specs.Prelude.{Result, Ok, Err}

-- ---- the next record stands after the others
take_next : (xs : List ℤ) (n : ℕ) (x : ℤ) → n < length xs → take (suc n) (set xs n x) ≡ take n xs ++ (x ∷ [])
take_next [] n x h = absurd (omega arith)
take_next (y ∷ xs) zero x h = refl
take_next (y ∷ xs) (suc n) x h = ap (λ l. y ∷ l) (take_next xs n x (omega arith))

set_length : (xs : List ℤ) (n : ℕ) (x : ℤ) → length (set xs n x) ≡ length xs
set_length [] n x = refl
set_length (y ∷ xs) zero x = refl
set_length (y ∷ xs) (suc n) x = ap suc (set_length xs n x)

-- ---- what was filed stands at the front, and is clean
pub record Kept (q n failures : ℕ) (records : List ℤ) : Type 0 where
  pub within : n ≤ length records
  pub clean : Clean q (take n records)
  pub fails : failures ≡ failures_in (take n records)

abbrev pub Well : ℕ → Result (ℕ × ℕ) (ℕ × ℕ × Refusal) → List ℤ → Type 0
Well q (Ok (n, failures)) records = Kept q n failures records
Well q (Err (number, line, r)) records = Unit {0}

-- a record whose exposure is in range, where there is room for it
module _ (q n failures : ℕ) (records : List ℤ) (x : RecordResult) (k : Kept q n failures records)
    (low : 1 ≤ x.exposure) (high : x.exposure ≤ longest_time) (few : n < most_records) (left : failures < most_failures) (room : n < length records) where
  abbrev bad : Bool
  bad = not (eqb x.first 0)

  long : length (take n records) ≡ n
  long = length-take-le n records k.within

  pub is : take (n + 1) (set records n (record_in x)) ≡ take n records ++ (record_in x ∷ [])
  is = ap (λ m. take m (set records n (record_in x))) (add-one n) ∙ take_next records n (record_in x) room

  clean_more : Clean q (take n records ++ (record_in x ∷ []))
  clean_more =
      clean_next q (take n records) (record_in x) k.clean
      (omega (arith, signed_exposure bad x.exposure)) (omega (arith, signed_exposure bad x.exposure))
      (omega (arith, long)) (omega (arith, k.fails))

  fails_by : (b : Bool) → eqb x.first 0 ≡ b → cond b failures (failures + 1) ≡ failures + cond (not b) 1 0
  fails_by true e = omega arith
  fails_by false e = refl

  fails_more : cond (eqb x.first 0) failures (failures + 1) ≡ failures_in (take n records ++ (record_in x ∷ []))
  fails_more =
      fails_by (eqb x.first 0) refl
      ∙ ap (λ b. failures + cond b 1 0) (sym (signed_failed bad x.exposure low))
      ∙ ap (λ f. f + cond (failed_in (record_in x)) 1 0) k.fails
      ∙ sym (failures_append (take n records) (record_in x))

  pub kept_next : Kept q (n + 1) (cond (eqb x.first 0) failures (failures + 1)) (set records n (record_in x))
  kept_next =
      record {
        within = omega (arith, set_length records n (record_in x));
        clean = subst (Clean q) (sym is) clean_more;
        fails = fails_more ∙ ap failures_in (sym is);
      }

-- whatever a file came to
well_taken : (q number n failures : ℕ) (records : List ℤ) (x : RecordResult) → Kept q n failures records → 1 ≤ x.exposure → x.exposure ≤ longest_time
    → let s = step_taken number n failures x (length records) in Well q (filed_of s) (left_by s records)
unfolding step_taken
well_taken q number n failures records x k low high =
    by_test (leb most_records n)
    (λ a. rw a tt)
    (λ a.
    by_test (leb most_failures failures)
    (λ b. rw (a, b) tt)
    (λ b.
    by_test (leb (length records) n)
    (λ c. rw (a, b, c) tt)
    (λ c. rw (a, b, c) (kept_next q n failures records x k low high (leb-false most_records n a) (leb-false most_failures failures b) (leb-false (length records) n c)))))

well_ended : (q number n failures : ℕ) (records : List ℤ) (r : Record) (y : Result RecordResult Refusal) → ending r ≡ y → Kept q n failures records
    → let s = step_as number n failures y (length records) in Well q (filed_of s) (left_by s records)
well_ended q number n failures records r (Ok x) e k =
    let b = given_bounds r x e in
    well_taken q number n failures records x k b.0 b.1
well_ended q number n failures records r (Err p) e k = tt

pub well_step : (q number : ℕ) (a : Result (ℕ × ℕ) (ℕ × ℕ × Refusal)) (e : Result Record (ℕ × Refusal)) (records : List ℤ) → Well q a records
    → let s = step_in number a e (length records) in Well q (filed_of s) (left_by s records)
well_step q number (Err (first, line, p)) e records w = tt
well_step q number (Ok (n, failures)) (Err (line, p)) records w = tt
well_step q number (Ok (n, failures)) (Ok r) records w = well_ended q number n failures records r (ending r) refl w

pub well_after : (q : ℕ) (i : Items) (files : List (List (List ℕ))) (number : ℕ) (d : Desk) → Well q d.filed d.records
    → let l = desk_after i number d files in Well q l.filed l.records
unfolding desk_after
well_after q i [] number d w = w
well_after q i (pieces ∷ files) number d w =
    well_after q i files (number + 1) (with_file i number d pieces) (well_step q number d.filed (end_of (carrying (opening i) [] pieces)) d.records w)

-- ---- what is said of what was filed
abbrev pub filed_said : ℕ → Result (ℕ × ℕ) (ℕ × ℕ × Refusal) → List ℤ → Said
filed_said q (Ok (n, failures)) records = written q (take n records)
filed_said q (Err (number, line, r)) records = refused_record number line r

abbrev pub desk_said : ℕ → Desk → Said
desk_said q d = filed_said q d.filed d.records

refused_stays : (i : Items) (files : List (List (List ℕ))) (number first line : ℕ) (p : Refusal) (records : List ℤ)
    → desk_after i number (record { filed = Err (first, line, p); records = records }) files ≡ record { filed = Err (first, line, p); records = records }
unfolding desk_after
refused_stays i [] number first line p records = refl
refused_stays i (pieces ∷ files) number first line p records = refused_stays i files (number + 1) first line p records

-- a sound record of n samples, ended
ending_as : (r : Record) (n : ℕ) (x : RecordResult) → sound r ≡ true → r.n ≡ n → result_of r ≡ x → ending r ≡ cond (too_few r.items.ramp n) (Err TooShort) (Ok x)
unfolding ending
ending_as r n x s e g =
    ap (λ b. cond (not b) (Err BrokenState) (cond (too_few r.items.ramp r.n) (Err TooShort) (Ok (result_of r)))) s
    ∙ ap (λ y. cond (too_few r.items.ramp r.n) (Err TooShort) (Ok y)) g
    ∙ ap (λ m. cond (too_few r.items.ramp m) (Err TooShort) (Ok x)) e

module _ (q : ℕ) (i : Items) (ok : item_outside i ≡ 0) where
  -- what is said after so many records, whatever they are
  abbrev pub Later : ℕ → List (List (List ℕ)) → Type 0
  Later number files =
      (n failures : ℕ) (records : List ℤ) → Kept q n failures records → most_records ≤ length records → number ≡ n + 1
      → desk_said q (desk_after i number (record { filed = Ok (n, failures); records = records }) files) ≡ sheet_from q i (take n records) (map joined files)

  -- one file and those after it
  module _ (pieces : List (List ℕ)) (files : List (List (List ℕ))) (number : ℕ) (after : Later (number + 1) files)
      (n failures : ℕ) (records : List ℤ) (k : Kept q n failures records) (big : most_records ≤ length records) (e : number ≡ n + 1) where
    abbrev lines : List (List ℕ)
    lines = lines_of (joined pieces)

    abbrev whole : Record
    whole = state_of i (one_channel (samples_of lines))

    abbrev result : RecordResult
    result = result_for i (one_channel (samples_of lines))

    abbrev later : Result (ℕ × ℕ × ℕ × ℤ) (ℕ × ℕ × Refusal) → Said
    later s = desk_said q (desk_after i (number + 1) (record { filed = filed_of s; records = left_by s records }) files)

    abbrev rest : Said
    rest = sheet_from q i (take n records ++ (record_in result ∷ [])) (map joined files)

    abbrev proper : Said
    proper = cond (leb most_records n) (refused_record number 0 CampaignFull) (cond (leb most_failures failures) (refused_record number 0 RowsUsedUp) rest)

    stays : (line : ℕ) (p : Refusal) → later (Err (number, line, p)) ≡ refused_record number line p
    stays line p = ap (desk_said q) (refused_stays i files (number + 1) number line p records)

    by_end : (x : Result Record (ℕ × Refusal)) → later (step_by number n failures x (length records)) ≡ on_end (refused_record number) (λ r. later (step_ended number n failures r (length records))) x
    by_end (Ok r) = refl
    by_end (Err (line, p)) = stays line p

    module _ (low : 1 ≤ result.exposure) (high : result.exposure ≤ longest_time) where
      placed : n < most_records → failures < most_failures → later (Ok (n, n + 1, cond (eqb result.first 0) failures (failures + 1), record_in result)) ≡ rest
      placed few left =
          let room : n < length records = omega (arith, few, big) in
          let x = record_in result in
          after (n + 1) (cond (eqb result.first 0) failures (failures + 1)) (set records n x)
          (kept_next q n failures records result k low high few left room)
          (omega (arith, big, set_length records n x))
          (ap (λ m. m + 1) e)
          ∙ ap (λ l. sheet_from q i l (map joined files)) (is q n failures records result k low high few left room)

      taken : later (step_taken number n failures result (length records)) ≡ proper
      unfolding step_taken
      taken =
          by_test (leb most_records n)
          (λ a. rw a (stays 0 CampaignFull))
          (λ a.
          let few = leb-false most_records n a in
          by_test (leb most_failures failures)
          (λ b. rw (a, b) (stays 0 RowsUsedUp))
          (λ b. rw (a, b, lt-leb (length records) n (omega (arith, few, big))) (placed few (leb-false most_failures failures b))))

    module _ (s : sound whole ≡ true) (m : whole.n ≡ length lines) where
      result-is : result_of whole ≡ result
      unfolding state_of result_for
      result-is = refl

      ended_is : ending whole ≡ cond (too_few i.ramp (length lines)) (Err TooShort) (Ok result)
      unfolding state_of
      ended_is = ending_as whole (length lines) result s m result-is

      by_few : (b : Bool) → too_few i.ramp (length lines) ≡ b
          → later (step_as number n failures (cond b (Err TooShort) (Ok result)) (length records)) ≡ cond b (refused_record number 0 TooShort) proper
      by_few true f = stays 0 TooShort
      by_few false f = let b = given_bounds whole result (ended_is ∙ rw f) in taken b.0 b.1

      record_filed : later (step_ended number n failures whole (length records)) ≡ cond (too_few i.ramp (length lines)) (refused_record number 0 TooShort) proper
      record_filed = ap (λ y. later (step_as number n failures y (length records))) ended_is ∙ by_few (too_few i.ramp (length lines)) refl

    one : later (step_by number n failures (end_of (carrying (opening i) [] pieces)) (length records)) ≡ file_then i (refused_record number) lines proper
    one =
        ap (λ x. later (step_by number n failures x (length records))) (end_anywhere i pieces)
        ∙ by_end (end_of_text i (joined pieces))
        ∙ end_then i ok (refused_record number) (λ r. later (step_ended number n failures r (length records))) proper lines record_filed

    -- the same by the list of the records
    abbrev Said-by : ℕ → ℕ → ℕ → Said
    Said-by num many fails =
        file_then i (refused_record num) lines
        (cond (leb most_records many) (refused_record num 0 CampaignFull) (cond (leb most_failures fails) (refused_record num 0 RowsUsedUp) rest))

    by_list : file_then i (refused_record number) lines proper
        ≡ Said-by (length (take n records) + 1) (length (take n records)) (failures_in (take n records))
    by_list =
        let many : n ≡ length (take n records) = sym (length-take-le n records k.within) in
        let num : number ≡ length (take n records) + 1 = e ∙ ap (λ m. m + 1) many in
        λ j. Said-by (num j) (many j) (k.fails j)

  pub from : (files : List (List (List ℕ))) (number : ℕ) → Later number files
  unfolding desk_after sheet_from
  from [] number n failures records k big e = refl
  from (pieces ∷ files) number n failures records k big e =
      one pieces files number (from files (number + 1)) n failures records k big e
      ∙ by_list pieces files number (from files (number + 1)) n failures records k big e

-- WHAT IS SAID OF THE FILES, however each is cut, is what is said of their texts
abbrev pub desk_of : ℕ → Items → List ℤ → List (List (List ℕ)) → Desk
desk_of q i records files = desk_after i 1 (record { filed = opened_sheet q i; records = records }) files

module _ (q : ℕ) (i : Items) (records : List ℤ) where
  none_kept_lem : standard_in_range q ≡ true → Kept q 0 0 records
  unfolding failures_in
  none_kept_lem s = record { within = omega arith; clean = clean_none q s; fails = refl }

  pub files_said : (files : List (List (List ℕ))) → most_records ≤ length records → desk_said q (desk_of q i records files) ≡ sheet_said q i (map joined files)
  unfolding opened_sheet sheet_said
  files_said files big =
      by_test (standard_in_range q)
      (λ s.
      by_test (eqb (item_outside i) 0)
      (λ z. rw (s, z) (from q i (eqb-true (item_outside i) 0 z) files 1 0 0 records (none_kept_lem s) big refl))
      (λ z. rw (s, z) (ap (desk_said q) (refused_stays i files 1 0 0 _ records))))
      (λ s. rw s (ap (desk_said q) (refused_stays i files 1 0 0 _ records)))

  opened_well : Well q (opened_sheet q i) records
  unfolding opened_sheet
  opened_well =
      by_test (standard_in_range q)
      (λ s. by_test (eqb (item_outside i) 0) (λ z. rw (s, z) (none_kept_lem s)) (λ z. rw (s, z) tt))
      (λ s. rw s tt)

  pub desk_well : (files : List (List (List ℕ))) → let d = desk_of q i records files in Well q d.filed d.records
  desk_well files = well_after q i files 1 (record { filed = opened_sheet q i; records = records }) opened_well

-- ---- and with room it is written so
abbrev pub Writes : Said → List ℕ → Finished → List ℕ → Type 0
Writes s out f later = (f ≡ record { put = length s.line; end = s.end }) × (later ≡ s.line ++ drop (length s.line) out)

pub well_finished : (q : ℕ) (a : Result (ℕ × ℕ) (ℕ × ℕ × Refusal)) (records : List ℤ) (out : List ℕ) → Well q a records → longest_said ≤ length out → length (filed_said q a records).line ≤ length out
    → Writes (filed_said q a records) out (finishing q a records out) (finish_left q a records out)
unfolding putting put_left sheet_put sheet_left laid_by
well_finished q (Err (number, line, r)) records out w room h =
    let text = (refused_record number line r).line in
    rw (le-ltb (length out) longest_said room) (refl, written_fits out 0 text (omega (arith, h)) ∙ laid_front out text)
well_finished q (Ok (n, failures)) records out w room h =
    rw (le-ltb (length records) n w.within, clean_written q (take n records) out w.clean h) (refl, refl)

-- WHAT IS WRITTEN FOR THE FILES OF A CAMPAIGN, however each is cut, is what is written for their texts
pub sheet_anywhere : (q : ℕ) (i : Items) (files : List (List (List ℕ))) (records : List ℤ) (out : List ℕ)
    → let s = sheet_said q i (map joined files) in
    let d = desk_of q i records files in
    most_records ≤ length records → longest_said ≤ length out → length s.line ≤ length out
    → Writes s out (finishing q d.filed d.records out) (finish_left q d.filed d.records out)
sheet_anywhere q i files records out big room fits =
    let d = desk_of q i records files in
    let same = files_said q i records files big in
    subst (λ s. Writes s out (finishing q d.filed d.records out) (finish_left q d.filed d.records out)) same
    (well_finished q d.filed d.records out (desk_well q i records files) room (subst (λ s. length s.line ≤ length out) (sym same) fits))
