-- Document 02, [2]: the job sheet written, and its records read. Writing is decided by its tests in 02's order, record
-- by record (demand 1); reading refuses as the sheet does, then for room; a refusal leaves what was lent as it stood.
-- Reading what was written gives the campaign of those records; a sheet that reads cleanly comes out of the writer as
-- it stood, byte for byte; and the records of what was written are the records. Assumes nothing.
use mathlib.Core.Path.{◌≡◌, refl, ap, sym, ◌∙◌}
use mathlib.Core.Bool.{cond, not, true}
use mathlib.Core.List.{List, [], ◌∷◌, map}
use Prim.Native.Nat.{ℕ, ◌+◌, ◌*◌, ◌≤◌}
use native.Mathlib.Omega.{arith}
use borrow.Author.Tests.{eqb-false, eqb-true, le-ltb, ltb-false}
use lib.Dec.{eqb, ltb}
use lib.IntN.{ℤ, negsuc}
use lib.ListN.{length, take}
use lib.Seq.{take-append_seam}
use Rattle.truth.proofs.Cases.{by_test}
use Rattle.truth.proofs.Laws.{impossible, is_true}
use Rattle.poisson.specs.Rows.{rows}
use Rattle.refusal.specs.declared.Refusal.{Refusal}
use Rattle.refusal.specs.declared.Refusal.TheVariants.{CampaignFull, Item, Room, RowsUsedUp, TooLong, TooShort}
use Rattle.sample_items.specs.Limits.{longest_time}
use Rattle.campaign_state.specs.declared.Campaign.{Campaign}
use Rattle.campaign_state.specs.Answers.{opened}
use Rattle.campaign_state.specs.Records.{campaign_of}
use Rattle.campaign_state.specs.State.{empty, entered, most_records, sound, standard_in_range}
use Rattle.campaign_state.proofs.Keeping.{opened_sound}
use Rattle.sheet_text.specs.declared.Reading.TheVariants.{Read, Stopped}
use Rattle.sheet_text.specs.Sheet.{meaning}
use Rattle.text.specs.Write.{laid_by}
use Rattle.sheet_records.specs.Answers.{after_judging, judged, judged_as, judged_from, onward, writing_sheet}
use Rattle.sheet_records.specs.Ledger.{exposure_in, failed_in, outcome_in, sheet_text}
use Rattle.sheet_records.proofs.Enough.{enough}
use Rattle.sheet_records.proofs.Entered.{judged_campaign, judged_records}
use Rattle.sheet_records.proofs.Judging.{told_full, told_long, told_short, told_taken, told_used_up}
use Rattle.sheet_records.proofs.Puts.{all_written, wrote}
use Rattle.sheet_records.specs.Records.{filled_by, records_of, resuming}
use Rattle.sheet_records.proofs.Back.{read_back, records_back}
use Rattle.sheet_records.proofs.Clean.{written_again}
use Rattle.demands.proofs.Demand1.{Decides, Test, ◌gives◌, decide, decided}
use Rattle.std.specs.Prelude.{Result, Ok, Err}
use Rattle.truth.proofs.Answers.{same_err}

-- ---- the statement
-- a record after so many records and failures: 4, 3, 5, 6; then the records after it, and what is tested after them
unfoldable pub record_tests : ℕ → ℕ → List ℤ → List Test → List Test
record_tests m n [] ts = ts
record_tests m n (x ∷ xs) ts =
    eqb (exposure_in x) 0 gives TooShort
    ∷ (ltb longest_time (exposure_in x) gives TooLong
    ∷ (eqb m most_records gives CampaignFull
    ∷ (eqb n rows gives RowsUsedUp
    ∷ record_tests (m + 1) (cond (failed_in x) (n + 1) n) xs ts)))

-- writing 1 with item 5, the records, 7 with the bytes needed
abbrev pub write_tests : ℕ → List ℤ → ℕ → List Test
write_tests q xs room =
    not (standard_in_range q) gives Item 5
    ∷ record_tests 0 0 xs (ltb room (length (sheet_text q xs)) gives Room (length (sheet_text q xs)) ∷ [])

pub record Request2 : Type 0 where
  pub write : (q : ℕ) (xs : List ℤ) (out : List ℕ) → Decides Err (write_tests q xs (length out)) (Ok (length (sheet_text q xs))) (writing_sheet q xs out)
  -- 22 bytes and 18 for each record are always room
  pub enough : (q : ℕ) (xs : List ℤ) (out : List ℕ) (n : ℕ) → writing_sheet q xs out ≡ Ok n → n ≤ 22 + 18 * length xs
  -- the least number of 32 bits is a failed record, and too long
  pub least : (failed_in (negsuc 2147483647) ≡ true) × (ltb longest_time (exposure_in (negsuc 2147483647)) ≡ true)
  -- the sheet's own refusals with their line and column; then 7 with the places needed, on no line; else the standard
  -- and the number of records
  pub refused_sheet : (text : List ℕ) (places line column : ℕ) (r : Refusal) → (meaning text).end ≡ Stopped line column r → resuming text places ≡ Err (line, column, r)
  pub clean_sheet : (text : List ℕ) (places : ℕ) (c : Campaign) → (meaning text).end ≡ Read c
      → Decides ((λ a. Err (0, 0, a))) (ltb places c.records gives Room c.records ∷ []) (Ok (c.standard, c.records))
      (resuming text places)
  -- a refusal leaves what was lent as it stood
  pub bytes_kept : (r : Refusal) (text out : List ℕ) → laid_by (Err r) text out ≡ out
  pub records_kept : (line column : ℕ) (r : Refusal) (xs slice : List ℤ) → filled_by (Err (line, column, r)) xs slice ≡ slice
  -- reading what was written gives the campaign of those records
  pub back : (q : ℕ) (xs : List ℤ) (out : List ℕ) (n : ℕ) → writing_sheet q xs out ≡ Ok n
      → (meaning (take n (laid_by (Ok n) (sheet_text q xs) out))).end ≡ Read (campaign_of q (map outcome_in xs))
  -- the records of a sheet that reads cleanly, with its standard, come out of the writer as that sheet
  pub again : (text : List ℕ) (c : Campaign) (out : List ℕ) → (meaning text).end ≡ Read c → length text ≤ length out
      → (writing_sheet c.standard (records_of text) out ≡ Ok (length text)) × (sheet_text c.standard (records_of text) ≡ text)
  -- the records of what was written are the records, with the standard
  pub same : (q : ℕ) (xs : List ℤ) (out : List ℕ) (n places : ℕ) → writing_sheet q xs out ≡ Ok n → length xs ≤ places
      → (resuming (sheet_text q xs) places ≡ Ok (q, length xs)) × (records_of (sheet_text q xs) ≡ xs)

-- ---- the proof
module _ (r s : Refusal) where
  own_sheet : ◌≡◌ {A = Result (ℕ × ℕ) (ℕ × ℕ × Refusal)} (Err (0, 0, r)) (Err (0, 0, s)) → r ≡ s
  own_sheet e = ap (λ (p : ℕ × ℕ × Refusal). p.2) (same_err e)

-- what the records' tests decide is what is judged of them, from a campaign of so many records and failures
module _ (needed room : ℕ) where
  abbrev last : List Test
  last = ltb room needed gives Room needed ∷ []

  abbrev then : List ℤ → Result Campaign Refusal → Result ℕ Refusal
  then xs a = after_judging (onward a (λ d. judged_from d xs)) needed room

  records_decide : (xs : List ℤ) (c : Campaign) → sound c ≡ true
      → after_judging (judged_from c xs) needed room ≡ decide Err (record_tests c.records c.failures xs last) (Ok needed)
  unfolding judged_from record_tests decide
  records_decide [] c g = refl
  records_decide (x ∷ xs) c g =
      let f = failed_in x in
      let t = exposure_in x in
      by_test (eqb t 0)
      (λ e. ap (then xs) (told_short c f t g e) ∙ rw e)
      (λ e.
      by_test (ltb longest_time t)
      (λ h. ap (then xs) (told_long c f t g e h) ∙ rw (e, h))
      (λ h.
      let low : 1 ≤ t = omega (arith, eqb-false t 0 e) in
      let high = ltb-false longest_time t h in
      by_test (eqb c.records most_records)
      (λ m. ap (then xs) (told_full c f t g low high (eqb-true c.records most_records m)) ∙ rw (e, h, m))
      (λ m.
      by_test (eqb c.failures rows)
      (λ n. ap (then xs) (told_used_up c f t g low high (eqb-false c.records most_records m) (eqb-true c.failures 64 n)) ∙ rw (e, h, m, n))
      (λ n.
      let (taken, good) = told_taken c f t g low high (eqb-false c.records most_records m) (eqb-false c.failures 64 n) in
      ap (then xs) taken ∙ records_decide xs (entered c f t) good ∙ rw (e, h, m, n)))))

written_decides : (q : ℕ) (xs : List ℤ) (out : List ℕ) → writing_sheet q xs out ≡ decide Err (write_tests q xs (length out)) (Ok (length (sheet_text q xs)))
unfolding decide writing_sheet judged
written_decides q xs out =
    by_test (standard_in_range q)
    (λ e.
    let opens : opened q ≡ Ok (empty q) = rw e in
    ap (then (length (sheet_text q xs)) (length out) xs) opens ∙ records_decide (length (sheet_text q xs)) (length out) xs (empty q) (is_true _ (opened_sound q (empty q) opens)) ∙ rw e)
    (λ e. rw e)

-- the bytes that were written
front : (text out : List ℕ) (n : ℕ) → n ≡ length text → take n (laid_by (Ok n) text out) ≡ text
unfolding laid_by
front text out n e = rw e (take-append_seam text _)

-- a sheet that reads cleanly: room for its records
rooms : (text : List ℕ) (places : ℕ) (c : Campaign) → (meaning text).end ≡ Read c
    → resuming text places
    ≡ decide ((λ a. Err (0, 0, a))) (ltb places c.records gives Room c.records ∷ []) (Ok (c.standard, c.records))
unfolding resuming decide
rooms text places c e = rw e

pub request_2 : Request2
unfolding laid_by filled_by resuming campaign_of
request_2 =
    record {
      write = λ q xs out. decided Err (Ok (length (sheet_text q xs))) (λ r s. same_err) (λ r e. impossible (cc)) (write_tests q xs (length out)) (writing_sheet q xs out) (written_decides q xs out);
      enough = λ q xs out n e. let w = wrote q xs out n e in omega (arith, w.bytes, enough q xs w.end w.clean);
      least = (refl, refl);
      refused_sheet = λ text places line column r e. rw e;
      clean_sheet = λ text places c e.
          decided ((λ a. Err (0, 0, a))) (Ok (c.standard, c.records)) own_sheet (λ r z. impossible (cc)) _ (resuming text places) (rooms text places c e);
      bytes_kept = λ r text out. refl;
      records_kept = λ line column r xs slice. refl;
      back = λ q xs out n e.
          let w = wrote q xs out n e in
          ap (λ (text : List ℕ). (meaning text).end) (front (sheet_text q xs) out n w.bytes) ∙ read_back q xs w.end w.clean ∙ ap Read (judged_campaign q xs w.end w.clean);
      again = λ text c out e room. written text c out e room;
      same = λ q xs out n places e room. same_records q xs out n places e room;
    }
  where
    written : (text : List ℕ) (c : Campaign) (out : List ℕ) → (meaning text).end ≡ Read c → length text ≤ length out
        → (writing_sheet c.standard (records_of text) out ≡ Ok (length text)) × (sheet_text c.standard (records_of text) ≡ text)
    written text c out e room =
        let (judges, is) = written_again text c e in
        (sym (all_written c.standard (records_of text) out (ap judged_as (sym judges)) (rw is room)) ∙ ap (λ (l : List ℕ). Ok (length l)) is, is)

    same_records : (q : ℕ) (xs : List ℤ) (out : List ℕ) (n places : ℕ) → writing_sheet q xs out ≡ Ok n → length xs ≤ places
        → (resuming (sheet_text q xs) places ≡ Ok (q, length xs)) × (records_of (sheet_text q xs) ≡ xs)
    same_records q xs out n places e room =
        let w = wrote q xs out n e in
        let d = w.end in
        let standard : d.standard ≡ q = ap (λ (c : Campaign). c.standard) (judged_campaign q xs d w.clean) in
        let count : d.records ≡ length xs = judged_records q xs d w.clean in
        let reads = read_back q xs d w.clean in
        (rw (reads, standard, count, le-ltb places (length xs) room), records_back q xs)
