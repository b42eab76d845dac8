-- However the two files of each record are cut, and in whatever order their pieces come, what is written for them is what
-- is written for their texts (`pairs_anywhere`). The records that were filed stand at the front of the lent ones and are
-- clean, as with one file a record; what is said of the records so far and of those after them is the definition's,
-- record by record (`from`). Assumes nothing.
use Prim.Native.Nat.{ℕ, zero, suc, ◌+◌, ◌≤◌, ◌<◌}
use mathlib.Core.Path.{◌≡◌, refl, sym, ap, subst, ◌∙◌}
use mathlib.Core.Bool.{Bool, true, false, cond, not}
use mathlib.Core.List.{List, [], ◌∷◌, ◌++◌, map}
use native.Mathlib.Omega.{arith}
use lib.Dec.{eqb, leb}
use lib.IntN.{ℤ}
use lib.ListN.{length, take, drop, set, length-set}
use lib.Seq.{length-take-le}
use borrow.Author.Tests.{eqb-true, lt-leb, leb-false, le-ltb}
use Rattle.truth.proofs.Cases.{by_test}
use Rattle.refusal.specs.declared.Refusal.{Refusal}
use Rattle.refusal.specs.declared.Refusal.TheVariants.{BrokenState, CampaignFull, Item, RowsUsedUp, TooShort}
use Rattle.sample_items.specs.declared.Items.{Items}
use Rattle.sample_items.specs.Limits.{item_outside, longest_time}
use Rattle.crossing_places.specs.Reading.{too_few}
use Rattle.record_state.specs.declared.Record.{Record}
use Rattle.record_state.specs.State.{sound, state_of}
use Rattle.record_end.specs.declared.RecordResult.{RecordResult}
use Rattle.record_end.specs.Result.{ending, result_of}
use Rattle.record_end.proofs.Given.{given_bounds}
use Rattle.campaign_state.specs.State.{most_records, standard_in_range}
use Rattle.text.specs.Write.{laid_by}
use Rattle.text.proofs.Laws.{laid_front, written_fits}
use Rattle.decimal.specs.Lines.{lines_of}
use Rattle.desk_line.specs.declared.Finished.{Finished}
use Rattle.desk_line.specs.Said.{Said, longest_said, putting, put_left}
use Rattle.comma_count.specs.Line.{result_for}
use Rattle.comma_pair.specs.Line.{both_channels, end_of_texts, pair_then}
use Rattle.comma_pair.specs.Taking.{end_of, opening}
use Rattle.comma_pair.specs.Pieces.{carrying, roll_text, acceleration_text}
use Rattle.comma_pair.proofs.Cut.{end_anywhere}
use Rattle.sheet_files.specs.Files.{failures_in, most_failures, record_in, refused_record, written}
use Rattle.sheet_files.specs.Filing.{opened_sheet, step_taken, step_as, step_ended, step_in, filed_of, left_by, is_over}
use Rattle.sheet_files.proofs.Anywhere.{Kept, Well, kept_next, is, well_step, filed_said, Writes, well_finished}
use Rattle.sheet_files.proofs.Clean.{clean_none}
use Rattle.sheet_pairs.specs.declared.FiledPairs.{FiledPairs}
use Rattle.sheet_pairs.specs.Files.{Texts, refused_record_of, pairs_from, pairs_said}
use Rattle.sheet_files.specs.Filing as files
use Rattle.sheet_pairs.specs.Filing as Filing
use Rattle.sheet_pairs.specs.Filing.{opened_pairs, adding_end, end_left, adding, adding_left, Comes, Desk, with_pair, desk_after, finishing, finish_left}
use Rattle.sheet_pairs.proofs.Record.{on_end, end_then}
use Rattle.comma_pair.specs.declared.PairFault.TheVariants.{Plain, AtLine}
use Rattle.comma_pair.specs.declared.PairFault.{PairFault}
use Rattle.std.specs.Prelude.{Result, Ok, Err}

-- the whole texts of what comes
abbrev pub texts_of : Comes → Texts
texts_of c = record { roll = roll_text c.turns c.rest; acceleration = acceleration_text c.turns c.rest }

-- ---- what was filed stands at the front, and is clean
well_end : (q number : ℕ) (f : Result (ℕ × ℕ) (ℕ × ℕ × Refusal)) (e : Result Record PairFault) (records : List ℤ) →
    Well q f records → is_over f ≡ false →
    Well q (adding_end number f e (length records)).filed (end_left number f e records)
well_end q number f (Ok r) records w o = well_step q number f (Ok r) records w
well_end q number f (Err (Plain p)) records w o = tt
well_end q number f (Err (AtLine line p channel)) records w o = tt

well_add : (q number : ℕ) (a : FiledPairs) (e : Result Record PairFault) (records : List ℤ) →
    Well q a.filed records → Well q (adding number a e (length records)).filed (adding_left number a e records)
well_add q number a e records w =
    by_test (is_over a.filed)
    (λ o. rw o w)
    (λ o. rw o (well_end q number a.filed e records w o))

pub well_after : (q : ℕ) (i : Items) (pairs : List Comes) (number : ℕ) (d : Desk) → Well q d.filed.filed d.records
    → let l = desk_after i number d pairs in Well q l.filed.filed l.records
unfolding desk_after
well_after q i [] number d w = w
well_after q i (c ∷ pairs) number d w =
    well_after q i pairs (number + 1) (with_pair i number d c) (well_add q number d.filed (end_of (carrying (opening i) [] [] c.turns c.rest)) d.records w)

-- ---- what is said of what was filed
abbrev pub channel_said : ℕ → Result (ℕ × ℕ) (ℕ × ℕ × Refusal) → ℕ → List ℤ → Said
channel_said q (Ok (n, failures)) channel records = written q (take n records)
channel_said q (Err (number, line, r)) channel records = refused_record_of number line r channel

abbrev pub pairs_filed : ℕ → FiledPairs → List ℤ → Said
pairs_filed q a records = cond (eqb a.channel 0) (filed_said q a.filed records) (channel_said q a.filed a.channel records)

abbrev pub desk_said : ℕ → Desk → Said
desk_said q d = pairs_filed q d.filed d.records

refused_stays : (i : Items) (pairs : List Comes) (number first line : ℕ) (p : Refusal) (channel : ℕ) (records : List ℤ)
    → let d : Desk = record { filed = record { filed = Err (first, line, p); channel = channel }; records = records } in desk_after i number d pairs ≡ d
unfolding desk_after
refused_stays i [] number first line p channel records = refl
refused_stays i (c ∷ pairs) number first line p channel records = refused_stays i pairs (number + 1) first line p channel records

-- a sound record of n samples, ended
ending_as : (r : Record) (n : ℕ) (x : RecordResult) → sound r ≡ true → r.n ≡ n → result_of r ≡ x → ending r ≡ cond (too_few r.items.ramp n) (Err TooShort) (Ok x)
unfolding ending
ending_as r n x s e g =
    ap (λ b. cond (not b) (Err BrokenState) (cond (too_few r.items.ramp r.n) (Err TooShort) (Ok (result_of r)))) s
    ∙ ap (λ y. cond (too_few r.items.ramp r.n) (Err TooShort) (Ok y)) g
    ∙ ap (λ m. cond (too_few r.items.ramp m) (Err TooShort) (Ok x)) e

module _ (q : ℕ) (i : Items) (ok : item_outside i ≡ 0) where
  -- what is said after so many records, whatever they are
  abbrev pub Later : ℕ → List Comes → Type 0
  Later number pairs =
      (n failures : ℕ) (records : List ℤ) → Kept q n failures records → most_records ≤ length records → number ≡ n + 1
      → desk_said q (desk_after i number (record { filed = record { filed = Ok (n, failures); channel = 0 }; records = records }) pairs) ≡ pairs_from q i (take n records) (map texts_of pairs)

  -- one record and those after it
  module _ (c : Comes) (pairs : List Comes) (number : ℕ) (after : Later (number + 1) pairs)
      (n failures : ℕ) (records : List ℤ) (k : Kept q n failures records) (big : most_records ≤ length records) (e : number ≡ n + 1) where
    abbrev ls : List (List ℕ)
    ls = lines_of (texts_of c).roll

    abbrev ms : List (List ℕ)
    ms = lines_of (texts_of c).acceleration

    abbrev whole : Record
    whole = state_of i (both_channels ls ms)

    abbrev result : RecordResult
    result = result_for i (both_channels ls ms)

    abbrev later : Result (ℕ × ℕ) (ℕ × ℕ × Refusal) → List ℤ → Said
    later f l = desk_said q (desk_after i (number + 1) (record { filed = record { filed = f; channel = 0 }; records = l }) pairs)

    -- after a record
    abbrev later_than : Record → Said
    later_than r = later (filed_of (step_ended number n failures r (length records))) (left_by (step_ended number n failures r (length records)) records)

    abbrev later_by : Result Record PairFault → Said
    later_by x =
        desk_said q (desk_after i (number + 1) (record { filed = adding_end number (Ok (n, failures)) x (length records); records = end_left number (Ok (n, failures)) x records }) pairs)

    abbrev rest : Said
    rest = pairs_from q i (take n records ++ (record_in result ∷ [])) (map texts_of pairs)

    abbrev proper : Said
    proper = cond (leb most_records n) (refused_record number 0 CampaignFull) (cond (leb most_failures failures) (refused_record number 0 RowsUsedUp) rest)

    stays : (p : Refusal) → later (Err (number, 0, p)) records ≡ refused_record number 0 p
    stays p = ap (desk_said q) (refused_stays i pairs (number + 1) number 0 p 0 records)

    -- with the channel that is told
    abbrev told : ℕ → Refusal → ℕ → Said
    told line p channel = cond (eqb channel 0) (refused_record number line p) (refused_record_of number line p channel)

    by_end : (x : Result Record PairFault) → later_by x ≡ on_end (refused_record number 0) told later_than x
    by_end (Ok r) = refl
    by_end (Err (Plain p)) = stays p
    by_end (Err (AtLine line p channel)) = ap (desk_said q) (refused_stays i pairs (number + 1) number line p channel records)

    module _ (low : 1 ≤ result.exposure) (high : result.exposure ≤ longest_time) where
      placed : n < most_records → failures < most_failures → later (Ok (n + 1, cond (eqb result.first 0) failures (failures + 1))) (set records n (record_in result)) ≡ rest
      placed few left =
          let room : n < length records = omega (arith, few, big) in
          let x = record_in result in
          after (n + 1) (cond (eqb result.first 0) failures (failures + 1)) (set records n x)
          (kept_next q n failures records result k low high few left room)
          (omega (arith, big, length-set records n x))
          (ap (λ m. m + 1) e)
          ∙ ap (λ l. pairs_from q i l (map texts_of pairs)) (is q n failures records result k low high few left room)

      taken : later (filed_of (step_taken number n failures result (length records))) (left_by (step_taken number n failures result (length records)) records) ≡ proper
      unfolding step_taken
      taken =
          by_test (leb most_records n)
          (λ a. rw a (stays CampaignFull))
          (λ a.
          let few = leb-false most_records n a in
          by_test (leb most_failures failures)
          (λ b. rw (a, b) (stays RowsUsedUp))
          (λ b. rw (a, b, lt-leb (length records) n (omega (arith, few, big))) (placed few (leb-false most_failures failures b))))

    abbrev later_as : Result RecordResult Refusal → Said
    later_as y = later (filed_of (step_as number n failures y (length records))) (left_by (step_as number n failures y (length records)) records)

    module _ (s : sound whole ≡ true) (m : whole.n ≡ length ls) where
      result-is : result_of whole ≡ result
      unfolding state_of result_for
      result-is = refl

      ended_is : ending whole ≡ cond (too_few i.ramp (length ls)) (Err TooShort) (Ok result)
      unfolding state_of
      ended_is = ending_as whole (length ls) result s m result-is

      by_few : (b : Bool) → too_few i.ramp (length ls) ≡ b
          → later_as (cond b (Err TooShort) (Ok result)) ≡ cond b (refused_record number 0 TooShort) proper
      by_few true f = stays TooShort
      by_few false f = let b = given_bounds whole result (ended_is ∙ rw f) in taken b.0 b.1

      record_filed : later_than whole ≡ cond (too_few i.ramp (length ls)) (refused_record number 0 TooShort) proper
      record_filed = ap later_as ended_is ∙ by_few (too_few i.ramp (length ls)) refl

    abbrev Said-by : ℕ → ℕ → ℕ → Said
    Said-by num many fails =
        pair_then i (refused_record num 0) (refused_record_of num) ls ms
        (cond (too_few i.ramp (length ls)) (refused_record num 0 TooShort)
        (cond (leb most_records many) (refused_record num 0 CampaignFull) (cond (leb most_failures fails) (refused_record num 0 RowsUsedUp) rest)))

    one_pair : later_by (end_of (carrying (opening i) [] [] c.turns c.rest)) ≡ Said-by number n failures
    one_pair =
        ap later_by (end_anywhere i c.turns c.rest)
        ∙ by_end (end_of_texts i (texts_of c).roll (texts_of c).acceleration)
        ∙ end_then i ok ls ms (refused_record number 0) told later_than (cond (too_few i.ramp (length ls)) (refused_record number 0 TooShort) proper) record_filed

    -- the same by the list of the records
    by_list : Said-by number n failures ≡ Said-by (length (take n records) + 1) (length (take n records)) (failures_in (take n records))
    by_list =
        let many : n ≡ length (take n records) = sym (length-take-le n records k.within) in
        let num : number ≡ length (take n records) + 1 = e ∙ ap (λ m. m + 1) many in
        λ j. Said-by (num j) (many j) (k.fails j)

  pub from : (pairs : List Comes) (number : ℕ) → Later number pairs
  unfolding desk_after pairs_from
  from [] number n failures records k big e = refl
  from (c ∷ pairs) number n failures records k big e =
      one_pair c pairs number (from pairs (number + 1)) n failures records k big e
      ∙ by_list c pairs number (from pairs (number + 1)) n failures records k big e

-- WHAT IS SAID OF THE FILES, however each comes, is what is said of their texts
abbrev pub desk_of : ℕ → Items → List ℤ → List Comes → Desk
desk_of q i records pairs = desk_after i 1 (record { filed = opened_pairs q i; records = records }) pairs

module _ (q : ℕ) (i : Items) (records : List ℤ) where
  none_kept_lem : standard_in_range q ≡ true → Kept q 0 0 records
  unfolding failures_in
  none_kept_lem s = record { within = omega arith; clean = clean_none q s; fails = refl }

  pub files_said : (pairs : List Comes) → most_records ≤ length records → desk_said q (desk_of q i records pairs) ≡ pairs_said q i (map texts_of pairs)
  unfolding opened_sheet pairs_said
  files_said pairs big =
      by_test (standard_in_range q)
      (λ s.
      by_test (eqb (item_outside i) 0)
      (λ z. rw (s, z) (from q i (eqb-true (item_outside i) 0 z) pairs 1 0 0 records (none_kept_lem s) big refl))
      (λ z. rw (s, z) (ap (desk_said q) (refused_stays i pairs 1 0 0 (Item (item_outside i)) 0 records))))
      (λ s. rw s (ap (desk_said q) (refused_stays i pairs 1 0 0 (Item 5) 0 records)))

  opened_well : Well q (opened_sheet q i) records
  unfolding opened_sheet
  opened_well =
      by_test (standard_in_range q)
      (λ s. by_test (eqb (item_outside i) 0) (λ z. rw (s, z) (none_kept_lem s)) (λ z. rw (s, z) tt))
      (λ s. rw s tt)

  pub desk_well : (pairs : List Comes) → let d = desk_of q i records pairs in Well q d.filed.filed d.records
  desk_well pairs = well_after q i pairs 1 (record { filed = opened_pairs q i; records = records }) opened_well

-- ---- and with room it is written so
channel_finished : (q : ℕ) (f : Result (ℕ × ℕ) (ℕ × ℕ × Refusal)) (channel : ℕ) (records : List ℤ) (out : List ℕ) →
    Well q f records →
    longest_said ≤ length out → length (channel_said q f channel records).line ≤ length out
    → Writes (channel_said q f channel records) out (Filing.channel_put q f channel records out) (Filing.channel_left q f channel records out)
unfolding putting put_left laid_by
channel_finished q (Ok (n, failures)) channel records out w room h = well_finished q (Ok (n, failures)) records out w room h
channel_finished q (Err (number, line, r)) channel records out w room h =
    let text = (refused_record_of number line r channel).line in
    rw (le-ltb (length out) longest_said room) (refl, written_fits out 0 text (omega (arith, h)) ∙ laid_front out text)

pub finished_by : (q : ℕ) (f : Result (ℕ × ℕ) (ℕ × ℕ × Refusal)) (channel : ℕ) (b : Bool) (records : List ℤ) (out : List ℕ) → Well q f records → longest_said ≤ length out
    → length (cond b (filed_said q f records) (channel_said q f channel records)).line ≤ length out
    → Writes (cond b (filed_said q f records) (channel_said q f channel records)) out
    (cond b (files.finishing q f records out) (Filing.channel_put q f channel records out))
    (cond b (files.finish_left q f records out) (Filing.channel_left q f channel records out))
finished_by q f channel true records out w room h = well_finished q f records out w room h
finished_by q f channel false records out w room h = channel_finished q f channel records out w room h

-- WHAT IS WRITTEN FOR THE FILES OF A CAMPAIGN OF TWO CHANNELS, however each comes, is what is written for their texts
pub pairs_anywhere : (q : ℕ) (i : Items) (pairs : List Comes) (records : List ℤ) (out : List ℕ)
    → let s = pairs_said q i (map texts_of pairs) in
    let d = desk_of q i records pairs in
    most_records ≤ length records → longest_said ≤ length out → length s.line ≤ length out
    → Writes s out (finishing q d.filed d.records out) (finish_left q d.filed d.records out)
pairs_anywhere q i pairs records out big room fits =
    let d = desk_of q i records pairs in
    let same = files_said q i records pairs big in
    subst (λ s. Writes s out (finishing q d.filed d.records out) (finish_left q d.filed d.records out)) same
    (finished_by q d.filed.filed d.filed.channel (eqb d.filed.channel 0) d.records out (desk_well q i records pairs) room (subst (λ s. length s.line ≤ length out) (sym same) fits))
