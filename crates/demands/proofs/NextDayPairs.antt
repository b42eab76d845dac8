-- The next day of a campaign whose records have two files each: what `bin/sheet --after` writes with an acceleration's
-- level, over the bytes of yesterday's sheet and of today's files. It is said as for one file a record (NextDay): the
-- sheet of some pairs of files, taken up and followed by others, is the sheet of all of them. Assumes nothing.
use Prim.Native.Nat.{ℕ, ◌+◌, ◌≤◌}
use mathlib.Core.Path.{◌≡◌, refl, sym, ap, subst, ◌∙◌}
use mathlib.Core.Bool.{Bool, cond, false, not, true}
use mathlib.Core.List.{List, [], ◌∷◌, ◌++◌, append-nil, map}
use native.Mathlib.Omega.{arith}
use lib.Dec.{eqb, leb, ltb}
use lib.IntN.{ℤ, pos}
use lib.ListN.{length, drop, replicate, take, length-append, length-drop, length-replicate, take-append-drop}
use borrow.Author.Tests.{eqb-true, le-ltb, not-false}
use Rattle.truth.proofs.Cases.{by_test}
use Rattle.refusal.specs.declared.Refusal.{Refusal}
use Rattle.refusal.specs.declared.Refusal.TheVariants.{BrokenState, Item}
use Rattle.sample_channels.specs.Channels.{has_bad}
use Rattle.sample_items.specs.declared.Items.{Items}
use Rattle.sample_items.specs.Limits.{item_outside, most_samples}
use Rattle.crossing_places.specs.Reading.{too_few}
use Rattle.campaign_state.specs.declared.Campaign.{Campaign}
use Rattle.campaign_state.specs.State.{most_records, standard_in_range}
use Rattle.text.specs.Pieces.{joined}
use Rattle.decimal.specs.Lines.{lines_of}
use Rattle.comma_line.specs.Text.{samples_of}
use Rattle.sheet_line.specs.declared.Sheet.TheVariants.{Fresh}
use Rattle.sheet_text.specs.declared.Reading.{Reading}
use Rattle.sheet_text.specs.declared.Reading.TheVariants.{Read, Stopped, Waiting}
use Rattle.sheet_text.specs.Sheet.{meaning, reading_sheet}
use Rattle.sheet_records.specs.Ledger.{sheet_text}
use Rattle.sheet_records.specs.Records.{filled_by, records_of, resumed_from, resuming}
use Rattle.sheet_records.proofs.Back.{read_back, records_back}
use Rattle.desk_line.specs.declared.Finished.{Finished}
use Rattle.desk_line.specs.Said.{Said, longest_said, putting, put_left, read_digit, refused_digit}
use Rattle.comma_pair.specs.Line.{any_wrong, bad_roll, wrong_roll}
use Rattle.comma_pair.specs.Pieces.{acceleration_text, roll_goes_on, roll_text}
use Rattle.sheet_files.specs.Files.{failures_in, most_failures, written}
use Rattle.sheet_files.proofs.Clean.{Clean}
use Rattle.sheet_files.proofs.Anywhere.{Kept, Well, Writes, filed_said}
use Rattle.sheet_after.specs.After.{refused_old}
use Rattle.sheet_after.specs.Taking.{taken_left, taking_up, up_of}
use Rattle.sheet_after.proofs.Anywhere.{puts_whole}
use Rattle.sheet_after.proofs.Front.{enough_of_a_sheet, fresh_few, never_read, over, take_short}
use Rattle.sheet_after.proofs.NextDay.{filed_clean, past_end, standard_is}
use Rattle.sheet_after.proofs.Old.{front_is, old_clean, old_few, old_many}
use Rattle.sheet_pairs.specs.Files.{Texts, pairs_from, pairs_said, record_of_both}
use Rattle.sheet_pairs.specs.Filing.{Comes, Desk, desk_after, finishing, finish_left}
use Rattle.sheet_pairs.proofs.Anywhere.{channel_said, desk_of, desk_said, desk_well, files_said}
use Rattle.sheet_pairs.proofs.Anywhere.{finished_by, from, texts_of, well_after}
use Rattle.std.specs.Prelude.{Result, Ok, Err}

-- ---- the statement
-- what is written for the sheet and the files after it: the items go before the sheet, and the sheet before the files
abbrev pub after_reading : Reading → Items → List ℕ → List Texts → Said
after_reading (Read c) i old pairs = pairs_from c.standard i (records_of old) pairs
after_reading (Stopped line column r) i old pairs = refused_old line column r
after_reading (Waiting s left) i old pairs = refused_old 0 0 BrokenState

abbrev pub pairs_after : Items → List ℕ → List Texts → Said
pairs_after i old pairs =
    cond (not (eqb (item_outside i) 0)) (refused_old 0 0 (Item (item_outside i)))
    (after_reading (meaning old).end i old pairs)

-- today's files after the records that were taken up, each in the turns in which its two files come
abbrev pub desk_up : Items → ℕ → ℕ → List ℤ → List Comes → Desk
desk_up i n failures records pairs =
    desk_after i (n + 1)
    (record { filed = record { filed = Ok (n, failures); channel = 0 }; records = records }) pairs

-- how it ends, and the lent bytes afterwards
abbrev pub finishing_day : Result (ℕ × ℕ × ℕ) (ℕ × ℕ × Refusal) → Items → List ℤ → List Comes → List ℕ → Finished
finishing_day (Ok (q, n, failures)) i records pairs out =
    let d = desk_up i n failures records pairs in
    finishing q d.filed d.records out
finishing_day (Err (line, column, r)) i records pairs out = putting (refused_old line column r) out

abbrev pub day_left : Result (ℕ × ℕ × ℕ) (ℕ × ℕ × Refusal) → Items → List ℤ → List Comes → List ℕ → List ℕ
day_left (Ok (q, n, failures)) i records pairs out =
    let d = desk_up i n failures records pairs in
    finish_left q d.filed d.records out
day_left (Err (line, column, r)) i records pairs out = put_left (refused_old line column r) out

pub record NextDayPairs : Type 0 where
  -- the sheet of some pairs of files, taken up and followed by others, is the sheet of all of them; and where the files
  -- after it are at fault it is refused as the sheet of all would be
  pub next_day : (q : ℕ) (i : Items) (xs ys : List Texts) → (pairs_said q i xs).end ≡ 48
      → pairs_after i (pairs_said q i xs).line ys ≡ pairs_said q i (xs ++ ys)
  -- what is written does not depend on how today's files come; it is put whole where there is room for it, with the
  -- records in a lent slice that has a place for each
  pub pieces : (i : Items) (old : List ℕ) (pairs : List Comes) (records : List ℤ) (out : List ℕ)
      → let s = pairs_after i old (map texts_of pairs) in
      let a = taking_up i old (length records) in
      let later = taken_left i old records in
      most_records ≤ length records → longest_said ≤ length out → length s.line ≤ length out
      → (finishing_day a i later pairs out ≡ record { put = length s.line; end = s.end })
      × (day_left a i later pairs out ≡ s.line ++ drop (length s.line) out)
  -- of a sheet of any length the first 1,800,086 bytes decide
  pub first_bytes : (i : Items) (pairs : List Texts) (n : ℕ) → 1800086 ≤ n → (old : List ℕ)
      → pairs_after i (take n old) pairs ≡ pairs_after i old pairs

-- ---- files that made a sheet made records, and the files after them go on from those
record Through (q : ℕ) (i : Items) (before : List ℤ) (xs ys : List Texts) : Type 0 where
  pub after : List ℤ
  pub is : pairs_from q i before xs ≡ written q after
  pub on : pairs_from q i before (xs ++ ys) ≡ pairs_from q i after ys

-- past its tests a pair leaves its record
passed : (q : ℕ) (i : Items) (before : List ℤ) (t : Texts) → let ls = lines_of t.roll in
    let ms = lines_of t.acceleration in
    wrong_roll i.step ls ms ≡ false → any_wrong i.step ms ≡ false → not (eqb (length ls) (length ms)) ≡ false
    → bad_roll (samples_of ls) (samples_of ms) ≡ false → has_bad (samples_of ms) ≡ false
    → ltb (most_samples i.step i.ramp) (length ls) ≡ false → too_few i.ramp (length ls) ≡ false
    → leb most_records (length before) ≡ false → leb most_failures (failures_in before) ≡ false → (rest : List Texts)
    → pairs_from q i before (t ∷ rest) ≡ pairs_from q i (before ++ (record_of_both i ls ms ∷ [])) rest
unfolding pairs_from
passed q i before t a b c d f g h k l rest = rw (a, b, c, d, f, g, h, k, l)

went_through : (q : ℕ) (i : Items) (ys xs : List Texts) (before : List ℤ)
    → (pairs_from q i before xs).end ≡ read_digit → Through q i before xs ys
unfolding pairs_from
went_through q i ys [] before e = record { after = before; is = refl; on = refl }
went_through q i ys (t ∷ xs) before e =
    let ls = lines_of t.roll in
    let ms = lines_of t.acceleration in
    let (a, e1) = past_end (wrong_roll i.step ls ms) _ _ e refl in
    let (b, e2) = past_end (any_wrong i.step ms) _ _ e1 refl in
    let (c, e3) = past_end (not (eqb (length ls) (length ms))) _ _ e2 refl in
    let (d, e4) = past_end (bad_roll (samples_of ls) (samples_of ms)) _ _ e3 refl in
    let (f, e5) = past_end (has_bad (samples_of ms)) _ _ e4 refl in
    let (g, e6) = past_end (ltb (most_samples i.step i.ramp) (length ls)) _ _ e5 refl in
    let (h, e7) = past_end (too_few i.ramp (length ls)) _ _ e6 refl in
    let (k, e8) = past_end (leb most_records (length before)) _ _ e7 refl in
    let (l, e9) = past_end (leb most_failures (failures_in before)) _ _ e8 refl in
    let u = went_through q i ys xs (before ++ (record_of_both i ls ms ∷ [])) e9 in
    let go = passed q i before t a b c d f g h k l in
    record { after = u.after; is = go xs ∙ u.is; on = go (xs ++ ys) ∙ u.on }

-- ---- the records of a sheet that files made are clean
abbrev whole : Texts → Comes
whole t = record { turns = record { roll = t.roll; acceleration = t.acceleration } ∷ []; rest = roll_goes_on [] }

whole_is : (t : Texts) → texts_of (whole t) ≡ t
unfolding roll_text acceleration_text joined
whole_is t = λ j. record { roll = append-nil t.roll j; acceleration = append-nil t.acceleration j }

whole_files : (xs : List Texts) → map texts_of (map whole xs) ≡ xs
whole_files [] = refl
whole_files (t ∷ xs) =
    ap (λ u. u ∷ map texts_of (map whole xs)) (whole_is t) ∙ ap (λ l. t ∷ l) (whole_files xs)

said_clean : (q : ℕ) (f : Result (ℕ × ℕ) (ℕ × ℕ × Refusal)) (channel : ℕ) (b : Bool) (rs after : List ℤ) → Well q f rs
    → cond b (filed_said q f rs) (channel_said q f channel rs) ≡ written q after → Clean q after
said_clean q f channel true rs after w e = filed_clean q f rs after w e
said_clean q (Ok (n, failures)) channel false rs after w e =
    filed_clean q (Ok (n, failures)) rs after w e
said_clean q (Err (number, line, r)) channel false rs after w e =
    let z : refused_digit ≡ read_digit = ap (λ (s : Said). s.end) e in
    absurd (omega (arith, z))

abbrev places : List ℤ
places = replicate most_records (pos 0)

made_clean : (q : ℕ) (i : Items) (xs : List Texts) (after : List ℤ) → pairs_said q i xs ≡ written q after
    → Clean q after
made_clean q i xs after e =
    let d = desk_of q i places (map whole xs) in
    said_clean q d.filed.filed d.filed.channel (eqb d.filed.channel 0) d.records after
    (desk_well q i places (map whole xs))
    (files_said q i places (map whole xs) (omega (arith, length-replicate most_records (pos 0)))
    ∙ ap (pairs_said q i) (whole_files xs)
    ∙ e)

-- ---- a sheet that was written of clean records, taken up
taken_up : (q : ℕ) (i : Items) → eqb (item_outside i) 0 ≡ true → (rs : List ℤ) → Clean q rs → (ys : List Texts)
    → pairs_after i (sheet_text q rs) ys ≡ pairs_from q i rs ys
taken_up q i ok rs k ys =
    rw ok
    (ap (λ r. after_reading r i (sheet_text q rs) ys) (read_back q rs k.campaign k.taken)
    ∙ ap (λ p. pairs_from p i (records_of (sheet_text q rs)) ys) (standard_is q i ok rs k [])
    ∙ ap (λ l. pairs_from q i l ys) (records_back q rs))

-- ---- a standard and items in range leave it to the files
module _ (q : ℕ) (i : Items) where
  opens : (xs : List Texts) → (pairs_said q i xs).end ≡ read_digit
      → (not (standard_in_range q) ≡ false) × (not (eqb (item_outside i) 0) ≡ false)
  unfolding pairs_said
  opens xs e =
      let (a, e1) = past_end (not (standard_in_range q)) _ _ e refl in
      let (b, e2) = past_end (not (eqb (item_outside i) 0)) _ _ e1 refl in
      (a, b)

  said_from : not (standard_in_range q) ≡ false → not (eqb (item_outside i) 0) ≡ false → (xs : List Texts)
      → pairs_said q i xs ≡ pairs_from q i [] xs
  unfolding pairs_said
  said_from a b xs = rw (a, b)

by_days : (q : ℕ) (i : Items) (xs ys : List Texts) → (pairs_said q i xs).end ≡ read_digit
    → pairs_after i (pairs_said q i xs).line ys ≡ pairs_said q i (xs ++ ys)
by_days q i xs ys e =
    let (a, b) = opens q i xs e in
    let is = said_from q i a b in
    let t = went_through q i ys xs [] (ap (λ (s : Said). s.end) (sym (is xs)) ∙ e) in
    let made : pairs_said q i xs ≡ written q t.after = is xs ∙ t.is in
    ap (λ (s : Said). pairs_after i s.line ys) made
    ∙ taken_up q i (not-false _ b) t.after (made_clean q i xs t.after made) ys
    ∙ sym t.on
    ∙ sym (is (xs ++ ys))

-- ---- a sheet that reads cleanly, and today's files
module _ (i : Items) (ok : item_outside i ≡ 0) (old : List ℕ) (c : Campaign) (e : (meaning old).end ≡ Read c)
    (records : List ℤ) (big : most_records ≤ length records) (pairs : List Comes) where
  abbrev q : ℕ
  q = c.standard

  abbrev n : ℕ
  n = c.records

  abbrev later : List ℤ
  later = records_of old ++ drop n records

  long : length later ≡ length records
  long =
      length-append (records_of old) (drop n records)
      ∙ omega (arith, old_many old c e, length-drop n records, old_few old c e, big)

  front : take n later ≡ records_of old
  front = front_is (records_of old) (drop n records) n (old_many old c e)

  kept : Kept q n (failures_in (records_of old)) later
  kept =
      record {
        within = omega (arith, long, old_few old c e, big);
        clean = subst (Clean q) (sym front) (old_clean old c e);
        fails = ap failures_in (sym front);
      }

  abbrev d : Desk
  d = desk_up i n (failures_in (records_of old)) later pairs

  said : desk_said q d ≡ pairs_from q i (records_of old) (map texts_of pairs)
  said = from q i ok pairs (n + 1) n (failures_in (records_of old)) later kept (omega (arith, long, big)) refl
      ∙ ap (λ l. pairs_from q i l (map texts_of pairs)) front

  read_writes : (out : List ℕ) → let s = pairs_from q i (records_of old) (map texts_of pairs) in
      longest_said ≤ length out → length s.line ≤ length out
      → Writes s out (finishing q d.filed d.records out) (finish_left q d.filed d.records out)
  read_writes out room fits =
      subst
      (λ s. Writes s out (finishing q d.filed d.records out) (finish_left q d.filed d.records out))
      said
      (finished_by q d.filed.filed d.filed.channel (eqb d.filed.channel 0) d.records out
      (well_after q i pairs (n + 1)
      (record { filed = record { filed = Ok (n, failures_in (records_of old)); channel = 0 }; records = later })
      kept)
      room (subst (λ s. length s.line ≤ length out) (sym said) fits))

-- ---- whatever the sheet reads as
by_reading_lem : (i : Items) → item_outside i ≡ 0 → (old : List ℕ) (r : Reading) → (meaning old).end ≡ r
    → (records : List ℤ) → most_records ≤ length records → (pairs : List Comes) (out : List ℕ)
    → let s = after_reading r i old (map texts_of pairs) in
    let m = resumed_from r (length records) in
    longest_said ≤ length out → length s.line ≤ length out
    → Writes s out (finishing_day (up_of m old) i (filled_by m (records_of old) records) pairs out)
    (day_left (up_of m old) i (filled_by m (records_of old) records) pairs out)
unfolding filled_by
by_reading_lem i ok old (Read c) e records big pairs out room fits =
    rw (le-ltb (length records) c.records (omega (arith, old_few old c e, big)))
    (read_writes i ok old c e records big pairs out room fits)
by_reading_lem i ok old (Stopped line column r) e records big pairs out room fits =
    puts_whole (refused_old line column r) out room fits
by_reading_lem i ok old (Waiting s left) e records big pairs out room fits =
    puts_whole (refused_old 0 0 BrokenState) out room fits

by_pieces : (i : Items) (old : List ℕ) (pairs : List Comes) (records : List ℤ) (out : List ℕ)
    → let s = pairs_after i old (map texts_of pairs) in
    let a = taking_up i old (length records) in
    let later = taken_left i old records in
    most_records ≤ length records → longest_said ≤ length out → length s.line ≤ length out
    → Writes s out (finishing_day a i later pairs out) (day_left a i later pairs out)
unfolding taking_up taken_left resuming
by_pieces i old pairs records out big =
    by_test (eqb (item_outside i) 0)
    (λ z. rw z (by_reading_lem i (eqb-true (item_outside i) 0 z) old (meaning old).end refl records big pairs out))
    (λ z. rw z (puts_whole (refused_old 0 0 (Item (item_outside i))) out))

-- ---- the first bytes decide: a sheet that goes on past them has stopped within them
module _ (i : Items) (pairs : List Texts) where
  stopped : (old : List ℕ) (line column : ℕ) (r : Refusal) → (meaning old).end ≡ Stopped line column r
      → pairs_after i old pairs
      ≡ cond (not (eqb (item_outside i) 0)) (refused_old 0 0 (Item (item_outside i))) (refused_old line column r)
  stopped old line column r e = rw e

  by_front : (n : ℕ) → enough_of_a_sheet ≤ n → (old : List ℕ) (r : Reading)
      → (reading_sheet true (lines_of (take n old)) Fresh).end ≡ r
      → pairs_after i (take n old) pairs ≡ pairs_after i old pairs
  by_front n h old (Read c) e = absurd (never_read (lines_of (take n old)) Fresh c e)
  by_front n h old (Waiting s left) e =
      ap (λ (l : List ℕ). pairs_after i l pairs)
      (take_short n old (omega (arith, h, fresh_few (take n old) s left e)))
  by_front n h old (Stopped line column r) e =
      stopped (take n old) line column r
      (ap (λ (l : List ℕ). (meaning l).end) (sym (append-nil (take n old))) ∙ over (take n old) [] line column r e)
      ∙ sym
      (stopped old line column r
      (ap (λ (l : List ℕ). (meaning l).end) (sym (take-append-drop n old))
      ∙ over (take n old) (drop n old) line column r e))

  front_decides : (n : ℕ) → enough_of_a_sheet ≤ n → (old : List ℕ)
      → pairs_after i (take n old) pairs ≡ pairs_after i old pairs
  front_decides n h old = by_front n h old (reading_sheet true (lines_of (take n old)) Fresh).end refl

pub next_days : NextDayPairs
next_days = record { next_day = by_days; pieces = by_pieces; first_bytes = front_decides }
