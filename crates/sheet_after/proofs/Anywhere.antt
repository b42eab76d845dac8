-- However each of today's files is cut into pieces, what is written after yesterday's sheet is what is written for their
-- texts (`after_anywhere`). The sheet's records are clean and stand at the front of the lent ones, so that the files go
-- on from there as they do from the records of other files. Assumes nothing.
use Prim.Native.Nat.{ℕ, ◌+◌, ◌≤◌}
use mathlib.Core.Path.{◌≡◌, refl, sym, ap, subst, ◌∙◌}
use mathlib.Core.Bool.{Bool, true, false, cond, not}
use mathlib.Core.List.{List, ◌++◌, map}
use native.Mathlib.Omega.{arith}
use lib.Dec.{eqb, ltb}
use lib.IntN.{ℤ}
use lib.ListN.{length, take, drop, length-append, length-drop}
use borrow.Author.Tests.{eqb-true, le-ltb}
use Rattle.truth.proofs.Cases.{by_test}
use Rattle.refusal.specs.declared.Refusal.{Refusal}
use Rattle.refusal.specs.declared.Refusal.TheVariants.{BrokenState, Item}
use Rattle.sample_items.specs.declared.Items.{Items}
use Rattle.sample_items.specs.Limits.{item_outside}
use Rattle.campaign_state.specs.declared.Campaign.{Campaign}
use Rattle.campaign_state.specs.State.{most_records}
use Rattle.text.specs.Pieces.{joined}
use Rattle.text.specs.Write.{laid_by}
use Rattle.text.proofs.Laws.{laid_front, written_fits}
use Rattle.sheet_text.specs.declared.Reading.{Reading}
use Rattle.sheet_text.specs.declared.Reading.TheVariants.{Read, Stopped, Waiting}
use Rattle.sheet_text.specs.Sheet.{meaning}
use Rattle.sheet_records.specs.Records.{filled_by, records_of, resumed_from, resuming}
use Rattle.desk_line.specs.declared.Finished.{Finished}
use Rattle.desk_line.specs.Said.{Said, longest_said, putting, put_left}
use Rattle.sheet_files.specs.Files.{failures_in, sheet_from}
use Rattle.sheet_files.specs.Filing.{Desk, finishing, finish_left}
use Rattle.sheet_files.proofs.Clean.{Clean}
use Rattle.sheet_files.proofs.Anywhere.{Kept, Well, Writes, desk_said, from, well_after, well_finished}
use Rattle.sheet_after.specs.After.{after_reading, refused_old, sheet_after}
use Rattle.sheet_after.specs.Taking.{desk_up, day_left, finishing_day, taking_up, taken_left, up_of}
use Rattle.sheet_after.proofs.Old.{front_is, old_clean, old_few, old_many}
use Rattle.std.specs.Prelude.{Result, Ok}

-- ---- a line that fits is put whole
pub puts_whole : (s : Said) (out : List ℕ) → longest_said ≤ length out → length s.line ≤ length out → Writes s out (putting s out) (put_left s out)
unfolding putting put_left laid_by
puts_whole s out room h = rw (le-ltb (length out) longest_said room) (refl, written_fits out 0 s.line (omega (arith, h)) ∙ laid_front out s.line)

-- ---- a sheet that reads cleanly, and today's files
module _ (i : Items) (ok : item_outside i ≡ 0) (old : List ℕ) (c : Campaign) (e : (meaning old).end ≡ Read c)
    (records : List ℤ) (big : most_records ≤ length records) (files : List (List (List ℕ))) where
  abbrev q : ℕ
  q = c.standard

  abbrev n : ℕ
  n = c.records

  abbrev later : List ℤ
  later = records_of old ++ drop n records

  long : length later ≡ length records
  long = length-append (records_of old) (drop n records) ∙ omega (arith, old_many old c e, length-drop n records, old_few old c e, big)

  front : take n later ≡ records_of old
  front = front_is (records_of old) (drop n records) n (old_many old c e)

  kept : Kept q n (failures_in (records_of old)) later
  kept =
      record {
        within = omega (arith, long, old_few old c e, big);
        clean = subst (Clean q) (sym front) (old_clean old c e);
        fails = ap failures_in (sym front);
      }

  abbrev d : Desk
  d = desk_up i n (failures_in (records_of old)) later files

  said : desk_said q d ≡ sheet_from q i (records_of old) (map joined files)
  said = from q i ok files (n + 1) n (failures_in (records_of old)) later kept (omega (arith, long, big)) refl
      ∙ ap (λ l. sheet_from q i l (map joined files)) front

  pub read_writes : (out : List ℕ) → let s = sheet_from q i (records_of old) (map joined files) in
      longest_said ≤ length out → length s.line ≤ length out → Writes s out (finishing q d.filed d.records out) (finish_left q d.filed d.records out)
  read_writes out room fits =
      subst (λ s. Writes s out (finishing q d.filed d.records out) (finish_left q d.filed d.records out)) said
      (well_finished q d.filed d.records out
      (well_after q i files (n + 1) (record { filed = Ok (n, failures_in (records_of old)); records = later }) kept)
      room (subst (λ s. length s.line ≤ length out) (sym said) fits))

-- ---- whatever the sheet reads as
-- by what reading its records comes to
abbrev Day : Items → Result (ℕ × ℕ) (ℕ × ℕ × Refusal) → List ℕ → List ℤ → List (List (List ℕ)) → Said → List ℕ → Type 0
Day i r old records files s out =
    Writes s out (finishing_day (up_of r old) i (filled_by r (records_of old) records) files out) (day_left (up_of r old) i (filled_by r (records_of old) records) files out)

by_reading_lem : (i : Items) → item_outside i ≡ 0 → (old : List ℕ) (r : Reading) → (meaning old).end ≡ r → (records : List ℤ) → most_records ≤ length records
    → (files : List (List (List ℕ))) (out : List ℕ) → let s = after_reading r i old (map joined files) in
    longest_said ≤ length out → length s.line ≤ length out → Day i (resumed_from r (length records)) old records files s out
unfolding filled_by
by_reading_lem i ok old (Read c) e records big files out room fits =
    rw (le-ltb (length records) c.records (omega (arith, old_few old c e, big))) (read_writes i ok old c e records big files out room fits)
by_reading_lem i ok old (Stopped line column r) e records big files out room fits = puts_whole (refused_old line column r) out room fits
by_reading_lem i ok old (Waiting s left) e records big files out room fits = puts_whole (refused_old 0 0 BrokenState) out room fits

-- WHAT IS WRITTEN AFTER YESTERDAY'S SHEET, however each file is cut, is what is written for their texts
pub after_anywhere : (i : Items) (old : List ℕ) (files : List (List (List ℕ))) (records : List ℤ) (out : List ℕ)
    → let s = sheet_after i old (map joined files) in
    let a = taking_up i old (length records) in
    let later = taken_left i old records in
    most_records ≤ length records → longest_said ≤ length out → length s.line ≤ length out
    → Writes s out (finishing_day a i later files out) (day_left a i later files out)
unfolding sheet_after taking_up taken_left resuming
after_anywhere i old files records out big =
    by_test (eqb (item_outside i) 0)
    (λ z. rw z (by_reading_lem i (eqb-true (item_outside i) 0 z) old (meaning old).end refl records big files out))
    (λ z. rw z (puts_whole (refused_old 0 0 (Item (item_outside i))) out))
