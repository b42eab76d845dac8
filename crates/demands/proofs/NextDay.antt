-- The next day: what `bin/sheet --after` writes, over the bytes of yesterday's sheet and of today's files. It is the
-- sheet of all the records in their order, yesterday's and then today's: taken up and followed by other files, the sheet
-- of some files is the sheet of all of them. Assumes nothing.
use mathlib.Core.Path.{◌≡◌, refl}
use mathlib.Core.Bool.{cond, false, not, true}
use mathlib.Core.List.{List, [], ◌∷◌, ◌++◌, map}
use Prim.Native.Nat.{ℕ, ◌≤◌}
use lib.Dec.{eqb}
use lib.IntN.{ℤ}
use lib.ListN.{length, take, drop}
use Rattle.refusal.specs.declared.Refusal.{Refusal}
use Rattle.refusal.specs.declared.Refusal.TheVariants.{Item}
use Rattle.sample_items.specs.declared.Items.{Items}
use Rattle.sample_items.specs.Limits.{item_outside}
use Rattle.campaign_state.specs.declared.Campaign.{Campaign}
use Rattle.campaign_state.specs.State.{most_records}
use Rattle.text.specs.Pieces.{joined}
use Rattle.sheet_text.specs.declared.Reading.TheVariants.{Read, Stopped}
use Rattle.sheet_text.specs.Sheet.{meaning}
use Rattle.sheet_records.specs.Records.{records_of}
use Rattle.desk_line.specs.Said.{Said, longest_said}
use Rattle.sheet_files.specs.Files.{sheet_from, sheet_said}
use Rattle.sheet_after.specs.After.{refused_old, sheet_after}
use Rattle.sheet_after.specs.Taking.{day_left, finishing_day, taken_left, taking_up}
use Rattle.sheet_after.proofs.Anywhere.{after_anywhere}
use Rattle.sheet_after.proofs.Front.{front_decides}
use Rattle.sheet_after.proofs.NextDay.{next_day, none_today}

-- ---- the statement
pub record NextDay : Type 0 where
  -- an item goes before yesterday's sheet; then its first fault, told by its own line; else today's files follow its
  -- records, as they follow the records of other files
  pub item : (i : Items) (old : List ℕ) (texts : List (List ℕ)) → not (eqb (item_outside i) 0) ≡ true → sheet_after i old texts ≡ refused_old 0 0 (Item (item_outside i))
  pub fault : (i : Items) (old : List ℕ) (texts : List (List ℕ)) → not (eqb (item_outside i) 0) ≡ false → {line column : ℕ} {r : Refusal}
      → (meaning old).end ≡ Stopped line column r → sheet_after i old texts ≡ refused_old line column r
  pub read : (i : Items) (old : List ℕ) (texts : List (List ℕ)) → not (eqb (item_outside i) 0) ≡ false → {c : Campaign}
      → (meaning old).end ≡ Read c → sheet_after i old texts ≡ sheet_from c.standard i (records_of old) texts
  -- the sheet of some files, taken up and followed by others, is the sheet of all of them; and where the files after it
  -- are at fault it is refused as the sheet of all would be
  pub next_day : (q : ℕ) (i : Items) (xs ys : List (List ℕ)) → (sheet_said q i xs).end ≡ 48 → sheet_after i (sheet_said q i xs).line ys ≡ sheet_said q i (xs ++ ys)
  -- any sheet that reads, taken up with no file, is written again byte for byte
  pub none_today : (i : Items) (old : List ℕ) (c : Campaign) → eqb (item_outside i) 0 ≡ true → (meaning old).end ≡ Read c → sheet_after i old [] ≡ record { line = old; end = 48 }
  -- what is written does not depend on the pieces in which each of today's files comes; it is put whole where there is
  -- room for it, with the records in a lent slice that has a place for each
  pub pieces : (i : Items) (old : List ℕ) (files : List (List (List ℕ))) (records : List ℤ) (out : List ℕ)
      → let s = sheet_after i old (map joined files) in
      let a = taking_up i old (length records) in
      let later = taken_left i old records in
      most_records ≤ length records → longest_said ≤ length out → length s.line ≤ length out
      → (finishing_day a i later files out ≡ record { put = length s.line; end = s.end })
      × (day_left a i later files out ≡ s.line ++ drop (length s.line) out)
  -- of a sheet of any length the first 1,800,086 bytes decide
  pub first_bytes : (i : Items) (texts : List (List ℕ)) (n : ℕ) → 1800086 ≤ n → (old : List ℕ) → sheet_after i (take n old) texts ≡ sheet_after i old texts

-- ---- the proof
pub next_days : NextDay
unfolding sheet_after
next_days =
    record {
      item = λ i old texts e. rw e;
      fault = λ i old texts e f. rw (e, f);
      read = λ i old texts e f. rw (e, f);
      next_day = next_day;
      none_today = none_today;
      pieces = after_anywhere;
      first_bytes = front_decides;
    }
