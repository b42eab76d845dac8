-- What a line that is taken leads to: a campaign that keeps its relations, and few bytes to write, at most five for
-- each byte of the line and 30 for each record; and which line a refusal names. Assumes nothing.
use Prim.Native.Nat.{ℕ, ◌+◌, ◌*◌, ◌^◌, ◌≤◌, ◌<◌}
use mathlib.Core.Path.{◌≡◌, ap}
use mathlib.Core.Bool.{true}
use mathlib.Core.List.{List}
use native.Mathlib.Omega.{arith}
use lib.Dec.{eqb}
use lib.ListN.{length, length-append}
use Rattle.truth.proofs.Laws.{holds, is_true}
use Rattle.refusal.specs.declared.Refusal.{Refusal}
use Rattle.decimal.proofs.Text.{field_some}
use Rattle.campaign_state.specs.declared.Campaign.{Campaign}
use Rattle.campaign_state.specs.State.{sound}
use Rattle.campaign_state.proofs.Answered.{entered_from, opened_from}
use Rattle.campaign_state.proofs.Keeping.{opened_sound, entering_sound}
use Rattle.campaign_state.proofs.Relations.{kept_from}
use Rattle.sheet_line.specs.declared.Sheet.{Sheet}
use Rattle.sheet_line.specs.declared.Sheet.TheVariants.{Fresh, Open}
use Rattle.sheet_line.specs.Line.{sound_sheet, stepping, line_outcome}
use Rattle.sheet_line.proofs.Columns.{standard_few}
use Rattle.sheet_line.proofs.Columns.{record_few as column_few}
use Rattle.sheet_line.proofs.Entries.{Entry, Opening, record_says, says_next, says_stop, standard_says}
use Rattle.sheet_line.proofs.Theorems.{told_entered}
use Rattle.sheet_reply.specs.Written.{record_text}
use Rattle.sheet_reply.proofs.Few.{record_few}
use Rattle.sheet_text.specs.Sheet.{text_of}
use Rattle.std.specs.Prelude.{Ok, Err}

-- the most bytes that the records so far have had written
abbrev pub most : Sheet → ℕ
most Fresh = 0
most (Open c) = 30 * c.records

pub most_few : (s : Sheet) → sound_sheet s ≡ true → most s ≤ 3000000
most_few Fresh g = omega arith
most_few (Open c) g = omega (arith, (kept_from c (holds g)).records)

-- a sheet that a line leads to
pub record Led (s : Sheet) (line : List ℕ) (t : Sheet) : Type 0 where
  pub sound : sound_sheet t ≡ true
  pub few : length (text_of t) ≤ 5 * length line
  pub grows : most s + length (text_of t) ≤ most t

entry_kept : (c : Campaign) (line : List ℕ) (t : Sheet) → Entry c line t → Led (Open c) line t
entry_kept c line t o =
    let e = told_entered c (eqb o.flag 1) o.exposure o.after o.taken in
    let says = line_outcome (eqb o.flag 1) o.exposure in
    let good : sound o.after ≡ true = is_true _ (entering_sound c says o.after e) in
    let one_more : o.after.records ≡ c.records + 1 = ap (λ d. d.records) (entered_from c says o.after e).room.after in
    let long : 6 ≤ length line = rw o.bytes (simp length-append (omega (arith, field_some (c.records + 1) 9, field_some o.flag 9, field_some o.exposure 10))) in
    let few = record_few o.after good in
    rw o.next (record { sound = good; few = omega arith; grows = omega arith })

opening_kept : (line : List ℕ) (t : Sheet) → Opening line t → Led Fresh line t
unfolding record_text
opening_kept line t o =
    let good : sound o.after ≡ true = is_true _ (opened_sound o.standard o.after o.taken) in
    let none : length (record_text o.after) ≡ 0 = rw (opened_from o.standard o.after o.taken).1 in
    rw o.next (record { sound = good; few = omega arith; grows = omega arith })

module _ (s : Sheet) (line : List ℕ) where
  pub step_led : {t : Sheet} → sound_sheet s ≡ true → stepping s line ≡ Ok t → Led s line t
  unfolding stepping
  step_led {t} g e = go s g e
    where
      go : (s : Sheet) → sound_sheet s ≡ true → stepping s line ≡ Ok t → Led s line t
      go Fresh g e = opening_kept line t (says_next (standard_says _ line (standard_few line)) e)
      go (Open c) g e = entry_kept c line t (says_next (record_says _ c line (column_few (c.records + 1) line)) (rw g at e))

  pub step_line : {l k : ℕ} {r : Refusal} → sound_sheet s ≡ true → stepping s line ≡ Err (l, k, r) → (l < 10 ^ 20) × (k < 1000)
  unfolding stepping
  step_line {l} {k} {r} g e = go s g e
    where
      go : (s : Sheet) → sound_sheet s ≡ true → stepping s line ≡ Err (l, k, r) → (l < 10 ^ 20) × (k < 1000)
      go Fresh g e =
          let (named, small) = says_stop (standard_says _ line (standard_few line)) e in
          (omega arith, small)
      go (Open c) g e =
          let (named, small) = says_stop (record_says _ c line (column_few (c.records + 1) line)) (rw g at e) in
          (omega (arith, (kept_from c (holds g)).records), small)
