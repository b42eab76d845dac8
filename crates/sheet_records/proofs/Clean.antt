-- A sheet that reads cleanly is what is written of its standard and its records, byte for byte, and those are judged to
-- the campaign that it reads as (`written_again`). Line by line: a line that is taken is a record's line and nothing
-- else. Assumes nothing.
use mathlib.Core.Path.{◌≡◌, refl, ap, sym, ◌∙◌}
use mathlib.Core.Bool.{Bool, true, false, cond}
use mathlib.Core.List.{List, [], ◌∷◌, ◌++◌, map}
use Prim.Native.Nat.{ℕ, zero, suc, ◌+◌, ◌≤◌}
use native.Mathlib.Omega.{arith}
use lib.Dec.{eqb}
use lib.ListN.{drop}
use Rattle.truth.proofs.Laws.{impossible, is_true}
use Rattle.sample_items.specs.Limits.{longest_time}
use Rattle.campaign_state.specs.declared.Campaign.{Campaign}
use Rattle.campaign_state.specs.Answers.{opened}
use Rattle.campaign_state.specs.State.{sound}
use Rattle.campaign_state.proofs.Answered.{entered_from, opened_from}
use Rattle.campaign_state.proofs.Keeping.{entering_sound, opened_sound}
use Rattle.decimal.specs.Lines.{lines_of}
use Rattle.sheet_line.proofs.Columns.{standard_few}
use Rattle.sheet_line.specs.declared.Sheet.{Sheet}
use Rattle.sheet_line.specs.declared.Sheet.TheVariants.{Fresh, Open}
use Rattle.sheet_line.specs.Line.{stepping, telling, line_outcome}
use Rattle.sheet_line.proofs.Entries.{says_next, standard_says}
use Rattle.sheet_line.proofs.Theorems.{flag_of, line_enters, told_entered}
use Rattle.sheet_text.specs.declared.Reading.TheVariants.{Read}
use Rattle.text.specs.Pieces.{joined}
use Rattle.sheet_text.specs.Sheet.{Account, after_step, meaning, reading_sheet}
use Rattle.sheet_records.specs.Answers.{judged, judged_from}
use Rattle.sheet_records.proofs.Entered.{judged_standard}
use Rattle.degrees.specs.Degrees.{signed}
use Rattle.sheet_line.specs.Texts.{entry_text, head_text}
use Rattle.sheet_records.specs.Ledger.{exposure_in, failed_in, lines_from, sheet_text}
use Rattle.sheet_records.specs.Records.{record_in, records_of}
use Rattle.sheet_records.proofs.Lines.{entry_says, lines_joined}
use Rattle.refusal.specs.declared.Refusal.{Refusal}
use Rattle.std.specs.Prelude.{Result, Ok, Err}

-- a reading that came to its end took the line
took : (step : Result Sheet (ℕ × ℕ × Refusal)) (go : Sheet → Account) (d : Campaign) → (after_step step go).end ≡ Read d → (s : Sheet) × (step ≡ Ok s) × ((go s).end ≡ Read d)
took (Ok s) go d e = (s, refl, e)
took (Err (line, column, r)) go d e = impossible (cc)

-- ---- a record's line
pub record First (c : Campaign) (line : List ℕ) (lines : List (List ℕ)) (d : Campaign) : Type 0 where
  pub failed : Bool
  pub exposure : ℕ
  pub after : Campaign
  pub bytes : line ≡ entry_text (c.records + 1) (cond failed 1 0) exposure
  pub low : 1 ≤ exposure
  pub high : exposure ≤ longest_time
  pub taken : telling c failed exposure ≡ Ok after
  pub good : sound after ≡ true
  pub one_more : after.records ≡ c.records + 1
  pub rest : (reading_sheet false lines (Open after)).end ≡ Read d

flag_is : (flag : ℕ) → flag ≤ 1 → flag ≡ cond (eqb flag 1) 1 0
flag_is zero h = refl
flag_is (suc zero) h = refl
flag_is (suc (suc n)) h = absurd (omega arith)

pub first_line : (c : Campaign) (line : List ℕ) (lines : List (List ℕ)) (d : Campaign) → sound c ≡ true → (reading_sheet false (line ∷ lines) (Open c)).end ≡ Read d → First c line lines d
unfolding reading_sheet
first_line c line lines d g e =
    let (s, step, rest) = took (stepping (Open c) line) (reading_sheet false lines) d e in
    let o = line_enters c line s g step in
    let enters = told_entered c (eqb o.flag 1) o.exposure o.after o.taken in
    let says = line_outcome (eqb o.flag 1) o.exposure in
    let t = entered_from c says o.after enters in
    record {
      failed = eqb o.flag 1;
      exposure = o.exposure;
      after = o.after;
      bytes = o.bytes ∙ ap (λ flag. entry_text (c.records + 1) flag o.exposure) (flag_is o.flag o.flag_kept);
      low = t.low;
      high = t.high;
      taken = o.taken;
      good = is_true _ (entering_sound c says o.after enters);
      one_more = ap (λ (y : Campaign). y.records) t.room.after;
      rest = rw o.next at rest;
    }

-- the record that a line says, with its exposure of at least 1, has the line's flag and exposure
number_parts : (f : Bool) (t : ℕ) → 1 ≤ t → (failed_in (signed f t) ≡ f) × (exposure_in (signed f t) ≡ t)
number_parts true zero h = absurd (omega arith)
number_parts true (suc t) h = (refl, refl)
number_parts false t h = (refl, refl)

-- ---- all lines
pub lines_again : (lines : List (List ℕ)) (c d : Campaign) → sound c ≡ true → (reading_sheet false lines (Open c)).end ≡ Read d
    → (joined lines ≡ lines_from (c.records + 1) (map record_in lines)) × (judged_from c (map record_in lines) ≡ Ok d)
unfolding joined lines_from judged_from reading_sheet
lines_again [] c d g e = (refl, same e)
  where
    same : {c d : Campaign} → Read c ≡ Read d → ◌≡◌ {A = Result Campaign Refusal} (Ok c) (Ok d)
    same {c} {d} e = let f : c ≡ d = cc in ap Ok f
lines_again (line ∷ lines) c d g e =
    let o = first_line c line lines d g e in
    let x = record_in line in
    let is : x ≡ signed o.failed o.exposure = ap record_in o.bytes ∙ entry_says (c.records + 1)
    (cond o.failed 1 0) o.exposure ∙ ap (λ f. signed f o.exposure) (flag_of o.failed).0 in
    let (f, t) = number_parts o.failed o.exposure o.low in
    let failed : failed_in x ≡ o.failed = ap failed_in is ∙ f in
    let exposure : exposure_in x ≡ o.exposure = ap exposure_in is ∙ t in
    let (text, judges) = lines_again lines o.after d o.good o.rest in (
      ap (λ l. l ++ joined lines) o.bytes ∙ rw (failed, exposure) (ap (λ l. entry_text (c.records + 1)
          (cond o.failed 1 0) o.exposure ++ l) (rw o.one_more at text)),
      rw (failed, exposure, o.taken) judges,
    )

-- ---- line 1
pub record Begun (line : List ℕ) (lines : List (List ℕ)) (d : Campaign) : Type 0 where
  pub standard : ℕ
  pub start : Campaign
  pub bytes : line ≡ head_text standard
  pub opens : opened standard ≡ Ok start
  pub good : sound start ≡ true
  pub none : start.records ≡ 0
  pub kept : start.standard ≡ standard
  pub rest : (reading_sheet false lines (Open start)).end ≡ Read d

pub begun : (line : List ℕ) (lines : List (List ℕ)) (d : Campaign) → (reading_sheet false (line ∷ lines) Fresh).end ≡ Read d → Begun line lines d
unfolding reading_sheet stepping
begun line lines d e =
    let (s, step, rest) = took (stepping Fresh line) (reading_sheet false lines) d e in
    let o = says_next (standard_says _ line (standard_few line)) step in
    let is = (opened_from o.standard o.after o.taken).1 in
    record {
      standard = o.standard;
      start = o.after;
      bytes = o.bytes;
      opens = o.taken;
      good = is_true _ (opened_sound o.standard o.after o.taken);
      none = ap (λ (y : Campaign). y.records) is;
      kept = ap (λ (y : Campaign). y.standard) is;
      rest = rw o.next at rest;
    }

-- a sheet has a line 1
pub record Apart (text : List ℕ) (d : Campaign) : Type 0 where
  pub line : List ℕ
  pub lines : List (List ℕ)
  pub are : lines_of text ≡ line ∷ lines
  pub parts : text ≡ line ++ joined lines
  pub first : Begun line lines d

pub apart : (text : List ℕ) (d : Campaign) → (meaning text).end ≡ Read d → Apart text d
unfolding meaning reading_sheet joined
apart text d e = go (lines_of text) refl e
  where
    go : (lines : List (List ℕ)) → lines_of text ≡ lines → (reading_sheet false lines Fresh).end ≡ Read d → Apart text d
    go [] are e = impossible (cc)
    go (line ∷ lines) are e =
        record { line = line; lines = lines; are = are; parts = sym (lines_joined text) ∙ ap joined are; first = begun line lines d e }

-- A SHEET THAT READS CLEANLY, written again
pub written_again : (text : List ℕ) (d : Campaign) → (meaning text).end ≡ Read d → (judged d.standard (records_of text) ≡ Ok d) × (sheet_text d.standard (records_of text) ≡ text)
unfolding records_of sheet_text judged
written_again text d e =
    let a = apart text d e in
    let b = a.first in
    let (lines, judges) = lines_again a.lines b.start d b.good b.rest in
    let records : map record_in (drop 1 (lines_of text)) ≡ map record_in a.lines = ap (λ l. map record_in (drop 1 l)) a.are in
    let standard : d.standard ≡ b.standard = judged_standard b.start (map record_in a.lines) d judges ∙ b.kept in (
      ap (λ (q : ℕ). judged q (records_of text)) standard ∙ ap (judged b.standard) records ∙ rw b.opens judges,
      ap (λ (q : ℕ). sheet_text q (records_of text)) standard ∙ ap (sheet_text b.standard) records ∙ sym (a.parts ∙
          ap (λ l. l ++ joined a.lines) b.bytes ∙ ap (λ l. head_text b.standard ++ l) (rw b.none at lines)),
    )
