-- The judge on its way through a sheet. `Along`: the whole sheet ends as the lines that are left do, from the campaign
-- so far. A record that is taken keeps that; where a line is none, or its record is not taken, the sheet does not read
-- cleanly; and at the end it does. Assumes nothing.
use mathlib.Core.Path.{◌≡◌, refl, ap, sym, ◌∙◌}
use mathlib.Core.Bool.{Bool, true, false, cond, not}
use mathlib.Core.List.{List, [], ◌∷◌, ◌++◌, map}
use Prim.Native.Nat.{ℕ, ◌+◌, ◌≤◌, ◌<◌}
use native.Mathlib.Nat.{add-zero}
use native.Mathlib.Omega.{arith}
use lib.Dec.{eqb}
use lib.ListN.{length, drop, drop_of_length-le, length-drop}
use borrow.Author.Tests.{eqb-false, ne_eqb, not-true}
use Rattle.truth.proofs.Laws.{and-true, holds, impossible, is_true, true≢false}
use Rattle.poisson.specs.Rows.{rows}
use Rattle.refusal.specs.declared.Refusal.{Refusal}
use Rattle.refusal.specs.declared.Refusal.TheVariants.{Item}
use Rattle.campaign_state.specs.declared.Campaign.{Campaign}
use Rattle.campaign_state.specs.Answers.{opened}
use Rattle.campaign_state.specs.State.{empty, entered, most_records, sound, standard_in_range}
use Rattle.campaign_state.proofs.Answered.{entered_from, opened_from}
use Rattle.campaign_state.proofs.Keeping.{opened_sound}
use Rattle.campaign_state.proofs.Relations.{kept_from}
use Rattle.decimal.specs.Lines.{lines_of}
use Rattle.sheet_line.specs.declared.Sheet.{Sheet}
use Rattle.sheet_line.specs.declared.Sheet.TheVariants.{Fresh, Open}
use Rattle.sheet_line.specs.Line.{outcome, telling, line_outcome}
use Rattle.sheet_line.proofs.Theorems.{told_entered}
use Rattle.sheet_text.specs.declared.Reading.TheVariants.{Read}
use Rattle.text.specs.Pieces.{joined}
use Rattle.sheet_text.specs.Sheet.{Account, after_step, meaning, reading_sheet}
use Rattle.sheet_line.specs.Texts.{entry_text, head_text}
use Rattle.sheet_records.proofs.Enough.{in_range}
use Rattle.sheet_records.proofs.Judging.{told_taken}
use Rattle.sheet_records.specs.Pass.{CleanPass, EntryAt, EntryHere, HeadOf, taken_after}
use Rattle.sheet_records.specs.Records.{record_in, records_of}
use Rattle.sheet_records.proofs.Back.{entry_reads, head_reads}
use Rattle.sheet_records.proofs.Clean.{apart, first_line}
use Rattle.sheet_records.proofs.Lines.{entry_lines, head_lines, lines_joined}
use Rattle.std.specs.Prelude.{Some, None, Result, Ok, Err}

-- the lines from a place on
abbrev Left : List ℕ → ℕ → List (List ℕ)
Left text at = lines_of (drop at text)

pub record Along (text : List ℕ) (q begin at count failures : ℕ) : Type 0 where
  pub so_far : Campaign
  pub good : sound so_far ≡ true
  pub standard : so_far.standard ≡ q
  pub records : so_far.records ≡ count
  pub fails : so_far.failures ≡ failures
  pub range : standard_in_range q ≡ true
  pub begun : (meaning text).end ≡ (reading_sheet false (Left text begin) (Open (empty q))).end
  pub says : records_of text ≡ map record_in (Left text begin)
  pub reads : (meaning text).end ≡ (reading_sheet false (Left text at) (Open so_far)).end
  pub number : count + length (map record_in (Left text at)) ≡ length (records_of text)
  pub inside : at ≤ length text

abbrev pub NotClean : List ℕ → Type 0
NotClean text = (d : Campaign) → ¬ ((meaning text).end ≡ Read d)

-- a refusal is no end of a clean sheet
never : (line : ℕ) (r : Refusal) (go : Sheet → Account) (d : Campaign) → ¬ ((after_step (outcome line (Err r)) go).end ≡ Read d)
never line r go d e = impossible (cc)

-- ---- line 1
pub no_head : (text : List ℕ) → HeadOf text None → NotClean text
unfolding HeadOf
no_head text none d e =
    let a = apart text d e in
    let b = a.first in
    none b.standard (joined a.lines) (in_range b.standard (opened_from b.standard b.start b.opens).0) (a.parts ∙ ap (λ (l : List ℕ). l ++ joined a.lines) b.bytes)

module _ (text : List ℕ) (q next : ℕ) (h : HeadOf text (Some (q, next))) where
  head_ends : (meaning text).end ≡ (after_step (outcome 1 (opened q)) (reading_sheet false (Left text next))).end
  unfolding HeadOf meaning
  head_ends = ap (λ (l : List ℕ). (reading_sheet false (lines_of l) Fresh).end) h.0.bytes ∙ ap (λ (a : Account). a.end) (head_reads q h.1 (drop next text))

  pub bad_standard : standard_in_range q ≡ false → NotClean text
  bad_standard out d e =
      let refused : opened q ≡ Err (Item 5) = rw out in
      never 1 (Item 5) (reading_sheet false (Left text next)) d (ap (λ (a : Result Campaign Refusal). (after_step (outcome 1 a) (reading_sheet false (Left text next))).end) (sym refused) ∙ sym head_ends ∙ e)

  pub start : standard_in_range q ≡ true → Along text q next next 0 0
  unfolding HeadOf records_of
  start range =
      let opens : opened q ≡ Ok (empty q) = rw range in
      let lines : lines_of text ≡ head_text q ∷ Left text next = ap lines_of h.0.bytes ∙ head_lines q (drop next text) in
      let says : map record_in (drop 1 (lines_of text)) ≡ map record_in (Left text next) = ap (λ (l : List (List ℕ)). map record_in (drop 1 l)) lines in
      let ends = head_ends ∙ ap (λ (a : Result Campaign Refusal). (after_step (outcome 1 a) (reading_sheet false (Left text next))).end) opens in
      record {
        so_far = empty q;
        good = is_true _ (opened_sound q (empty q) opens);
        standard = refl;
        records = refl;
        fails = refl;
        range = range;
        begun = ends;
        says = says;
        reads = ends;
        number = omega (arith, ap length says);
        inside = h.0.within;
      }

-- ---- what a record needs to be taken
taken_parts : (m n : ℕ) → taken_after m n ≡ true → ¬ (m ≡ most_records) × ¬ (n ≡ 64)
unfolding taken_after
taken_parts m n e =
    let (room, left) = and-true (not (eqb m most_records)) (not (eqb n rows)) e in
    (eqb-false m most_records (not-true _ room), eqb-false n 64 (not-true _ left))

taken_after_lem : (m n : ℕ) → ¬ (m ≡ most_records) → ¬ (n ≡ 64) → taken_after m n ≡ true
unfolding taken_after
taken_after_lem m n room left = rw (ne_eqb m most_records room, ne_eqb n 64 left)

-- ---- on the way
module _ {text : List ℕ} {q begin at count failures : ℕ} (a : Along text q begin at count failures) where
  abbrev c : Campaign
  c = a.so_far

  pub few : count ≤ 100000
  few = omega (arith, a.records, (kept_from c (holds a.good)).records)

  pub few_failures : failures ≤ 64
  few_failures = omega (arith, a.fails, (kept_from c (holds a.good)).failures_rows)

  -- no line of the next record
  pub other_line : at < length text → EntryAt text at (count + 1) None → NotClean text
  unfolding EntryAt joined
  other_line more none d e = go (Left text at) (sym (lines_joined (drop at text))) (sym a.reads ∙ e)
    where
      go : (lines : List (List ℕ)) → drop at text ≡ joined lines → (reading_sheet false lines (Open c)).end ≡ Read d → ⊥
      go [] parts e = omega (arith, ap length parts, length-drop at text)
      go (line ∷ lines) parts e =
          let o = first_line c line lines d a.good e in
          none o.failed o.exposure (joined lines) (omega (arith, few)) o.low o.high (parts ∙
          ap (λ (l : List ℕ). l ++ joined lines) (o.bytes ∙ ap (λ (n : ℕ). entry_text (n + 1) (cond o.failed
          1 0) o.exposure) a.records))

  module _ (f : Bool) (next : ℕ) (h : EntryHere text at (count + 1) f next) where
    abbrev t : ℕ
    t = h.exposure

    abbrev entry : List ℕ
    entry = entry_text (count + 1) (cond f 1 0) t

    ends : (meaning text).end ≡ (after_step (outcome (c.records + 2) (telling c f t)) (reading_sheet false (Left text next))).end
    ends =
        a.reads
        ∙ ap (λ (l : List ℕ). (reading_sheet false (lines_of l) (Open c)).end) (h.starts.bytes ∙ ap (λ (n : ℕ). entry_text (n + 1) (cond f 1 0) t ++ drop next text) (sym a.records))
        ∙ ap (λ (x : Account). x.end) (entry_reads c f t a.good (omega (arith, h.high)) (drop next text))

    -- its record is not taken
    pub not_taken : taken_after count failures ≡ false → NotClean text
    not_taken no_room d e = go (telling c f t) refl (sym ends ∙ e)
      where
        go : (x : Result Campaign Refusal) → telling c f t ≡ x → (after_step (outcome (c.records + 2) x) (reading_sheet false (Left text next))).end ≡ Read d → ⊥
        go (Err r) is e = never (c.records + 2) r (reading_sheet false (Left text next)) d e
        go (Ok b) is e =
            let o = entered_from c (line_outcome f t) b (told_entered c f t b is) in
            true≢false (sym (taken_after_lem count failures (λ k. o.room.records (a.records ∙ k)) (λ k. o.room.failures (a.fails ∙ k))) ∙ no_room)

    -- it is taken
    pub on : taken_after count failures ≡ true → Along text q begin next (count + 1) (cond f (failures + 1) failures)
    on fits =
        let (room, left) = taken_parts count failures fits in
        let (taken, good) = told_taken c f t a.good h.low h.high (λ e. room (sym a.records ∙ e)) (λ e. left (sym a.fails ∙ e)) in
        let lines : Left text at ≡ entry ∷ Left text next = ap lines_of h.starts.bytes ∙ entry_lines (count + 1) (cond f 1 0) t (drop next text) in
        record {
          so_far = entered c f t;
          good = good;
          standard = a.standard;
          records = ap (λ (n : ℕ). n + 1) a.records;
          fails = ap (λ (n : ℕ). cond f (n + 1) n) a.fails;
          range = a.range;
          begun = a.begun;
          says = a.says;
          reads = ends ∙ ap (λ (x : Result Campaign Refusal). (after_step (outcome (c.records + 2) x) (reading_sheet false (Left text next))).end) taken;
          number = omega (arith, ap (λ (l : List (List ℕ)). length (map record_in l)) lines, a.number);
          inside = h.starts.within;
        }

  -- the end
  pub ended : length text ≤ at → CleanPass text q count begin
  unfolding reading_sheet lines_of
  ended past =
      let none : Left text at ≡ [] = ap lines_of (drop_of_length-le text past) in
      let reads = a.reads ∙ ap (λ (l : List (List ℕ)). (reading_sheet false l (Open c)).end) none in
      let opens : opened q ≡ Ok (empty q) = rw a.range in
      record {
        end = c;
        reads = reads;
        standard = a.standard;
        count = a.records;
        number = sym a.number ∙ ap (λ (l : List (List ℕ)). count + length (map record_in l)) none ∙ add-zero count;
        from = record { start = empty q; end = c; good = is_true _ (opened_sound q (empty q) opens); none = refl; reads = sym a.begun ∙ reads; says = a.says };
      }
