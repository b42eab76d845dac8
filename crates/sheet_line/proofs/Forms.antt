-- What a line is read as: either it is the text of a record's number, a flag and an exposure, and comes to what
-- `telling` answers, or it is malformed; so is line 1 a standard's, or malformed. Assumes nothing.
use Prim.Native.Nat.{ℕ, ◌+◌}
use mathlib.Core.Path.{◌≡◌, refl, ◌∙◌}
use mathlib.Core.Bool.{Bool, true, false, cond, ◌&&◌}
use mathlib.Core.List.{List, [], append-nil}
use lib.Dec.{eqb, leb}
use lib.ListN.{length, drop}
use lib.Seq.{drop-length}
use borrow.Author.Tests.{eqb-true, leb-true}
use Rattle.truth.proofs.Laws.{and-true}
use Rattle.decimal.specs.Field.{tab, line_feed}
use Rattle.sheet_line.specs.declared.Field.{Field}
use Rattle.sheet_line.specs.declared.Field.TheVariants.{Number, Empty, Strange, LeadingZero, TooLong}
use Rattle.campaign_state.specs.declared.Campaign.{Campaign}
use Rattle.campaign_state.specs.Answers.{opened}
use Rattle.sheet_line.specs.Form.{begins, is_sheet_line, standard_start}
use Rattle.sheet_line.specs.Texts.{RecordText, StandardText}
use Rattle.sheet_line.specs.Line.{field_then, is_record, line_after, malformed, outcome, record_line, standard_line, telling, with_number}
use Rattle.sheet_line.proofs.Fields.{begins_with, field_of}
use Rattle.refusal.specs.declared.Refusal.{Refusal}
use Rattle.sheet_line.specs.declared.Sheet.{Sheet}
use Rattle.std.specs.Prelude.{Result}

-- a step is told by the line, or is the bad one
pub data Reads (Told : Result Sheet (ℕ × ℕ × Refusal) → Type 0) (bad : Result Sheet (ℕ × ℕ × Refusal)) : Result Sheet (ℕ × ℕ × Refusal) → Type 0 where
  good : {s : (Result Sheet (ℕ × ℕ × Refusal))} → Told s → Reads Told bad s
  ill : Reads Told bad bad

module _ {Told : Result Sheet (ℕ × ℕ × Refusal) → Type 0} {bad : (Result Sheet (ℕ × ℕ × Refusal))} where
  reads_if : (b : Bool) {x : (Result Sheet (ℕ × ℕ × Refusal))} → (b ≡ true → Reads Told bad x) → Reads Told bad (cond b x bad)
  reads_if true f = f refl
  reads_if false f = ill

  reads_number : (f : Field) {go : ℕ → ℕ → (Result Sheet (ℕ × ℕ × Refusal))}
      → ((v next : ℕ) → f ≡ Number v next → Reads Told bad (go v next)) → Reads Told bad (with_number bad f go)
  reads_number Empty g = ill
  reads_number (Strange place) g = ill
  reads_number LeadingZero g = ill
  reads_number TooLong g = ill
  reads_number (Number v next) g = g v next refl

-- ---- a record's line
pub record Told (c : Campaign) (line : List ℕ) (s : Result Sheet (ℕ × ℕ × Refusal)) : Type 0 where
  pub text : RecordText (c.records + 1) line
  pub is : s ≡ outcome (line_after c) (telling c (eqb text.flag 1) text.exposure)

pub record_reads : (column : ℕ) (c : Campaign) (line : List ℕ)
    → Reads (Told c line) (malformed (line_after c) column) (record_line column c line)
unfolding record_line
record_reads column c line =
    reads_if (is_sheet_line line)
    (λ h.
    reads_number (field_then tab line 0)
    (λ n second e₁.
    reads_number (field_then tab line second)
    (λ f third e₂.
    reads_number (field_then line_feed line third)
    (λ t end e₃.
    reads_if (is_record c line n f end)
    (λ r. good (told n f t second third end e₁ e₂ e₃ r))))))
  where
    told : (n f t second third end : ℕ)
        → field_then tab line 0 ≡ Number n second → field_then tab line second ≡ Number f third
        → field_then line_feed line third ≡ Number t end → is_record c line n f end ≡ true
        → Told c line (outcome (line_after c) (telling c (eqb f 1) t))
    told n f t second third end e₁ e₂ e₃ r =
        let (r₁, last) = and-true (eqb n (c.records + 1) && leb f 1) (eqb end (length line)) r in
        let (number, flag) = and-true (eqb n (c.records + 1)) (leb f 1) r₁ in
        let a = (field_of tab line 0 n second e₁).bytes in
        let b = (field_of tab line second f third e₂).bytes in
        let d = field_of line_feed line third t end e₃ in
        let none : drop end line ≡ [] = rw (eqb-true end (length line) last) (drop-length line) in
        record {
          text = record {
            flag = f;
            exposure = t;
            flag_kept = leb-true f 1 flag;
            few = d.small;
            bytes = rw (← eqb-true n (c.records + 1) number) (a ∙ rw (b, d.bytes, none, append-nil));
          };
          is = refl;
        }

-- ---- line 1
pub record ToldStandard (line : List ℕ) (s : Result Sheet (ℕ × ℕ × Refusal)) : Type 0 where
  pub text : StandardText line
  pub is : s ≡ outcome 1 (opened text.standard)

pub standard_reads : (column : ℕ) (line : List ℕ)
    → Reads (ToldStandard line) (malformed 1 column) (standard_line column line)
unfolding standard_line
standard_reads column line =
    reads_if (is_sheet_line line)
    (λ h.
    reads_if (begins standard_start line)
    (λ w.
    reads_number (field_then line_feed line (length standard_start))
    (λ q end e.
    reads_if (eqb end (length line))
    (λ r. good (told w q end e r)))))
  where
    told : begins standard_start line ≡ true → (q end : ℕ)
        → field_then line_feed line (length standard_start) ≡ Number q end
        → eqb end (length line) ≡ true → ToldStandard line (outcome 1 (opened q))
    told w q end e r =
        let none : drop end line ≡ [] = rw (eqb-true end (length line) r) (drop-length line) in
        let f = field_of line_feed line (length standard_start) q end e in
        record {
          text = record { standard = q; few = f.small; bytes = begins_with standard_start line w ∙ rw (f.bytes, none, append-nil) };
          is = refl;
        }
