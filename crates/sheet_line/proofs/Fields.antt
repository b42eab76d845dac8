-- What a line that was taken is, byte for byte: a field that reads as a number is that number's digits and the byte
-- after them. Assumes nothing.
use Prim.Native.Nat.{ℕ, ◌+◌, ◌^◌, ◌<◌}
use mathlib.Core.Path.{◌≡◌, refl, sym, ap, ◌∙◌}
use mathlib.Core.Bool.{true, false≢true}
use mathlib.Core.List.{List, [], ◌∷◌, ◌++◌, append_assoc}
use native.Mathlib.Omega.{arith}
use lib.Dec.{eqb}
use lib.ListN.{length, drop, take-append-drop}
use lib.Seq.{drop-drop}
use borrow.Author.Tests.{eqb-true}
use Rattle.truth.proofs.Cases.{by_test}
use Rattle.truth.proofs.Laws.{and-true}
use Rattle.decimal.specs.Decimal.{longest, digits_of}
use Rattle.decimal.specs.Field.{field_text}
use Rattle.sheet_line.specs.Field.{field_at}
use Rattle.sheet_line.specs.declared.Field.{Field}
use Rattle.sheet_line.specs.declared.Field.TheVariants.{Number, Empty, Strange, LeadingZero, TooLong}
use Rattle.sheet_line.proofs.Back.{read_only}
use Rattle.sheet_line.specs.Form.{begins}
use Rattle.sheet_line.specs.Line.{starts_with, ended_by, field_then, with_number}
use Rattle.refusal.specs.declared.Refusal.{Refusal}
use Rattle.sheet_line.specs.declared.Sheet.{Sheet}
use Rattle.std.specs.Prelude.{Result}

starts_with_lem : (byte : ℕ) (text : List ℕ) → starts_with byte text ≡ true → text ≡ byte ∷ drop 1 text
unfolding starts_with
starts_with_lem byte [] e = absurd (false≢true e)
starts_with_lem byte (b ∷ text) e = ap (λ x. x ∷ text) (eqb-true b byte e)

pub begins_with : (word text : List ℕ) → begins word text ≡ true → text ≡ word ++ drop (length word) text
unfolding begins
begins_with [] text e = refl
begins_with (w ∷ word) [] e = absurd (false≢true e)
begins_with (w ∷ word) (b ∷ text) e =
    let (f, g) = and-true (eqb b w) (begins word text) e in
    rw (eqb-true b w f) (ap (λ x. w ∷ x) (begins_with word text g))

-- the field's number, and the text from its place on
pub record FieldOf (end : ℕ) (line : List ℕ) (at v next : ℕ) : Type 0 where
  pub small : v < 10 ^ longest
  pub bytes : drop at line ≡ field_text v end ++ drop next line

abbrev numbers : Field → ℕ
numbers (Number v next) = 1
numbers Empty = 0
numbers (Strange p) = 0
numbers LeadingZero = 0
numbers TooLong = 0

-- a fault is no number
never : (f : Field) {v next : ℕ} → numbers f ≡ 0 → ¬ (f ≡ Number v next)
never f z e = omega (arith, ap numbers e)

module _ (end : ℕ) (line : List ℕ) (at v next : ℕ) where
  ended_field : (w place : ℕ) → field_at line at ≡ Number w place → starts_with end (drop place line) ≡ true → Number w (place + 1) ≡ Number v next → FieldOf end line at v next
  unfolding field_text
  ended_field w place f e n =
      let o = read_only line at w place f in
      let value : w ≡ v = cc (n) in
      let place' : place + 1 ≡ next = cc (n) in
      let after : drop place line ≡ end ∷ drop next line = starts_with_lem end (drop place line) e ∙ rw (drop-drop, place') in
      let digits : drop at line ≡ digits_of w ++ drop place line =
      sym (take-append-drop (length (digits_of w)) (drop at line)) ∙ rw (o.bytes, drop-drop, ← o.after)
      in
      rw (← value)
      (record { small = o.small; bytes = digits ∙ rw after (sym (append_assoc (digits_of w) (end ∷ []) (drop next line))) })

  pub field_of : field_then end line at ≡ Number v next → FieldOf end line at v next
  unfolding field_then ended_by
  field_of e = go (field_at line at) refl e
    where
      go : (f : Field) → field_at line at ≡ f → ended_by end line f ≡ Number v next → FieldOf end line at v next
      go Empty f e = absurd (never Empty refl e)
      go (Strange p) f e = absurd (never (Strange p) refl e)
      go LeadingZero f e = absurd (never LeadingZero refl e)
      go TooLong f e = absurd (never TooLong refl e)
      go (Number w place) f e =
          by_test (starts_with end (drop place line))
          (λ s. ended_field w place f s (rw s at e))
          (λ s. absurd (never (Strange place) refl (rw s at e)))

-- what a `let Field::Number(..) = .. else` tells of the field in its else
pub other_field : (f : Field) (bad : Result Sheet (ℕ × ℕ × Refusal)) (go : ℕ → ℕ → Result Sheet (ℕ × ℕ × Refusal)) → ((v next : ℕ) → f ≡ Number v next → ⊥)
    → with_number bad f go ≡ bad
other_field (Number v next) bad go never = absurd (never v next refl)
other_field Empty bad go never = refl
other_field (Strange p) bad go never = refl
other_field LeadingZero bad go never = refl
other_field TooLong bad go never = refl
