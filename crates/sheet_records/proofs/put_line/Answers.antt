-- `sheet_records::put_line` meets its contract: the line is written part by part, each taking itself off what is left
-- of it. Assumes nothing.
use mathlib.Core.Path.{◌≡◌, ap, subst, ◌∙◌}
use mathlib.Core.Bool.{cond}
use mathlib.Core.List.{List, [], ◌∷◌, ◌++◌}
use Prim.Native.Nat.{ℕ, ◌+◌}
use lib.IntN.{ℤ}
use mir.Facts.{to_z-of_z}
use Rattle.text.proofs.Parts.{Left, left_all, left_next, left_last}
use Rattle.record_end.specs.declared.Outcome.{Outcome}
use Rattle.decimal.specs.Decimal.{zero_byte, digits_of}
use Rattle.decimal.specs.Field.{line_feed, tab}
use Rattle.sheet_records.specs.Ledger.{exposure_in, failed_in, signed_record_text, outcome_in}
use Rattle.sheet_records.proofs.Puts.{line_parts}
use Rattle.sheet_records.proofs.put_line.Goals as goal
use Rattle.sheet_records.proofs.put_line.Goals.{After-write_number-feed}

-- of the line so much is left, and the lent bytes are these
module _ (c : After-write_number-feed) where
  abbrev X : ℤ
  X = c.args.x

  is : c.outcome-o.result ≡ outcome_in X
  is =
      rw (to_z-of_z c.ranges.x) at c.outcome-o.ensures

  abbrev Exposure : List ℕ
  Exposure = digits_of (exposure_in X) ++ (line_feed ∷ [])

  abbrev Flag : ℕ
  Flag = zero_byte + cond (failed_in X) 1 0

  abbrev Stands : List ℕ → List ℕ → ℕ → Type 0
  Stands rest out at =
      Left c.args.out.now c.args.at (signed_record_text c.args.number X) rest out at

  whole : Stands (digits_of c.args.number ++ (tab ∷ (Flag ∷ (tab ∷ Exposure)))) c.args.out.now c.args.at
  whole =
      subst (λ (rest : List ℕ). Stands rest c.args.out.now c.args.at) (line_parts c.args.number (failed_in X) (exposure_in X))
      (left_all _ _ (signed_record_text c.args.number X) c.requires)

  left1 : Stands (tab ∷ (Flag ∷ (tab ∷ Exposure))) c.write_number-tab.new.out c.write_number-tab.result
  left1 =
      left_next (digits_of c.args.number) _ whole (c.write_number-tab.ensures.value, c.write_number-tab.ensures.out_after)

left2 : (c : After-write_number-feed) → Stands c (Flag c ∷ (tab ∷ Exposure c)) c.write_byte-flag.new.out c.write_byte-flag.result
left2 c =
    left_next (tab ∷ []) _ (left1 c) (c.write_byte-flag.ensures.value, c.write_byte-flag.ensures.out_after)

left3 : (c : After-write_number-feed) → Stands c (tab ∷ Exposure c) c.write_byte-tab2.new.out c.write_byte-tab2.result
left3 c =
    let flag = c.flag_byte.ensures ∙ ap (λ (o : Outcome). zero_byte + cond o.failed 1 0) (is c) in
    left_next (Flag c ∷ []) _ (left2 c) (rw flag at c.write_byte-tab2.ensures.value, rw flag at c.write_byte-tab2.ensures.out_after)

left4 : (c : After-write_number-feed) → Stands c (Exposure c) c.write_byte-exposure.new.out c.write_byte-exposure.result
left4 c =
    left_next (tab ∷ []) _ (left3 c) (c.write_byte-exposure.ensures.value, c.write_byte-exposure.ensures.out_after)

left5 : (c : After-write_number-feed) → Stands c (line_feed ∷ []) c.write_number-feed.new.out c.write_number-feed.result
left5 c =
    let exposure = ap (λ (o : Outcome). o.exposure) (is c) in
    left_next (digits_of (exposure_in (X c))) (line_feed ∷ []) (left4 c) (rw exposure at c.write_number-feed.ensures.value, rw exposure at c.write_number-feed.ensures.out_after)

pub returns : goal.returns
returns c =
    let whole = left_last (left5 (goal.at.returns c).After-write_number-feed) (c.write_byte.ensures.value, c.write_byte.ensures.out_after) in record { value = whole.0; out_after = whole.1 }
