-- `sheet_fault::put_fault` meets its contract: the word, the sheet's place, its line, and the reason. Assumes nothing.
use Prim.Native.Nat.{ℕ}
use mathlib.Core.Path.{refl}
use mathlib.Core.List.{List, ◌++◌}
use native.Mathlib.Omega.{arith}
use Rattle.decimal.specs.Field.{tab, ending, field_text}
use Rattle.text.proofs.Parts.{Left, left_all, left_next, left_last}
use Rattle.desk_line.specs.Said.{refused_word}
use Rattle.desk_line.proofs.Few.{Small}
use Rattle.desk_line.proofs.Put.{puts}
use Rattle.sheet_fault.specs.Fault.{refused_sheet, sheet_fault}
use Rattle.sheet_fault.proofs.Few.{SmallIf, fault_few}
use borrow.Author.Rules.{rules}
use Rattle.sheet_fault.proofs.put_fault.Goals as goal
use Rattle.sheet_fault.proofs.put_fault.Goals.{After-write_field-third}

abbrev Why : After-write_field-third → List ℕ
Why c = ending c.args.number c.args.more

abbrev Whole : After-write_field-third → List ℕ
Whole c = let a = c.args in sheet_fault a.place a.line a.number a.more

-- of the refused line so much is left, and the lent bytes are these
abbrev Stands : After-write_field-third → List ℕ → List ℕ → ℕ → Type 0
Stands c rest out at = Left c.args.out.now 0 (Whole c) rest out at

room : (c : After-write_field-third) → Stands c (Whole c) c.args.out.now 0
room c =
    let a = c.args in
    let place : Small a.place = search rules in
    let line : Small a.line = search rules in
    let number : Small a.number = search rules in
    let more : SmallIf a.more = search rules in
    left_all _ 0 _ (omega (arith, c.requires, fault_few a.place a.line a.number a.more place line number more))

left1 : (c : After-write_field-third)
    → Stands c (field_text c.args.place tab ++ (field_text c.args.line tab ++ Why c)) c.write_bytes-first.new.out c.write_bytes-first.result
unfolding sheet_fault
left1 c = left_next refused_word _ (room c) (c.write_bytes-first.ensures.value, c.write_bytes-first.ensures.out_after)

left2 : (c : After-write_field-third) → Stands c (field_text c.args.line tab ++ Why c) c.write_field-second.new.out c.write_field-second.result
left2 c = left_next (field_text c.args.place tab) _ (left1 c) (c.write_field-second.ensures.value, c.write_field-second.ensures.out_after)

left3 : (c : After-write_field-third) → Stands c (Why c) c.write_field-third.new.out c.write_field-third.result
left3 c = left_next (field_text c.args.line tab) _ (left2 c) (c.write_field-third.ensures.value, c.write_field-third.ensures.out_after)

pub returns : goal.returns
returns c =
    let d = (goal.at.returns c).After-write_field-third in
    let a = c.args in
    puts (refused_sheet a.place a.line a.number a.more) (room d) refl (left_last (left3 d) (c.end_line-put.ensures.value, c.end_line-put.ensures.out_after))
