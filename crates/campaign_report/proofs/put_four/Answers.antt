-- `campaign_report::put_four` meets its contract: the fields one after the other, each taking itself off what is left
-- of them. Assumes nothing.
use Prim.Native.Nat.{ℕ}
use mathlib.Core.List.{List, ◌++◌}
use Rattle.text.proofs.Parts.{Left, left_all, left_last, left_next}
use Rattle.decimal.specs.Field.{field_text, tab}
use Rattle.campaign_report.specs.Report.{four_text}
use Rattle.campaign_report.proofs.put_four.Goals as goal

pub returns : goal.returns
unfolding four_text
returns c =
    let D : List ℕ = field_text c.args.d tab in
    let Stands : List ℕ → List ℕ → ℕ → Type 0 = λ rest out at. Left c.args.out.now c.args.at (four_text c.args.a c.args.b c.args.c c.args.d) rest out at in
    let CD : List ℕ = field_text c.args.c tab ++ D in
    let BCD : List ℕ = field_text c.args.b tab ++ CD in
    let left0 : Stands (field_text c.args.a tab ++ BCD) c.args.out.now c.args.at = left_all _ _ _ c.requires in
    let left1 : Stands (BCD) c.write_field-second.new.out c.write_field-second.result = left_next (field_text c.args.a tab) _ (left0) (c.write_field-second.ensures.value, c.write_field-second.ensures.out_after) in
    let left2 : Stands (CD) c.write_field-third.new.out c.write_field-third.result = left_next (field_text c.args.b tab) _ (left1) (c.write_field-third.ensures.value, c.write_field-third.ensures.out_after) in
    let left3 : Stands (D) c.write_field-fourth.new.out c.write_field-fourth.result = left_next (field_text c.args.c tab) _ (left2) (c.write_field-fourth.ensures.value, c.write_field-fourth.ensures.out_after) in
    let whole = left_last (left3) (c.write_field.ensures.value, c.write_field.ensures.out_after) in record { value = whole.0; out_after = whole.1 }
