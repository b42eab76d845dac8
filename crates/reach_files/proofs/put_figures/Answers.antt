-- `reach_files::put_figures` meets its contract: nine numbers, a number or a dash, and a letter. Assumes nothing.
use Prim.Native.Nat.{ℕ}
use mathlib.Core.Path.{refl}
use mathlib.Core.List.{List, ◌++◌}
use native.Mathlib.Omega.{arith}
use Rattle.decimal.specs.Field.{tab, field_text}
use Rattle.text.proofs.Parts.{Left, left_all, left_next, left_room, left-fits, left_last}
use Rattle.desk_line.proofs.Put.{puts}
use Rattle.reach_files.specs.declared.Figures.{Figures}
use Rattle.reach_files.specs.Line.{rejected_text, letter_text, figures_line, told}
use Rattle.reach_files.proofs.put_figures.Goals as goal

pub put_rejected-eleventh-requires : goal.put_rejected-eleventh-requires
unfolding figures_line
put_rejected-eleventh-requires c =
    let F : Figures = c.args.f in
    let Stands : List ℕ → List ℕ → ℕ → Type 0 = (λ rest out at. Left c.args.out.now 0 (figures_line F) rest out at) in
    let room : Stands (figures_line F) c.args.out.now 0 = left_all _ 0 _ (omega (arith, c.requires.0, c.requires.1)) in
    let left9 : Stands (rejected_text F.times.rejected ++ letter_text F.letter) c.write_field-tenth.new.out c.write_field-tenth.result = (left_next (field_text F.times.accepted tab) _
    (left_next (field_text F.times.estimate tab) _
    (left_next (field_text F.above tab) _
    (left_next (field_text F.sum tab) _
    (left_next (field_text F.last tab) _
    (left_next (field_text F.tail tab) _
    (left_next (field_text F.samples tab) _
    (left_next (field_text F.peaks tab) _
    (left_next (field_text F.files tab) _ room (c.write_field-second.ensures.value, c.write_field-second.ensures.out_after))
    (c.write_field-third.ensures.value, c.write_field-third.ensures.out_after))
    (c.write_field-fourth.ensures.value, c.write_field-fourth.ensures.out_after))
    (c.write_field-fifth.ensures.value, c.write_field-fifth.ensures.out_after))
    (c.write_field-sixth.ensures.value, c.write_field-sixth.ensures.out_after))
    (c.write_field-seventh.ensures.value, c.write_field-seventh.ensures.out_after))
    (c.write_field-eighth.ensures.value, c.write_field-eighth.ensures.out_after))
    (c.write_field-ninth.ensures.value, c.write_field-ninth.ensures.out_after))
    (c.write_field-tenth.ensures.value, c.write_field-tenth.ensures.out_after)) in
    left_room (rejected_text (F).times.rejected) _ (left9)

pub put_letter-end-requires : goal.put_letter-end-requires
unfolding figures_line
put_letter-end-requires c =
    let F : Figures = c.args.f in
    let Stands : List ℕ → List ℕ → ℕ → Type 0 = (λ rest out at. Left c.args.out.now 0 (figures_line F) rest out at) in
    let room : Stands (figures_line F) c.args.out.now 0 = left_all _ 0 _ (omega (arith, c.requires.0, c.requires.1)) in
    let left9 : Stands (rejected_text F.times.rejected ++ letter_text F.letter) c.write_field-tenth.new.out c.write_field-tenth.result = (left_next (field_text F.times.accepted tab) _
    (left_next (field_text F.times.estimate tab) _
    (left_next (field_text F.above tab) _
    (left_next (field_text F.sum tab) _
    (left_next (field_text F.last tab) _
    (left_next (field_text F.tail tab) _
    (left_next (field_text F.samples tab) _
    (left_next (field_text F.peaks tab) _
    (left_next (field_text F.files tab) _ room (c.write_field-second.ensures.value, c.write_field-second.ensures.out_after))
    (c.write_field-third.ensures.value, c.write_field-third.ensures.out_after))
    (c.write_field-fourth.ensures.value, c.write_field-fourth.ensures.out_after))
    (c.write_field-fifth.ensures.value, c.write_field-fifth.ensures.out_after))
    (c.write_field-sixth.ensures.value, c.write_field-sixth.ensures.out_after))
    (c.write_field-seventh.ensures.value, c.write_field-seventh.ensures.out_after))
    (c.write_field-eighth.ensures.value, c.write_field-eighth.ensures.out_after))
    (c.write_field-ninth.ensures.value, c.write_field-ninth.ensures.out_after))
    (c.write_field-tenth.ensures.value, c.write_field-tenth.ensures.out_after)) in
    let left10 : Stands (letter_text (F).letter) c.put_rejected-eleventh.new.out c.put_rejected-eleventh.result = left_next (rejected_text (F).times.rejected) _ (left9) (c.put_rejected-eleventh.ensures.value, c.put_rejected-eleventh.ensures.out_after) in
    left-fits (left10)

pub returns : goal.returns
unfolding figures_line
returns c =
    let F : Figures = c.args.f in
    let Stands : List ℕ → List ℕ → ℕ → Type 0 = (λ rest out at. Left c.args.out.now 0 (figures_line F) rest out at) in
    let room : Stands (figures_line F) c.args.out.now 0 = left_all _ 0 _ (omega (arith, c.requires.0, c.requires.1)) in
    let left9 : Stands (rejected_text F.times.rejected ++ letter_text F.letter) c.write_field-tenth.new.out c.write_field-tenth.result = (left_next (field_text F.times.accepted tab) _
    (left_next (field_text F.times.estimate tab) _
    (left_next (field_text F.above tab) _
    (left_next (field_text F.sum tab) _
    (left_next (field_text F.last tab) _
    (left_next (field_text F.tail tab) _
    (left_next (field_text F.samples tab) _
    (left_next (field_text F.peaks tab) _
    (left_next (field_text F.files tab) _ room (c.write_field-second.ensures.value, c.write_field-second.ensures.out_after))
    (c.write_field-third.ensures.value, c.write_field-third.ensures.out_after))
    (c.write_field-fourth.ensures.value, c.write_field-fourth.ensures.out_after))
    (c.write_field-fifth.ensures.value, c.write_field-fifth.ensures.out_after))
    (c.write_field-sixth.ensures.value, c.write_field-sixth.ensures.out_after))
    (c.write_field-seventh.ensures.value, c.write_field-seventh.ensures.out_after))
    (c.write_field-eighth.ensures.value, c.write_field-eighth.ensures.out_after))
    (c.write_field-ninth.ensures.value, c.write_field-ninth.ensures.out_after))
    (c.write_field-tenth.ensures.value, c.write_field-tenth.ensures.out_after)) in
    let left10 : Stands (letter_text (F).letter) c.put_rejected-eleventh.new.out c.put_rejected-eleventh.result = left_next (rejected_text (F).times.rejected) _ (left9) (c.put_rejected-eleventh.ensures.value, c.put_rejected-eleventh.ensures.out_after) in
    puts (told (F)) (room) refl (left_last (left10) (c.put_letter-end.ensures.value, c.put_letter-end.ensures.out_after))
