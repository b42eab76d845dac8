-- `binomial_files::put_sum` meets its contract: six fields, one after the other. Assumes nothing.
use Prim.Native.Nat.{ℕ}
use mathlib.Core.Path.{refl}
use mathlib.Core.List.{List}
use native.Mathlib.Omega.{arith}
use Rattle.decimal.specs.Field.{tab, line_feed, field_text}
use Rattle.text.proofs.Parts.{Left, left_all, left_next, left_last}
use Rattle.binomial_sum.specs.declared.Sum.{Sum}
use Rattle.binomial_bounds.specs.declared.Bounds.{Bounds}
use Rattle.desk_line.proofs.Few.{Small}
use Rattle.desk_line.proofs.Put.{puts}
use Rattle.binomial_files.specs.Files.{sum_line, summed}
use Rattle.binomial_files.proofs.Few.{sum_few}
use borrow.Author.Rules.{rules}
use Rattle.binomial_files.proofs.put_sum.Goals as goal

pub returns : goal.returns
unfolding sum_line
returns c =
    let S : Sum = c.args.s in
    let B : Bounds = c.args.b in
    let Stands : List ℕ → List ℕ → ℕ → Type 0 = λ rest out at. Left c.args.out.now 0 (sum_line (S) (B)) rest out at in
    let room : Stands (sum_line (S) (B)) c.args.out.now 0 = let failures : Small (S).failures = search rules in
    let samples : Small (S).samples = search rules in
    let estimate : Small (B).estimate = search rules in
    let lower : Small (B).lower = search rules in
    let upper : Small (B).upper = search rules in
    let time : Small (B).time = search rules in
    left_all _ 0 _ (omega (arith, c.requires, sum_few (S) (B) failures samples estimate lower upper time)) in
    let left5 : Stands (field_text (B).time line_feed) c.write_field-sixth.new.out c.write_field-sixth.result = left_next (field_text (B).upper tab) _
    (left_next (field_text (B).lower tab) _
    (left_next (field_text (B).estimate tab) _
    (left_next (field_text (S).samples tab) _
    (left_next (field_text (S).failures tab) _ (room) (c.write_field-second.ensures.value, c.write_field-second.ensures.out_after))
    (c.write_field-third.ensures.value, c.write_field-third.ensures.out_after))
    (c.write_field-fourth.ensures.value, c.write_field-fourth.ensures.out_after))
    (c.write_field-fifth.ensures.value, c.write_field-fifth.ensures.out_after))
    (c.write_field-sixth.ensures.value, c.write_field-sixth.ensures.out_after) in
    puts (summed (S) (B)) (room) refl (left_last (left5) (c.write_field-end.ensures.value, c.write_field-end.ensures.out_after))
