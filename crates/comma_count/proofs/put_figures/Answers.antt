-- `comma_count::put_figures` meets its contract: six fields, one after the other. Assumes nothing.
use Prim.Native.Nat.{ℕ}
use mathlib.Core.Path.{◌≡◌, refl}
use mathlib.Core.List.{List, ◌++◌}
use native.Mathlib.Omega.{arith}
use Rattle.record_end.specs.declared.RecordResult.{RecordResult}
use Rattle.decimal.specs.Field.{tab, line_feed, field_text}
use Rattle.text.proofs.Parts.{Left, left_all, left_next, left_room, left_last}
use Rattle.comma_count.specs.Line.{first_text, figures_line, counted}
use Rattle.desk_line.proofs.Few.{Small}
use Rattle.comma_count.proofs.Few.{figures_few}
use Rattle.desk_line.proofs.Put.{puts}
use borrow.Author.Rules.{rules}
use Rattle.comma_count.proofs.put_figures.Goals as goal
use Rattle.comma_count.proofs.put_figures.Goals.{After-write_field-fifth}

abbrev X : After-write_field-fifth → RecordResult
X c = c.args.x

-- of the line so much is left, and the lent bytes are these
abbrev Stands : After-write_field-fifth → List ℕ → List ℕ → ℕ → Type 0
Stands c rest out at = Left c.args.out.now 0 (figures_line c.args.n (X c)) rest out at

room : (c : After-write_field-fifth) → Stands c (figures_line c.args.n (X c)) c.args.out.now 0
room c =
    let n : Small c.args.n = search rules in
    let crossings : Small (X c).crossings = search rules in
    let groups : Small (X c).counted = search rules in
    let largest : Small (X c).largest = search rules in
    let exposure : Small (X c).exposure = search rules in
    left_all _ 0 _ (omega (arith, c.requires, figures_few c.args.n (X c) n crossings groups largest exposure))

left4 : (c : After-write_field-fifth) → Stands c (first_text (X c).first (X c).exposure ++ field_text (X c).exposure line_feed) c.write_field-fifth.new.out c.write_field-fifth.result
unfolding figures_line
left4 c =
    left_next (field_text (X c).largest tab) _
    (left_next (field_text (X c).counted tab) _
    (left_next (field_text (X c).crossings tab) _
    (left_next (field_text c.args.n tab) _ (room c) (c.write_field-second.ensures.value, c.write_field-second.ensures.out_after))
    (c.write_field-third.ensures.value, c.write_field-third.ensures.out_after))
    (c.write_field-fourth.ensures.value, c.write_field-fourth.ensures.out_after))
    (c.write_field-fifth.ensures.value, c.write_field-fifth.ensures.out_after)

pub put_first-sixth-requires : goal.put_first-sixth-requires
put_first-sixth-requires c =
    let d = (goal.at.put_first-sixth-requires c).After-write_field-fifth in
    left_room (first_text (X d).first (X d).exposure) _ (left4 d)

pub returns : goal.returns
returns c =
    let d = (goal.at.returns c).After-write_field-fifth in
    puts (counted c.args.n (X d)) (room d) refl
    (left_last (left_next (first_text (X d).first (X d).exposure) _ (left4 d) (c.put_first-sixth.ensures.value, c.put_first-sixth.ensures.out_after)) (c.write_field-end.ensures.value, c.write_field-end.ensures.out_after))
