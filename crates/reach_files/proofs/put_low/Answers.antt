-- `reach_files::put_low` meets its contract: the word, two zeros, 20, and the k-th peak. Assumes nothing.
use Prim.Native.Nat.{ℕ, ◌≤◌}
use mathlib.Core.Path.{refl}
use mathlib.Core.List.{List}
use native.Mathlib.Omega.{arith}
use lib.ListN.{length, length-append}
use Rattle.decimal.specs.Field.{tab, line_feed, field_text}
use Rattle.text.proofs.Parts.{Left, left_all, left_next, left_last}
use Rattle.desk_line.specs.Said.{refused_word}
use Rattle.desk_line.proofs.Few.{Small, field_small}
use Rattle.desk_line.proofs.Put.{puts}
use Rattle.reach_files.specs.Line.{low_line, low}
use borrow.Author.Rules.{rules}
use Rattle.reach_files.proofs.put_low.Goals as goal

low-few : (u : ℕ) → Small u → length (low_line u) ≤ 128
unfolding low_line
low-few u h =
    simp length-append
    (omega (arith, field_small 0 tab (omega arith), field_small 20 tab (omega arith), field_small u line_feed h))

pub returns : goal.returns
unfolding low_line
returns c =
    let Stands : List ℕ → List ℕ → ℕ → Type 0 = (λ rest out at. Left c.args.out.now 0 (low_line c.args.u) rest out at) in
    let room : Stands (low_line c.args.u) c.args.out.now 0 = (let u : Small c.args.u = search rules in
    left_all _ 0 _ (omega (arith, c.requires, low-few c.args.u u))) in
    let left4 : Stands (field_text c.args.u line_feed) c.write_field-peak.new.out c.write_field-peak.result = (left_next (field_text 20 tab) _
    (left_next (field_text 0 tab) _
    (left_next (field_text 0 tab) _
    (left_next refused_word _ (room) (c.write_bytes-file.ensures.value, c.write_bytes-file.ensures.out_after))
    (c.write_field-line.ensures.value, c.write_field-line.ensures.out_after))
    (c.write_field-number.ensures.value, c.write_field-number.ensures.out_after))
    (c.write_field-peak.ensures.value, c.write_field-peak.ensures.out_after)) in
    puts (low c.args.u) (room) refl (left_last (left4) (c.write_field-n.ensures.value, c.write_field-n.ensures.out_after))
