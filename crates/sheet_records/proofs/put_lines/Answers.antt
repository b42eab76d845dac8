use mathlib.Core.Path.{◌≡◌, ap, subst, ◌∙◌}
use mathlib.Core.List.{List, [], ◌++◌}
use Prim.Native.Nat.{ℕ, ◌+◌}
use lib.IntN.{ℤ, pos}
use lib.ListN.{get_or, drop, drop_of_length-le}
use mir.Facts.{to_z-of_z}
use mir.Syntax.{w32}
use mir.Val.{SFits}
use borrow.Author.Rules.{rules}
use Rattle.sample_size.proofs.Turn.{turn}
use Rattle.text.proofs.Parts.{Left, left_all, left_next, left_room, left_wrote}
use Rattle.sheet_records.specs.Ledger.{signed_record_text, lines_from}
use Rattle.sheet_records.proofs.Puts.{lines_next, lines_none}
use Rattle.sheet_records.proofs.put_lines.Goals as goal
use Rattle.sheet_records.proofs.put_lines.Goals.{In-loop-i}

-- the line that is due, and the lines after it
module _ (c : In-loop-i) where
  abbrev Records : List ℤ
  Records = c.args.records.now

  abbrev X : ℤ
  X = get_or Records c.loop-i.i (pos 0)

  abbrev Stands : List ℕ → Type 0
  Stands rest = Left c.args.out.now c.args.at (lines_from 1 Records) rest c.loop-i.out c.loop-i.place

  here : Stands (signed_record_text (c.loop-i.i + 1) X ++ lines_from (c.loop-i.i + 1 + 1) (drop (c.loop-i.i + 1) Records))
  here =
      subst Stands
      (turn (lines_from (c.loop-i.i + 1)) Records c.loop-i.i c.loop-i-test.true ∙ lines_next (c.loop-i.i + 1) X (drop (c.loop-i.i + 1) Records))
      c.loop-i.invariant

pub loop-i-init : goal.loop-i-init
loop-i-init c = left_all _ _ _ c.requires.1

pub put_line-place-requires : goal.put_line-place-requires
put_line-place-requires c =
    let l = (goal.at.put_line-place-requires c).In-loop-i in
    let f : SFits w32 (X l) = search rules in
    rw (to_z-of_z f) (left_room (signed_record_text (c.loop-i.i + 1) (X l)) _ (here l))

pub loop-i-preserved : goal.loop-i-preserved
loop-i-preserved c =
    let l = (goal.at.loop-i-preserved c).In-loop-i in
    let f : SFits w32 (X l) = search rules in
    left_next (signed_record_text (c.loop-i.i + 1) (X l)) _ (here l) (rw (to_z-of_z f) at c.put_line-place.ensures.value, rw (to_z-of_z f) at c.put_line-place.ensures.out_after)

pub returns : goal.returns
returns c =
    let a = c.args in
    let none : lines_from (c.loop-i.i + 1) (drop c.loop-i.i a.records.now) ≡ [] =
    ap (lines_from (c.loop-i.i + 1)) (drop_of_length-le a.records.now {i = c.loop-i.i} c.loop-i-test.false)
    ∙ lines_none (c.loop-i.i + 1) in
    let whole = left_wrote (subst (λ (rest : List ℕ). Left a.out.now a.at (lines_from 1 a.records.now) rest c.loop-i.out c.loop-i.place) none c.loop-i.invariant) in record { value = whole.0; out_after = whole.1 }
