use mathlib.Core.Path.{◌≡◌, ap, subst, ◌∙◌}
use mathlib.Core.List.{List, [], ◌++◌}
use Prim.Native.Nat.{ℕ, ◌+◌}
use native.Mathlib.Omega.{arith}
use lib.IntN.{ℤ, pos}
use lib.ListN.{get_or, drop, drop_of_length-le}
use mir.Facts.{to_z-of_z}
use mir.Syntax.{w32}
use mir.Val.{SFits}
use borrow.Author.Rules.{rules}
use Rattle.sample_size.proofs.Turn.{turn}
use Rattle.text.proofs.Parts.{Left, left_all, left_done, left_next, left_room}
use Rattle.comma_line.specs.Line.{sample_text}
use Rattle.comma_line.specs.Text.{text_from, text_of}
use Rattle.comma_write.proofs.Puts.{text_next, text_none}
use Rattle.comma_write.proofs.put_text.Goals as goal
use Rattle.comma_write.proofs.put_text.Goals.{In-loop-x}

-- the line that is due, and the lines after it
module _ (c : In-loop-x) where
  abbrev Samples : List ℤ
  Samples = c.args.samples.now

  abbrev Step : ℕ
  Step = c.args.step

  abbrev X : ℤ
  X = get_or Samples c.loop-x.x-index (pos 0)

  here : Left c.args.out.now 0 (text_of Step Samples) (sample_text c.loop-x.time X ++
      text_from Step (c.loop-x.time + Step) (drop (c.loop-x.x-index + 1) Samples)) c.loop-x.out c.loop-x.at
  here =
      subst (λ (rest : List ℕ). Left c.args.out.now 0 (text_of Step Samples) rest c.loop-x.out c.loop-x.at)
      (turn (text_from Step c.loop-x.time) Samples c.loop-x.x-index c.loop-x-test.true ∙ text_next Step c.loop-x.time X (drop (c.loop-x.x-index + 1) Samples))
      c.loop-x.invariant.0

pub loop-x-init : goal.loop-x-init
loop-x-init c = (left_all _ 0 _ (omega (arith, c.requires.2)), omega arith)

pub put_line-at-requires : goal.put_line-at-requires
put_line-at-requires c =
    let l = (goal.at.put_line-at-requires c).In-loop-x in
    let f : SFits w32 (X l) = search rules in
    rw (to_z-of_z f) (left_room (sample_text c.loop-x.time (X l)) _ (here l))

pub loop-x-preserved : goal.loop-x-preserved
loop-x-preserved c =
    let l = (goal.at.loop-x-preserved c).In-loop-x in
    let f : SFits w32 (X l) = search rules in
    (left_next (sample_text c.loop-x.time (X l)) _ (here l) (rw (to_z-of_z f) at c.put_line-at.ensures.value, rw (to_z-of_z f) at c.put_line-at.ensures.out_after), omega (arith, c.loop-x.invariant.1))

pub returns : goal.returns
returns c =
    let a = c.args in
    let none : text_from a.step c.loop-x.time (drop c.loop-x.x-index a.samples.now) ≡ [] =
    ap (text_from a.step c.loop-x.time) (drop_of_length-le a.samples.now {i = c.loop-x.x-index}
    c.loop-x-test.false) ∙ text_none a.step c.loop-x.time in
    left_done (subst (λ (rest : List ℕ). Left a.out.now 0 (text_of a.step a.samples.now) rest c.loop-x.out c.loop-x.at) none c.loop-x.invariant.0)
