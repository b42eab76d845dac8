use mathlib.Core.Path.{◌≡◌, ap, ◌∙◌}
use mathlib.Core.List.{List}
use Prim.Native.Nat.{◌+◌}
use native.Mathlib.Omega.{arith}
use lib.IntN.{ℤ, pos}
use lib.ListN.{length, get_or, drop, drop_of_length-le}
use mir.Facts.{to_z-of_z}
use mir.Syntax.{w32}
use mir.Val.{SFits}
use borrow.Author.Rules.{rules}
use Rattle.sample_size.proofs.Turn.{turn}
use Rattle.comma_line.specs.Text.{text_from}
use Rattle.comma_write.proofs.Puts.{next_bytes, text_none}
use Rattle.comma_write.proofs.text_length.Goals as goal

pub loop-x-preserved : goal.loop-x-preserved
loop-x-preserved c =
    let a = c.args in
    let p = a.samples.now in
    let i = c.loop-x.x-index in
    let f : SFits w32 (get_or p i (pos 0)) = search rules in
    let bytes = rw (to_z-of_z f) at c.line_length.ensures.0 in
    let left = turn (λ (xs : List ℤ). length (text_from a.step c.loop-x.time xs)) p i (omega arith) ∙ next_bytes a.step c.loop-x.time (get_or p i (pos 0)) (drop (i + 1) p) in
    (omega (arith, bytes, left, c.loop-x.invariant.0), omega (arith, c.line_length.ensures.1, c.loop-x.invariant.1), omega (arith, c.loop-x.invariant.2))

pub returns : goal.returns
returns c =
    let p = c.args.samples.now in
    let none : length (text_from c.args.step c.loop-x.time (drop c.loop-x.x-index p)) ≡ 0 =
    ap (λ (xs : List ℤ). length (text_from c.args.step c.loop-x.time xs)) (drop_of_length-le p {i =
    c.loop-x.x-index} (omega arith)) ∙ ap length (text_none c.args.step c.loop-x.time) in
    omega (arith, c.loop-x.invariant.0)
