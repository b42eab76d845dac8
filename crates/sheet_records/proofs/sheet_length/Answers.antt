use mathlib.Core.Path.{◌≡◌, ap, ◌∙◌}
use mathlib.Core.List.{List}
use Prim.Native.Nat.{◌+◌}
use native.Mathlib.Omega.{arith}
use lib.IntN.{ℤ, pos}
use lib.ListN.{length, get_or, drop, drop_of_length-le}
use mir.Facts.{to_z-of_z}
use mir.Syntax.{w32}
use mir.Val.{SFits}
use borrow.Author.Rules.{rules}
use Rattle.sample_size.proofs.Turn.{turn}
use Rattle.sheet_records.specs.Ledger.{lines_from}
use Rattle.sheet_records.proofs.Puts.{head_bytes, lines_none, next_bytes, sheet_bytes}
use Rattle.sheet_records.proofs.sheet_length.Goals as goal

pub loop-i-init : goal.loop-i-init
loop-i-init c =
    let a = c.args in
    (omega (arith, c.digits.ensures.value, head_bytes a.q, sheet_bytes a.q a.records.now), omega (arith, c.digits.ensures.upper_bound))

pub loop-i-preserved : goal.loop-i-preserved
loop-i-preserved c =
    let p = c.args.records.now in
    let i = c.loop-i.i in
    let f : SFits w32 (get_or p i (pos 0)) = search rules in
    let bytes = rw (to_z-of_z f) at c.line_length.ensures.0 in
    let left = turn (λ (xs : List ℤ). length (lines_from (i + 1) xs)) p i (omega arith) ∙ next_bytes (i + 1) (get_or p i (pos 0)) (drop (i + 1) p) in
    (omega (arith, bytes, left, c.loop-i.invariant.0), omega (arith, c.line_length.ensures.1, c.loop-i.invariant.1))

pub returns : goal.returns
returns c =
    let p = c.args.records.now in
    let none : length (lines_from (c.loop-i.i + 1) (drop c.loop-i.i p)) ≡ 0 = ap (λ (xs : List ℤ). length
    (lines_from (c.loop-i.i + 1) xs)) (drop_of_length-le p {i = c.loop-i.i} (omega arith)) ∙
    ap length (lines_none (c.loop-i.i + 1)) in
    omega (arith, c.loop-i.invariant.0)
