use Prim.Native.Nat.{suc, ◌+◌}
use mathlib.Core.Path.{◌≡◌, sym, ap, ◌∙◌}
use mathlib.Core.List.{◌∷◌}
use native.Mathlib.Omega.{arith}
use borrow.Author.Rules.{rules}
use borrow.Author.Tests.{eq-eqb, ne_eqb}
use lib.ListN.{get_or, drop, drop_of_length-le}
use lib.IntN.{pos, nat_abs}
use mir.Val.{SFits}
use mir.Syntax.{w32}
use mir.Facts.{to_z-of_z}
use Rattle.sample_size.proofs.Turn.{turn}
use Rattle.peak_groups.specs.Runs.{zeros}
use Rattle.peak_groups.proofs.zeros.Goals as goal

pub returns-then-magnitude-ne0 : goal.returns-then-magnitude-ne0
unfolding zeros
returns-then-magnitude-ne0 c =
    let p = c.args.samples.now in
    let i = c.loop-i.i in
    let f : SFits w32 (get_or p i (pos 0)) = search rules in
    let e : c.magnitude.result ≡ nat_abs (get_or p i (pos 0)) = c.magnitude.ensures ∙ ap nat_abs (to_z-of_z f) in
    let n : zeros (get_or p i (pos 0) ∷ drop (i + 1) p) ≡ 0 = rw (ne_eqb (nat_abs (get_or p i (pos 0))) 0 (λ z. c.if-magnitude-ne0.true (e ∙ z))) in
    omega (arith, turn zeros p i (omega arith) ∙ n)

pub loop-i-preserved : goal.loop-i-preserved
unfolding zeros
loop-i-preserved c =
    let p = c.args.samples.now in
    let i = c.loop-i.i in
    let f : SFits w32 (get_or p i (pos 0)) = search rules in
    let e : c.magnitude.result ≡ nat_abs (get_or p i (pos 0)) = c.magnitude.ensures ∙ ap nat_abs (to_z-of_z f) in
    let n : zeros (get_or p i (pos 0) ∷ drop (i + 1) p) ≡ suc (zeros (drop (i + 1) p)) = rw (eq-eqb (nat_abs (get_or p i (pos 0))) 0 (sym e ∙ c.if-magnitude-ne0.false)) in
    omega (arith, turn zeros p i (omega arith) ∙ n)

pub returns : goal.returns
unfolding zeros
returns c =
    let p = c.args.samples.now in
    let e : zeros (drop c.loop-i.i p) ≡ 0 = ap zeros (drop_of_length-le p {i = c.loop-i.i} (omega arith)) in
    omega arith
