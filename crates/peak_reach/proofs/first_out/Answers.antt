use mathlib.Core.Path.{◌≡◌, sym, ◌∙◌}
use mathlib.Core.Bool.{true, false}
use mathlib.Core.List.{[]}
use native.Mathlib.Omega.{arith}
use lib.ListN.{drop, drop_of_length-le, get_or}
use Rattle.sample_items.specs.Limits.{within}
use Rattle.peak_reach.specs.Answers.{first_out_after}
use Rattle.peak_reach.proofs.Downwards.{in_at, out_at}
use Rattle.peak_reach.proofs.first_out.Goals as goal

pub returns-then-not-both : goal.returns-then-not-both
returns-then-not-both c =
    let p = c.args.peaks.now in
    let i = c.loop-i.i in
    let b = c.loop-i.before in
    let z : within 1 b (get_or p i 0) ≡ false = sym c.both.ensures ∙ c.if-not-both.true in
    omega (arith, c.loop-i.invariant.1, out_at p b i (omega arith) z)

pub loop-i-preserved : goal.loop-i-preserved
loop-i-preserved c =
    let p = c.args.peaks.now in
    let i = c.loop-i.i in
    let b = c.loop-i.before in
    let z : within 1 b (get_or p i 0) ≡ true = sym c.both.ensures ∙ c.if-not-both.false in
    (omega arith, omega (arith, c.loop-i.invariant.1, in_at p b i (omega arith) z))

pub returns : goal.returns
unfolding first_out_after
returns c =
    let p = c.args.peaks.now in
    let i = c.loop-i.i in
    let e : drop i p ≡ [] = drop_of_length-le p {i = i} (omega arith) in
    omega (arith, rw e at c.loop-i.invariant.1)
