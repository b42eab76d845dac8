use Prim.Native.Nat.{ℕ, ◌≤◌, ◌<◌, ◌-◌}
use mathlib.Core.Path.{◌≡◌, sym, ◌∙◌}
use mathlib.Core.Bool.{true, false}
use native.Mathlib.Omega.{arith}
use borrow.Author.Rules.{rules}
use borrow.Author.Tests.{lt-ltb}
use lib.ListN.{length}
use Rattle.truth.proofs.Cases.{by_order}
use Rattle.sample_block.proofs.Cut.{end_within}
use Rattle.sample_channels.specs.Channels.{moments}
use Rattle.sample_channels.proofs.Moments.{moments_shorter}
use Rattle.crossing_places.specs.Reading.{crosses_at}
use Rattle.crossing_places.proofs.First.{ramp_none, first-none, first-at}
use Rattle.crossing_search.proofs.first_crossing.Goals as goal
use Rattle.crossing_search.proofs.first_crossing.Goals.{After-end-end, After-rise_in-at, After-min-n, At-loop-i, Start}

-- so many samples both channels have
long : (c : After-min-n) → c.min-n.result ≡ length (moments c.args.roll.now c.args.acceleration.now)
long c = c.min-n.ensures ∙ sym (moments_shorter _ _)

pub returns-then-n-ramp : goal.returns-then-n-ramp
returns-then-n-ramp c =
    let g = c.args in
    let p = moments g.roll.now g.acceleration.now in
    long c.before ∙ sym (first-none (crosses_at g.ramp g.levels p) _ (length p) (λ k h. ramp_none g.ramp g.levels p k (omega (arith, long c.before))))

-- the block is within the samples, and not empty
within : (c : After-end-end) → (c.loop-i.i < c.end-end.result) × (c.end-end.result ≤ c.min-n.result)
within c = end_within _ _ c.end-end.ensures (omega arith)

pub rise_in-at-requires : goal.rise_in-at-requires
rise_in-at-requires c =
    let w = within c in
    let m = c.min-n.ensures in
    (omega arith, omega arith, omega arith, omega arith)

-- no crossing stands before what the block's search answers
none : (c : After-rise_in-at) (k : ℕ) →
    let a = c.args in
    k < c.rise_in-at.result → crosses_at a.ramp a.levels (moments a.roll.now a.acceleration.now) k ≡ false
none c k h =
    let start : Start = search rules in let b : At-loop-i = search rules in
    by_order k _ (b.loop-i.invariant.2 k)
    (λ l. rw (lt-ltb start.args.ramp k (omega (arith, b.loop-i.invariant.0))) (c.rise_in-at.ensures.none k l h))

pub loop-i-smaller : goal.loop-i-smaller
loop-i-smaller c = let after-end : After-end-end = search rules in omega (arith, within after-end)

pub loop-i-preserved : goal.loop-i-preserved
loop-i-preserved c =
    let after-end : After-end-end = search rules in
    let w = within after-end in
    (omega (arith, c.loop-i.invariant.0), w.1, λ k h. none c.before k (omega arith))

pub returns-then-i-n : goal.returns-then-i-n
returns-then-i-n c =
    let b : After-min-n = search rules in
    let g = b.args in
    let p = moments g.roll.now g.acceleration.now in
    let l = long b in
    l ∙ sym (first-none (crosses_at g.ramp g.levels p) _ (length p) (λ k h. c.loop-i.invariant.2 k (omega arith)))

pub returns-then-at-end : goal.returns-then-at-end
returns-then-at-end c =
    let after-end : After-end-end = search rules in
    let after-min : After-min-n = search rules in
    let g = c.args in
    let p = moments g.roll.now g.acceleration.now in
    let r = c.rise_in-at.result in
    let w = within after-end in
    let f = c.rise_in-at.ensures in
    let l = long after-min in
    let e : crosses_at g.ramp g.levels p r ≡ true = rw (lt-ltb g.ramp r (omega (arith, f.after, c.loop-i.invariant.0))) (f.found c.if-at-end.true) in
    sym (first-at (crosses_at g.ramp g.levels p) _ r (length p) (omega (arith, c.if-at-end.true)) (none c.before) e)
