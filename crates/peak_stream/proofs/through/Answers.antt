use Prim.Native.Nat.{◌+◌, ◌≤◌}
use mathlib.Core.Path.{◌≡◌, ap, ◌∙◌}
use mathlib.Core.Bool.{cond}
use native.Mathlib.Omega.{arith}
use borrow.Author.Rules.{rules}
use lib.ListN.{length, get_or, set}
use lib.IntN.{pos}
use mir.Val.{SFits}
use mir.Syntax.{w32}
use mir.Facts.{to_z-of_z}
use Rattle.peak_stream.specs.declared.Handing.{Handing}
use Rattle.peak_stream.specs.Hands.{moved, closing}
use Rattle.peak_stream.proofs.Coming.{going_starts, going_on, going_state, going_number, going_sizes, going_times}
use Rattle.peak_stream.proofs.through.Goals as goal

pub loop-x-init : goal.loop-x-init
loop-x-init c =
    let a = c.args in going_starts a.h a.samples.now a.sizes.now a.times.now c.requires.0 c.requires.1

pub loop-x-preserved : goal.loop-x-preserved
loop-x-preserved c =
    let a = c.args in
    let p = a.samples.now in
    let h = c.loop-x.at in
    let i = c.loop-x.x-index in
    let k = c.loop-x.k in
    let ss = c.loop-x.sizes in
    let ts = c.loop-x.times in
    let best = h.envelope.chains.best in
    let x = get_or p i (pos 0) in
    let f : SFits w32 x = search rules in
    let o = c.put-k in
    let q : c.onward-next.result ≡ moved h x = c.onward-next.ensures ∙ ap (moved h) (to_z-of_z f) in
    let hk : o.result ≡ cond (closing h (moved h x)) (k + 1) k = o.ensures.0 ∙ ap (λ (u : Handing). cond (closing
    h u) (k + 1) k) q in
    let hs : o.new.sizes ≡ cond (closing h (moved h x)) (set ss k best.size) ss = o.ensures.1 ∙ ap (λ (u
    : Handing). cond (closing h u) (set ss k best.size) ss) q in
    let ht : o.new.times ≡ cond (closing h (moved h x)) (set ts k best.time) ts = o.ensures.2 ∙ ap (λ
    (u : Handing). cond (closing h u) (set ts k best.time) ts) q in
    rw (q, hk, hs, ht) (going_on a.h p a.sizes.now a.times.now c.loop-x.invariant (omega arith))

pub returns : goal.returns
returns c =
    let a = c.args in
    let v = c.loop-x.invariant in
    let l : length a.samples.now ≤ c.loop-x.x-index = omega arith in (
      going_state a.h a.samples.now a.sizes.now a.times.now v l,
      going_number a.h a.samples.now a.sizes.now a.times.now v l,
      going_sizes a.h a.samples.now a.sizes.now a.times.now v l,
      going_times a.h a.samples.now a.sizes.now a.times.now v l,
    )
