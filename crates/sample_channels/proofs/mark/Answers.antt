use Prim.Native.Nat.{ℕ, min}
use mathlib.Core.Path.{◌≡◌, sym, ap, ◌∙◌}
use mathlib.Core.Bool.{Bool}
use mathlib.Core.List.{List, map}
use native.Mathlib.Numerals.{add-one}
use native.Mathlib.Nat.{zero-add}
use native.Mathlib.Omega.{arith}
use lib.ListN.{length, get_or, set, length-set, length-map, get_or-map}
use lib.Seq.{paste, paste-suc}
use Rattle.sample_channels.specs.Channels.{above, still, moments}
use Rattle.sample_channels.proofs.Moments.{moments_shorter}
use Rattle.sample_channels.proofs.mark.Goals as goal

pub loop-i-preserved : goal.loop-i-preserved
loop-i-preserved c =
    let g = c.args in
    let i = c.loop-i.i in
    let ups = c.loop-i.ups in
    let inv = c.loop-i.invariant in
    let p = moments g.roll.now g.acceleration.now in
    let marks = map (above g.levels) p in
    let d = above g.levels still in
    let x = get_or marks i d in
    let u : c.above.result ≡ x = c.above.ensures ∙ ap (above g.levels) c.moment_at.ensures ∙ sym (get_or-map (above g.levels) p i still) in (
      length-set ups i c.above.result ∙ inv.0,
      rw add-one (ap (set ups i) u ∙ ap (λ (l : List Bool). set l i x) inv.1 ∙ ap (λ (k : ℕ). set (paste g.ups.now 0 marks i) k x) (sym (zero-add i))
          ∙ paste-suc g.ups.now 0 marks i d (omega arith) (omega (arith, length-map p (above g.levels), moments_shorter g.roll.now g.acceleration.now))),
    )

pub returns : goal.returns
returns c =
    let g = c.args in
    let p = moments g.roll.now g.acceleration.now in
    let e : c.loop-i.i ≡ min (length g.ups.now) (length p) = omega (arith, moments_shorter g.roll.now g.acceleration.now) in
    c.loop-i.invariant.1 ∙ ap (paste g.ups.now 0 (map (above g.levels) p)) e
