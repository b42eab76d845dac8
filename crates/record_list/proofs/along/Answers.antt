use Prim.Native.Nat.{suc, ◌+◌, ◌-◌}
use mathlib.Core.Path.{◌≡◌, sym, ap, ◌∙◌}
use mathlib.Core.Bool.{false}
use mathlib.Core.List.{foldl, ◌∷◌}
use native.Mathlib.Numerals.{add-one}
use native.Mathlib.Omega.{arith}
use lib.ListN.{length, get_or, drop}
use lib.Seq.{drop-cons}
use Rattle.record_list.specs.Walk.{Noting, noting, marked, Ready}
use Rattle.record_list.proofs.Steps.{ready_next}
use Rattle.record_list.proofs.along.Goals as goal

pub loop-up-preserved : goal.loop-up-preserved
loop-up-preserved c =
    let g = c.args in
    let f = marked g.items.step g.items.decorrelation in
    let i = c.loop-up.up-index in
    let v = c.loop-up.v in
    let ts = c.loop-up.times in
    let inv = c.loop-up.invariant in
    let up = get_or g.ups.now i false in
    let e : noting _ _ ≡ f (noting v ts) up = c.stepped-v.ensures in
    let k : length g.ups.now - i ≡ suc (length g.ups.now - (i + 1)) = omega arith in
    let r : Ready g.items.step g.items.decorrelation v (suc (length g.ups.now - (i + 1))) = rw k at inv.0 in
    let turn : drop i g.ups.now ≡ up ∷ drop (i + 1) g.ups.now = rw (add-one, drop-cons g.ups.now i false (omega arith)) in (
      rw (ap (λ (s : Noting). s.walk) e) (ready_next up r),
      ap (λ (s : Noting). foldl f s (drop (i + 1) g.ups.now)) e ∙ sym (ap (foldl f (noting v ts)) turn) ∙ inv.1,
    )
