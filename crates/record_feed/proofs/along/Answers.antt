use Prim.Native.Nat.{◌+◌, ◌-◌}
use mathlib.Core.Path.{◌≡◌, refl, sym, ap, ◌∙◌}
use mathlib.Core.Bool.{Bool, false, not}
use mathlib.Core.List.{List, [], ◌∷◌, foldl}
use native.Mathlib.Omega.{arith}
use lib.ListN.{length, get_or, drop, drop_of_length-le}
use Rattle.sample_channels.specs.declared.Levels.{Levels}
use Rattle.sample_channels.specs.Channels.{above, moments, AllInRange}
use Rattle.sample_channels.proofs.Marks.{marks_many, marks_at}
use Rattle.sample_channels.proofs.Moments.{moments_length, turn}
use Rattle.crossing_places.specs.Reading.{sample_at}
use Rattle.record_step.specs.Step.{stepped}
use Rattle.record_feed.proofs.Gaps.{gap_stays}
use Rattle.record_step.proofs.Steps.{stepped_sound, stepped_n, stepped_most, stepped_levels, stepped_timed, stepped_low}
use Rattle.record_feed.proofs.along.Goals as goal

pub bounds-ups-i : goal.bounds-ups-i
bounds-ups-i c =
    omega (arith, ap length c.requires.2 ∙ marks_many c.args.r.items.levels c.args.roll.now c.args.acceleration.now c.requires.0.equal)

pub loop-i-preserved : goal.loop-i-preserved
unfolding AllInRange
loop-i-preserved c =
    let noted : get_or c.args.ups.now c.loop-i.i false ≡ above c.loop-i.s.items.levels c.moment_at-x.result = let xs = c.args.roll.now in
    let ys = c.args.acceleration.now in
    let l = c.loop-i in
    ap (λ (us : List Bool). get_or us l.i false) c.requires.2 ∙ marks_at c.args.r.items.levels xs ys l.i ∙
    ap (λ (v : Levels). above v (sample_at (moments xs ys) l.i)) (sym l.invariant.7) ∙
    ap (above l.s.items.levels) (sym c.moment_at-x.ensures) in
    let p = moments c.args.roll.now c.args.acceleration.now in
    let k : length p ≡ length c.args.roll.now = moments_length c.args.roll.now c.args.acceleration.now c.requires.0.equal in
    let i = c.loop-i.i in
    let s = c.loop-i.s in
    let v = c.loop-i.invariant in
    let x = sample_at p i in
    let z : c.moment_at-x.result ≡ x = c.moment_at-x.ensures in
    let e : c.step-s.result ≡ stepped s x = c.step-s.ensures ∙ ap (stepped s) z in
    let u = noted ∙ ap (above s.items.levels) z in
    let g : AllInRange (x ∷ drop (i + 1) p) = rw (← turn AllInRange p i (omega arith)) v.2 in
    let after = stepped_timed s x v.5 in
    let l = ap not u ∙ sym (stepped_low s x after) in
    rw (l, e) (
      stepped_sound s x v.0 g.0 (omega (arith, v.3)),
      omega arith,
      g.1,
      omega (
        arith,
        v.3,
        stepped_n s x,
        stepped_most s x,
      ),
      refl,
      after,
      gap_stays s x v.6,
      stepped_levels s x ∙ v.7,
      sym (turn (foldl stepped s) p i (omega arith)) ∙ v.8,
    )

pub returns : goal.returns
returns c =
    let p = moments c.args.roll.now c.args.acceleration.now in
    let k : length p ≡ length c.args.roll.now = moments_length c.args.roll.now c.args.acceleration.now c.requires.0.equal in
    let e : drop c.loop-i.i p ≡ [] = drop_of_length-le p {i = c.loop-i.i} (omega arith) in
    sym (ap (foldl stepped _) e) ∙ c.loop-i.invariant.8
