use Prim.Native.Nat.{ℕ, ◌+◌}
use mathlib.Core.Path.{◌≡◌, refl, sym, ap, ◌∙◌}
use mathlib.Core.Bool.{Bool}
use mathlib.Core.List.{List, ◌∷◌}
use native.Mathlib.Omega.{arith}
use borrow.Author.Rules.{rules}
use lib.ListN.{get_or, drop, drop_of_length-le}
use lib.IntN.{ℤ, pos, nat_abs}
use mir.Val.{SFits, of_z, to_z}
use mir.Syntax.{w32}
use mir.Facts.{to_z-of_z}
use Rattle.sample_size.proofs.Turn.{turn}
use Rattle.peak_groups.specs.declared.Run.{Run}
use Rattle.peak_groups.specs.Runs.{same, side, first_run}
use Rattle.peak_groups.specs.Step.{opened, longer}
use Rattle.peak_groups.proofs.Ahead.{ahead, ahead_on, ahead_off, first_ahead}
use Rattle.peak_groups.proofs.run_on.Goals as goal

fields : {a b : Bool} {m n : ℕ} → a ≡ b → m ≡ n → ◌≡◌ {A = Run} (record { below = a; length = 1; place = 0; size = m }) (record { below = b; length = 1; place = 0; size = n })
fields e f = rw (e, f)

-- the first sample, as the clauses read it
read : (x : ℤ) (p : List ℤ) → SFits w32 x → first_run (to_z w32 (of_z w32 x) ∷ p) ≡ first_run (x ∷ p)
read x p f = ap (λ (y : ℤ). first_run (y ∷ p)) (to_z-of_z f)

pub loop-x-init : goal.loop-x-init
loop-x-init c =
    let x = c.args.first in
    let p = c.args.rest.now in
    let f : SFits w32 x = search rules in
    let q : ◌≡◌ {A = Run} (record { below = c.args.below; length = 1; place = 0; size = c.magnitude.result }) (opened x) = fields c.requires (c.magnitude.ensures ∙ ap nat_abs (to_z-of_z f)) in
    record { long = refl; side = refl; comes = rw (to_z-of_z f) (ap (λ (r : Run). ahead r p) q ∙ first_ahead x p) }

pub returns-then-not-stays : goal.returns-then-not-stays
returns-then-not-stays c =
    let p = c.args.rest.now in
    let i = c.loop-x.x-index in
    let r = c.loop-x.run in
    let v = c.loop-x.invariant in
    let x = get_or p i (pos 0) in
    let f : SFits w32 x = search rules in
    let z = ap (λ (b : Bool). same b (side b x)) v.side ∙ ap (λ (y : ℤ). same c.args.below (side c.args.below y)) (sym (to_z-of_z f)) ∙ sym c.stays.ensures ∙ c.if-not-stays.true in
    sym (turn (ahead r) p i (omega arith) ∙ ahead_off r x (drop (i + 1) p) z) ∙ v.comes ∙ read c.args.first p (search rules)

pub loop-x-preserved : goal.loop-x-preserved
loop-x-preserved c =
    let p = c.args.rest.now in
    let i = c.loop-x.x-index in
    let r = c.loop-x.run in
    let v = c.loop-x.invariant in
    let x = get_or p i (pos 0) in
    let f : SFits w32 x = search rules in
    let z = ap (λ (b : Bool). same b (side b x)) v.side ∙ ap (λ (y : ℤ). same c.args.below (side c.args.below y)) (sym (to_z-of_z f)) ∙ sym c.stays.ensures ∙ c.if-not-stays.false in
    let q : c.longer-run.result ≡ longer r x = c.longer-run.ensures ∙ ap (longer r) (to_z-of_z f) in
    rw q record { long = omega (arith, v.long); side = v.side; comes = sym (turn (ahead r) p i (omega arith) ∙ ahead_on r x (drop (i + 1) p) z) ∙ v.comes }

pub returns : goal.returns
unfolding ahead
returns c =
    let i = c.loop-x.x-index in
    let r = c.loop-x.run in
    sym (ap (ahead r) (drop_of_length-le c.args.rest.now {i = i} (omega arith))) ∙ c.loop-x.invariant.comes ∙ read c.args.first c.args.rest.now (search rules)
