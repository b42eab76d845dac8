-- `record_list::list_fitting` meets its contract: each answer is the law of `Answered` whose tests held on the way to
-- it. A sample is bad in the ramp or after it (`any_parts`). Assumes nothing.
use Prim.Native.Nat.{ℕ, ◌-◌, ◌≤◌}
use mathlib.Core.Path.{◌≡◌, sym, ◌∙◌}
use mathlib.Core.Bool.{true, false}
use mathlib.Core.List.{List}
use native.Mathlib.Omega.{arith}
use lib.IntN.{ℤ}
use lib.ListN.{length, take, drop, length-drop}
use lib.Seq.{take_all, length-take-le}
use Rattle.sample_channels.specs.Channels.{any_bad}
use Rattle.sample_channels.proofs.Blocks.{any_parts}
use Rattle.sample_channels.proofs.Range.{looked_bad, looked_good}
use Rattle.record_list.proofs.Ready.{ready}
use Rattle.record_list.proofs.Answered.{lists_bad, lists_good}
use Rattle.record_list.proofs.list_fitting.Goals as goal

-- what stands after the ramp is the timed samples
timed : (r : ℕ) (xs : List ℤ) → r ≤ length xs → take (length xs - r) (drop r xs) ≡ drop r xs
timed r xs h = take_all (length xs - r) (drop r xs) (omega (arith, length-drop r xs))

pub slice_bounds-look_over-end : goal.slice_bounds-look_over-end
slice_bounds-look_over-end c = sym (length-take-le _ _ (omega (arith, c.requires.few)))

pub slice_bounds-look_over-end-2 : goal.slice_bounds-look_over-end-2
slice_bounds-look_over-end-2 c = sym (length-take-le _ _ (omega (arith, c.requires.few, c.requires.equal)))

pub fault-requires : goal.fault-requires
fault-requires c = c.requires.equal

pub fault-requires-in-None : goal.fault-requires-in-None
fault-requires-in-None c = c.requires.equal

-- a bad sample of the ramp, or of the timed samples, is one of the record's
pub returns-in-Err : goal.returns-in-Err
returns-in-Err c =
    let a = c.args in
    let l = looked_bad _ _ _ (sym c.look_over.ensures ∙ c.in-Err.is) in
    let w : any_bad a.roll.now a.acceleration.now ≡ true = any_parts a.roll.now a.acceleration.now a.items.ramp ∙ rw l.0 in
    rw (c.fault.ensures w) (lists_bad _ _ _ _ c.requires w)

pub list_timed-settled-requires : goal.list_timed-settled-requires
list_timed-settled-requires c =
    let a = c.args in
    let f = c.requires in
    rw (timed a.items.ramp a.roll.now (omega (arith, f.few)), timed a.items.ramp a.acceleration.now (omega (arith, f.few, f.equal)))
    (ready _ a.roll.now f, omega (arith, f.equal, length-drop a.items.ramp a.roll.now, length-drop a.items.ramp a.acceleration.now))

pub returns-in-Some : goal.returns-in-Some
returns-in-Some c =
    let a = c.args in
    let f = c.requires in
    let good : any_bad (take a.items.ramp a.roll.now) (take a.items.ramp a.acceleration.now) ≡ false = looked_good _ _ (sym c.look_over.ensures ∙ c.in_default.is) in
    let q = rw (timed a.items.ramp a.roll.now (omega (arith, f.few)), timed a.items.ramp a.acceleration.now (omega (arith, f.few, f.equal)), c.in-Some.is) at c.list_timed-settled.ensures in
    lists_good _ _ _ _ f (any_parts a.roll.now a.acceleration.now a.items.ramp ∙ rw (good, q.0)) q.1

pub returns-in-None : goal.returns-in-None
returns-in-None c =
    let a = c.args in
    let f = c.requires in
    let good : any_bad (take a.items.ramp a.roll.now) (take a.items.ramp a.acceleration.now) ≡ false = looked_good _ _ (sym c.look_over.ensures ∙ c.in_default.is) in
    let q = rw (timed a.items.ramp a.roll.now (omega (arith, f.few)), timed a.items.ramp a.acceleration.now (omega (arith, f.few, f.equal)), c.in-None.is) at c.list_timed-settled.ensures in
    let w : any_bad a.roll.now a.acceleration.now ≡ true = any_parts a.roll.now a.acceleration.now a.items.ramp ∙ rw (good, q.0) in
    rw (c.fault-in-None.ensures w, q.1) (lists_bad _ _ _ _ f w)
