use mathlib.Core.Path.{◌≡◌, ap, ◌∙◌}
use mathlib.Core.Bool.{Bool}
use Prim.Native.Nat.{ℕ}
use native.Mathlib.Omega.{arith}
use lib.ListN.{drop, set}
use mir.Facts.{to_z-of_z}
use mir.Syntax.{w32}
use mir.Val.{SFits}
use borrow.Author.Rules.{rules}
use Rattle.degrees.specs.Degrees.{signed}
use Rattle.sheet_records.proofs.Second.{Due, due, few, put-done, put_on, wide_room}
use Rattle.sheet_records.proofs.put_all.Goals as goal
use Rattle.sheet_records.proofs.put_all.Goals.{After-record_at-r, In-loop-at}

-- the record that is due
module _ (c : In-loop-at) where
  abbrev Next : Type 0
  Next = Due c.loop-at.invariant

  here : Next
  here = due c.loop-at.invariant c.loop-at-test.true

module _ (c : After-record_at-r) where
  abbrev Next₂ : Type 0
  Next₂ = Due c.loop-at.invariant

  here₂ : Next₂
  here₂ = due c.loop-at.invariant c.loop-at-test.true

-- what was read of it
module _ (c : After-record_at-r) where
  failed : c.record_at-r.result.failed ≡ (here₂ c).failed
  failed = c.record_at-r.ensures.failed_value ∙ (here₂ c).stands.flag

  exposure : c.record_at-r.result.exposure ≡ (here₂ c).exposure
  exposure = c.record_at-r.ensures.exposure_value ∙ (here₂ c).stands.exposure

pub record_at-r-requires : goal.record_at-r-requires
record_at-r-requires c = ((here c).stands.inside, omega (arith, (here c).stands.within))

pub number_for-requires : goal.number_for-requires
number_for-requires c = omega (arith, exposure c, (here₂ c).short)

pub overflow_mul-limit : goal.overflow_mul-limit
overflow_mul-limit c =
    let p = c.loop-at.invariant in omega (arith, few p, wide_room p.wide)

pub loop-at-preserved : goal.loop-at-preserved
loop-at-preserved c =
    let r = (goal.at.loop-at-preserved c).After-record_at-r in
    let l = c.loop-at in
    let d = here₂ r in
    let f : SFits w32 c.number_for.result = search rules in
    let x : c.number_for.result ≡ signed d.failed d.exposure = c.number_for.ensures ∙
    ap (λ (b : Bool). signed b c.record_at-r.result.exposure) (failed r) ∙ ap (signed d.failed)
    (exposure r) in
    let stored = c.put.ensures ∙ ap (set l.places l.count) (to_z-of_z f ∙ x) in
    rw (c.pick-limit.ensures, c.pick-width.ensures) (put_on l.invariant d stored
    (ap (λ (n : ℕ). drop n c.args.text.now) c.record_at-r.ensures.next_value ∙
    d.stands.after))

pub returns : goal.returns
returns c = put-done c.loop-at.invariant c.loop-at-test.false
