use Prim.Native.Nat.{◌-◌, ◌≤◌}
use mathlib.Core.Path.{ap, ◌∙◌}
use mathlib.Core.Bool.{◌&&◌, ◌||◌}
use native.Mathlib.Omega.{arith}
use lib.ListN.{length}
use borrow.Author.Rules.{rules}
use Rattle.campaign_state.specs.State.{empty}
use Rattle.campaign_condition.specs.declared.Told.{Told}
use Rattle.campaign_condition.proofs.Front.{front_end, front_next}
use Rattle.campaign_condition.proofs.Looking.{ended, on}
use Rattle.campaign_condition.proofs.look.Goals as goal

pub loop-i-preserved : goal.loop-i-preserved
loop-i-preserved c =
    let a = c.args in
    let room : a.number ≤ length a.campaigns = search rules in
    let next = on _ _ (front_next a.campaigns a.number room c.loop-i.i (empty 0) c.loop-i-test.true) c.loop-i.invariant.1 in
    let says = c.said-v.ensures in
    let one = c.either-one.ensures ∙ ap (λ (v : Told). c.loop-i.one || v.rejected) says in
    let all = c.both-all.ensures ∙ ap (λ (v : Told). c.loop-i.all && v.accepted) says in
    (omega arith, rw (c.lowest-broken.ensures, one, all) next)

pub returns : goal.returns
returns c =
    let l = c.before in
    let a = l.args in
    let room : a.number ≤ length a.campaigns = search rules in
    ended (front_end a.campaigns a.number room l.loop-i.i c.loop-i-test.false) l.loop-i.invariant.1
