use mathlib.Core.Path.{ap, ◌∙◌}
use mathlib.Core.Bool.{Bool, cond}
use Prim.Native.Nat.{◌+◌, ◌-◌}
use lib.IntN.{pos}
use lib.ListN.{get_or}
use mir.Facts.{to_z-of_z}
use mir.Syntax.{w32}
use mir.Val.{SFits}
use borrow.Author.Rules.{rules}
use Rattle.sheet_records.proofs.Puts.{failed_below}
use Rattle.sheet_after.proofs.Failing.{so_next, so_end}
use Rattle.sheet_after.proofs.failures.Goals as goal

pub loop-record-preserved : goal.loop-record-preserved
loop-record-preserved c =
    let x = get_or c.args.records.now c.loop-record.record-index (pos 0) in
    let f : SFits w32 x = search rules in
    let is = rw (to_z-of_z f) at c.pick-n.ensures in
    let n = c.loop-record.n in
    rw (is ∙ ap (λ (b : Bool). cond b (n + 1) n) (failed_below x)) (so_next _ _ _ c.loop-record.invariant c.loop-record-test.true)

pub returns : goal.returns
returns c =
    so_end _ _ _ c.loop-record.invariant c.loop-record-test.false
