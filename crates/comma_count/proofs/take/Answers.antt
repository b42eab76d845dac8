-- `comma_count::take` meets its contract: what is over, what stands nowhere, or where the right lines lead and what is
-- left after them. Assumes nothing.
use Prim.Native.Nat.{◌≤◌}
use mathlib.Core.Path.{◌≡◌, sym, subst, ◌∙◌}
use mathlib.Core.Bool.{true}
use native.Mathlib.Omega.{arith}
use lib.ListN.{length}
use borrow.Author.Rules.{rules}
use Rattle.truth.proofs.Laws.{said_no, said_yes}
use Rattle.comma_count.specs.Taking.{Leads, sound_follow, agrees}
use Rattle.comma_count.proofs.Piece.{sound_step, sound_lines, NearlyAll, used, taking_over, taking_broken, taking_on}
use Rattle.comma_count.proofs.Agreeing.{stands}
use Rattle.comma_count.proofs.take.Goals as goal
use Rattle.comma_count.proofs.take.Goals.{After-lines-reached, Else-not-agrees, Start}

well : (c : Else-not-agrees) → let a = c.args in agrees a.c.follow a.c.answer ≡ true
well c = (sym c.agrees.ensures ∙ c.if-not-agrees.false)

sound : (c : Else-not-agrees) → sound_follow c.args.c.follow ≡ true
sound c = let a = c.args in stands a.c.follow a.c.answer (well c)

short : (c : Start) → length c.args.text.now ≤ 9223372036854775807
short c = search rules

leads : (c : After-lines-reached) → let a = c.args in Leads a.c.follow a.c.answer a.text.now c.lines-reached.result.follow c.lines-reached.result.answer c.lines-reached.result.at
leads c = c.lines-reached.ensures

pub returns-then-c : goal.returns-then-c
returns-then-c c =
    let a = c.args in
    record { value = taking_over a.c a.text.now a.more c.if-c.true; used_in_bounds = (omega arith, omega arith) }

pub returns-then-not-agrees : goal.returns-then-not-agrees
returns-then-not-agrees c =
    let a = c.args in
    let broken = (sym c.agrees.ensures ∙ c.if-not-agrees.true) in
    record { value = rw c.stopped.ensures (taking_broken a.c a.text.now a.more c.if-c.false broken); used_in_bounds = (omega arith, omega arith) }

pub lines-reached-requires : goal.lines-reached-requires
lines-reached-requires c = sound_step c.args.c.follow (sound c)

pub rested-requires : goal.rested-requires
rested-requires c =
    omega (arith, (leads (goal.at.rested-requires c).After-lines-reached).few, sound_lines c.args.c.follow (sound (goal.at.rested-requires c).Else-not-agrees), short (goal.at.rested-requires c).Start)

pub returns : goal.returns
returns c =
    let l = (goal.at.returns c).After-lines-reached in
    let a = c.args in
    let is = c.rested.ensures in
    let rest = c.left.ensures.value in
    let all = used c.left.result _ a.text.now c.lines-reached.result.at a.more (leads l).within rest in
    record { value = is ∙ taking_on a.c a.text.now a.more c.if-c.false (well (goal.at.returns c).Else-not-agrees) (leads l) rest; used_in_bounds = subst (NearlyAll a.text.now) (sym is) all }
