use Prim.Native.Nat.{◌<◌}
use mathlib.Core.Path.{◌≡◌, sym, ap, ◌∙◌}
use native.Mathlib.Omega.{arith}
use lib.ListN.{length}
use Rattle.sheet_reply.proofs.Few.{refused_few}
use Rattle.sheet_text.specs.declared.LineFound.TheVariants.{Taken}
use Rattle.sheet_text.specs.Cut.{found}
use Rattle.sheet_text.specs.Sheet.{ended}
use Rattle.sheet_text.proofs.Along.{along_last}
use Rattle.sheet_text.proofs.Put.{none_written}
use Rattle.sheet_text.proofs.Running.{running_start, running_next, running_end, few_so_far, line_few, last_few, last_left}
use Rattle.sheet_text.proofs.Turns.{Took, found_taken, found_waits, found_bad}
use Rattle.sheet_text.proofs.pass.Goals as goal
use Rattle.sheet_text.proofs.pass.Goals.{After-find, In-Taken, In-loop-at}

inside : (c : In-loop-at) → c.loop-at.at < length c.args.text.now
inside c = c.loop-at-test.true

inside₂ : (c : In-Taken) → c.loop-at.at < length c.args.text.now
inside₂ c = c.loop-at-test.true

-- what was found at the loop's place
found-is : (c : After-find) → found c.args.more c.args.text.now c.loop-at.at c.loop-at.sheet ≡ c.find.result
found-is c = sym c.find.ensures

found-is₂ : (c : In-Taken) → found c.args.more c.args.text.now c.loop-at.at c.loop-at.sheet ≡ c.find.result
found-is₂ c = sym c.find.ensures

taken : (c : In-Taken) → found c.args.more c.args.text.now c.loop-at.at c.loop-at.sheet ≡ Taken c.in-Taken.t c.in-Taken.next
taken c = found-is₂ c ∙ c.in-Taken.is

took : (c : In-Taken) → Took c.args.more c.args.text.now c.loop-at.at c.loop-at.sheet c.in-Taken.t c.in-Taken.next
took c =
    found_taken _ _ _ _ (inside₂ c) c.loop-at.invariant.along.sound (taken c)

pub loop-at-init : goal.loop-at-init
loop-at-init c =
    running_start c.args.more c.args.text.now c.args.s c.args.out.now c.requires

pub put_sheet-put-requires : goal.put_sheet-put-requires
put_sheet-put-requires c =
    line_few c.loop-at.invariant (inside (goal.at.put_sheet-put-requires c).In-loop-at) (taken (goal.at.put_sheet-put-requires c).In-Taken)

pub loop-at-smaller : goal.loop-at-smaller
loop-at-smaller c =
    let t = took (goal.at.loop-at-smaller c).In-Taken in omega (arith, t.further, t.within)

pub loop-at-preserved : goal.loop-at-preserved
loop-at-preserved c =
    running_next c.loop-at.invariant (inside (goal.at.loop-at-preserved c).In-loop-at) (taken (goal.at.loop-at-preserved c).In-Taken) (c.put_sheet-put.ensures.value, c.put_sheet-put.ensures.out_after)

pub returns-in-Waits : goal.returns-in-Waits
returns-in-Waits c =
    let w = found_waits _ _ _ _ (inside (goal.at.returns-in-Waits c).In-loop-at) (found-is (goal.at.returns-in-Waits c).After-find ∙ c.in-Waits.is) in
    running_end c.loop-at.invariant w.0 (omega arith) (w.1, w.2) (none_written _ _)

pub put_end-end-requires : goal.put_end-end-requires
put_end-end-requires c =
    let b = found_bad _ _ _ _ (inside (goal.at.put_end-end-requires c).In-loop-at) c.loop-at.invariant.along.sound (found-is (goal.at.put_end-end-requires c).After-find ∙ c.in-Bad.is) in
    omega (arith, few_so_far c.loop-at.invariant, refused_few c.in-Bad.line c.in-Bad.column c.in-Bad.r b.1 b.2)

pub returns-in-Bad : goal.returns-in-Bad
returns-in-Bad c =
    let b = found_bad _ _ _ _ (inside (goal.at.returns-in-Bad c).In-loop-at) c.loop-at.invariant.along.sound (found-is (goal.at.returns-in-Bad c).After-find ∙ c.in-Bad.is) in
    running_end c.loop-at.invariant b.0 (refused_few _ _ _ b.1 b.2) (omega arith, omega arith) (c.put_end-end.ensures.value, c.put_end-end.ensures.out_after)

pub put_end-end-requires-2 : goal.put_end-end-requires-2
put_end-end-requires-2 c =
    rw c.last-came.ensures (omega (arith, few_so_far c.loop-at.invariant, last_few c.args.more c.loop-at.sheet))

pub returns : goal.returns
returns c =
    let none = last_left c.args.more c.loop-at.sheet in
    running_end c.loop-at.invariant (along_last c.loop-at.invariant.along (omega arith) ∙ ap ended (sym c.last-came.ensures))
    (rw c.last-came.ensures (last_few c.args.more c.loop-at.sheet)) (rw c.last-came.ensures (omega arith, omega arith)) (c.put_end-end-2.ensures.value, c.put_end-end-2.ensures.out_after)
