-- `record_list::write` meets its contract: the times are those kept aside, or those that a second pass notes. Assumes
-- nothing.
use native.Mathlib.Nat.{zero-add}
use native.Mathlib.Omega.{arith}
use Rattle.record_list.proofs.Answered.{writes_room, writes_times}
use Rattle.record_list.proofs.Heard.{writes_passed}
use Rattle.record_list.proofs.write.Goals as goal

pub returns-then-times-count : goal.returns-then-times-count
returns-then-times-count c = let n = c.requires.3 in rw n (writes_room _ _ (omega arith))

pub returns-then-count-kept : goal.returns-then-count-kept
returns-then-count-kept c =
    let p = c.requires in
    let n = p.3 in
    rw (c.copy.ensures, zero-add, p.4 (omega arith), n) (writes_times _ _ (omega arith))

pub returns : goal.returns
returns c =
    let g = c.args in
    rw c.requires.3 (writes_passed g.items.step g.items.levels g.items.decorrelation g.roll.now g.acceleration.now g.times.now _ c.pass.result c.requires.2 (omega arith) c.pass.ensures)
