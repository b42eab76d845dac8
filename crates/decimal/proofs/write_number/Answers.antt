use native.Mathlib.Omega.{arith}
use mathlib.Core.Path.{sym, ◌∙◌}
use Prim.Native.Nat.{◌+◌}
use lib.ListN.{length}
use borrow.Author.Tests.{leb-true, leb-false}
use Rattle.text.proofs.Laws.{wrote_laid, wrote_short}
use Rattle.decimal.specs.Decimal.{digits_of}
use Rattle.decimal.proofs.Rest.{none_put, one_put, all_put}
use Rattle.decimal.proofs.write_number.Goals as goal

pub returns-then-not-has_room : goal.returns-then-not-has_room
returns-then-not-has_room c =
    let a = c.args in
    let n = a.at + c.digits-count.result in
    let no_room = leb-false n (length a.out.now) (sym c.has_room.ensures ∙ c.if-not-has_room.true) in
    let whole = wrote_short a.out.now a.at (digits_of a.v) (omega arith) in
    record { value = whole.0; out_after = whole.1 }

pub loop-i-init : goal.loop-i-init
loop-i-init c =
    let a = c.args in
    let n = a.at + c.digits-count.result in
    let room = leb-true n (length a.out.now) (sym c.has_room.ensures ∙ c.if-not-has_room.false) in
    none_put a.out.now a.at a.v n (omega arith) (omega arith)

pub loop-i-preserved : goal.loop-i-preserved
loop-i-preserved c = one_put c.last_digit.result c.loop-i.invariant (omega arith) c.last_digit.ensures

pub returns : goal.returns
returns c =
    let a = c.args in
    let p = c.loop-i.invariant in
    let whole = wrote_laid a.out.now a.at (digits_of a.v) c.loop-i.out (a.at + c.digits-count.result) p.room (all_put p (omega arith)) (omega arith) in
    record { value = whole.0; out_after = whole.1 }
