-- The bytes that a reading left are the last of those read, and less than a line (`unread`).
use Rattle.std.proofs.Common.{take, true, arith, length-take-le}
use Rattle.prog_condition.proofs.Unread.{unread}
use Rattle.prog_condition.proofs.work.Goals as goal

pub overflow_sub-end : goal.overflow_sub-end
overflow_sub-end c =
    let few = rw (← c.read-reading.ensures, c.in-Waiting.is) at
    (unread true (take c.args.end c.args.text.now) c.args.s) in
    omega (arith, few.0, length-take-le c.args.end c.args.text.now c.requires)

pub returns : goal.returns
returns c =
    let few = rw (← c.read-reading.ensures, c.in-Waiting.is) at
    (unread true (take c.args.end c.args.text.now) c.args.s) in
    (few.1, omega arith)
