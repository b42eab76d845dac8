-- By cases on the sign.
use mir.Facts.{to_z-of_z}
use Rattle.capi.proofs.Codes.{code_negative, code_other}
use Rattle.capi.proofs.code_of.Goals as goal

pub returns-then-x-lt0 : goal.returns-then-x-lt0
returns-then-x-lt0 c =
    let e = to_z-of_z c.ranges.x in
    rw (c.magnitude-m.ensures, e) (code_negative c.args.x (rw e at c.if-x-lt0.true)).1

pub returns-else-x-lt0 : goal.returns-else-x-lt0
returns-else-x-lt0 c =
    let e = to_z-of_z c.ranges.x in
    rw (c.magnitude-m.ensures, e) (code_other c.args.x (rw e at c.if-x-lt0.false))
