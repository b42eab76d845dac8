-- `degrees::put_sign` meets its contract: below zero there is a minus, else nothing. Assumes nothing.
use mir.Facts.{to_z-of_z}
use Rattle.text.proofs.Parts.{wrote_none}
use Rattle.degrees.proofs.Signs.{sign_other}
use Rattle.degrees.proofs.put_sign.Goals as goal

pub returns : goal.returns
returns c =
    rw (sign_other c.args.x (rw (to_z-of_z c.ranges.x) at c.if-x-lt0.false))
    (let whole = wrote_none c.args.out.now c.args.at c.requires in record { value = whole.0; out_after = whole.1 })
