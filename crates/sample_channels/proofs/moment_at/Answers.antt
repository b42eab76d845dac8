-- `sample_channels::moment_at` meets its contract: the two samples side by side, if both are there. Assumes nothing.
use mathlib.Core.Path.{sym}
use native.Mathlib.Omega.{arith}
use borrow.Author.Rules.{rules}
use lib.IntN.{pos}
use lib.ListN.{get_or, get_or-eq_default}
use mir.Facts.{to_z-of_z}
use mir.Val.{SFits}
use mir.Syntax.{w32}
use Rattle.sample_channels.specs.Channels.{moments}
use Rattle.sample_channels.proofs.Moments.{moments_at, moments_shorter}
use Rattle.sample_channels.proofs.moment_at.Goals as goal

pub returns-then-i-acceleration : goal.returns-then-i-acceleration
returns-then-i-acceleration c =
    let a = c.args in
    let roll : SFits w32 (get_or a.roll.now a.i (pos 0)) = search rules in
    let acceleration : SFits w32 (get_or a.acceleration.now a.i (pos 0)) = search rules in
    rw (to_z-of_z roll, to_z-of_z acceleration) (sym (moments_at a.roll.now a.acceleration.now a.i (omega arith) (omega arith)))

pub returns-else-i-roll : goal.returns-else-i-roll
returns-else-i-roll c =
    let a = c.args in
    let p = moments a.roll.now a.acceleration.now in
    sym (get_or-eq_default p _ {n = a.i} (omega (arith, moments_shorter a.roll.now a.acceleration.now)))
