-- `record_feed::advance` meets its contract: a quiet block moves only n and the last sample (`quiet_still`); another is
-- stepped. Assumes nothing.
use Prim.Native.Nat.{◌-◌}
use mathlib.Core.Path.{◌≡◌, sym, ap, ◌∙◌}
use native.Mathlib.Omega.{arith}
use lib.ListN.{length}
use Rattle.sample_channels.specs.Channels.{moments}
use Rattle.sample_channels.proofs.Moments.{moments_length}
use Rattle.record_step.specs.Step.{moved}
use Rattle.record_state.proofs.Relations.{kept_from}
use Rattle.record_state.proofs.Bounds.{small}
use Rattle.record_feed.proofs.Quiet.{quiet_still, still_run}
use Rattle.record_feed.proofs.advance.Goals as goal

pub moved-requires : goal.moved-requires
moved-requires c =
    omega (arith, c.requires.0.room, small (kept_from c.args.r c.requires.0.state))

pub returns : goal.returns
returns c =
    let r = c.args.r in
    let xs = c.args.roll.now in
    let ys = c.args.acceleration.now in
    let k : length (moments xs ys) ≡ length xs = moments_length xs ys c.requires.0.equal in
    let q = quiet_still r xs ys (sym c.requires.1 ∙ c.if-loud.false) in
    c.moved.ensures ∙ ap (moved r (length xs)) c.moment_at.ensures ∙ sym (rw k at (still_run r (moments xs ys) q (omega arith)))
