-- `record_feed::fault` meets its contract: the look says whether a sample is bad. Assumes nothing.
use mathlib.Core.Path.{sym, ap, ◌∙◌}
use Rattle.truth.proofs.Answers.{handed_on}
use Rattle.sample_channels.proofs.Range.{looked_bad, looked_good, equally_long}
use Rattle.record_feed.proofs.fault.Goals as goal
use Rattle.std.specs.Prelude.{Err}

pub returns-in_err-look_over : goal.returns-in_err-look_over
returns-in_err-look_over c =
    let b = looked_bad _ _ _ (sym c.look_over.ensures ∙ c.in_err-look_over.was) in
    rw b.0 (handed_on _ c.from_residual.ensures ∙ ap Err (sym b.1 ∙ equally_long _ _ c.requires b.0))

pub returns : goal.returns
returns c =
    rw (looked_good _ _ (sym c.look_over.ensures ∙ c.in_ok-look_over.was))
