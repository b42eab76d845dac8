-- `record_list::fault` meets its contract: the look names the bad sample, where there is one. Assumes nothing.
use mathlib.Core.Path.{sym, ap, ◌∙◌}
use Rattle.truth.proofs.Laws.{true≢false}
use Rattle.truth.proofs.Answers.{handed_on}
use Rattle.sample_channels.proofs.Range.{looked_bad, looked_good, equally_long}
use Rattle.record_list.proofs.fault.Goals as goal
use Rattle.std.specs.Prelude.{Err}

pub returns-in_err-look_over : goal.returns-in_err-look_over
returns-in_err-look_over c h =
    let b = looked_bad _ _ _ (sym c.look_over.ensures ∙ c.in_err-look_over.was) in
    handed_on _ c.from_residual.ensures ∙ ap Err (sym b.1 ∙ equally_long _ _ c.requires h)

pub returns : goal.returns
returns c h = absurd (true≢false (sym h ∙ looked_good _ _ (sym c.look_over.ensures ∙ c.in_ok-look_over.was)))
