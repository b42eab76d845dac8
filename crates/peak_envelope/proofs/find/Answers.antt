-- `peak_envelope::find` meets its contract: a refusal is that of the tests, and what passes them fits. Assumes nothing.
use mathlib.Core.Path.{sym, ◌∙◌}
use Rattle.truth.proofs.Answers.{handed_on}
use Rattle.record_whole.proofs.Judged.{fitting, refused_tested}
use Rattle.peak_envelope.proofs.Answered.{finds_refused}
use Rattle.peak_envelope.proofs.find.Goals as goal

pub returns-in_err-judge : goal.returns-in_err-judge
returns-in_err-judge c =
    rw (handed_on _ c.from_residual.ensures)
    (finds_refused _ _ _ _ _ _ _ (refused_tested _ _ _ _ (sym c.judge.ensures ∙ c.in_err-judge.was)))

pub find_fitting-requires : goal.find_fitting-requires
find_fitting-requires c = fitting _ _ _ (sym c.judge.ensures ∙ c.in_ok-judge.was)
