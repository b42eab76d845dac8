-- `record_list::list` meets its contract: a refusal is that of the tests, and what passes them fits. Assumes nothing.
use mathlib.Core.Path.{sym, ◌∙◌}
use Rattle.truth.proofs.Answers.{handed_on}
use Rattle.record_whole.proofs.Judged.{fitting, refused_tested}
use Rattle.record_list.proofs.Answered.{lists_refused}
use Rattle.record_list.proofs.list.Goals as goal

pub returns-in_err-judge : goal.returns-in_err-judge
returns-in_err-judge c =
    rw (handed_on _ c.from_residual.ensures)
    (lists_refused _ _ _ _ _ (refused_tested _ _ _ _ (sym c.judge.ensures ∙ c.in_err-judge.was)))

pub list_fitting-requires : goal.list_fitting-requires
list_fitting-requires c = fitting _ _ _ (sym c.judge.ensures ∙ c.in_ok-judge.was)
