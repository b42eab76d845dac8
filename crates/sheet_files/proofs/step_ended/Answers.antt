-- `sheet_files::step_ended` meets its contract: a result that was given has an exposure in range. Assumes nothing.
use mathlib.Core.Path.{sym, ◌∙◌}
use Rattle.record_end.proofs.Given.{given_bounds}
use Rattle.sheet_files.proofs.step_ended.Goals as goal

pub step_taken-requires : goal.step_taken-requires
step_taken-requires c =
    (given_bounds c.args.r _ (sym c.end.ensures ∙ c.in-Ok.is)).1
