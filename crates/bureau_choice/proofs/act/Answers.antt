-- `bureau_choice::act` meets its contract: of what is asked. Assumes nothing.
use Rattle.bureau_choice.specs.Steps.{acted}
use Rattle.bureau_choice.proofs.act.Goals as goal

pub returns : goal.returns
unfolding acted
returns c = c.acting.ensures
