-- `bureau_choice::work` meets its contract: by the four kinds of work. Assumes nothing.
use Rattle.campaign_verdict.proofs.Only.{only}
use Rattle.bureau_choice.proofs.work.Goals as goal

pub returns-in-Judge : goal.returns-in-Judge
returns-in-Judge c =
    rw (c.in-Judge.is, ← only _ c.judge.result c.judge.ensures, ← c.verdict_answer.ensures) c.read.ensures
