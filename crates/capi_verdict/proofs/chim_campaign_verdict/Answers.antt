-- The answer of the campaign is the only one that its promise allows, and each arm says which it is.
use Rattle.campaign_verdict.proofs.Only.{only}
use Rattle.capi_verdict.specs.Told.{judged_told}
use Rattle.capi_verdict.proofs.chim_campaign_verdict.Goals as goal

pub returns-in-Ok : goal.returns-in-Ok
unfolding judged_told
returns-in-Ok c =
    rw (← c.campaign_of.ensures, ← only _ c.judge-a.result c.judge-a.ensures, c.in-Ok.is, c.tell.ensures)

pub returns-in-Err : goal.returns-in-Err
unfolding judged_told
returns-in-Err c =
    rw (
      ← c.campaign_of.ensures,
      ← only _ c.judge-a.result c.judge-a.ensures,
      c.in-Err.is,
      c.refuse.ensures.0,
      c.refuse.ensures.1,
    )
