-- An array of another length is refused.
use borrow.Author.Tests.{ne_eqb}
use Rattle.capi.specs.Told.{campaign_kept}
use Rattle.capi_sheet.proofs.chim_sheet_read.Goals as goal

pub returns-then-state-ne-CAMPAIGN_NUMBERS-clause-state_after :
    goal.returns-then-state-ne-CAMPAIGN_NUMBERS-clause-state_after
unfolding campaign_kept
returns-then-state-ne-CAMPAIGN_NUMBERS-clause-state_after c =
    rw (ne_eqb _ _ c.if-state-ne-CAMPAIGN_NUMBERS.true, c.refuse.ensures.0, c.refuse.ensures.1)
