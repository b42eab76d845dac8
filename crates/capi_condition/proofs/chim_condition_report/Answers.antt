-- Too many rows are refused.
use Rattle.std.proofs.Common.{length}
use Rattle.text.specs.Write.{laid_by}
use Rattle.capi.specs.Told.{write_told}
use Rattle.capi_condition.specs.Told.{campaigns_of}
use Rattle.capi_condition.proofs.Rows.{many_declined}
use Rattle.capi_condition.proofs.chim_condition_report.Goals as goal

pub returns-then-campaigns-gt-MOST_SITUATIONS : goal.returns-then-campaigns-gt-MOST_SITUATIONS
unfolding laid_by write_told
returns-then-campaigns-gt-MOST_SITUATIONS c =
    let rows = c.args.campaigns.now in
    rw (
      many_declined (length rows) (campaigns_of rows) c.if-campaigns-gt-MOST_SITUATIONS.true c.args.out.now,
      c.refuse.ensures.0,
      c.refuse.ensures.1,
    )
