-- Too many rows are refused.
use Rattle.std.proofs.Common.{length}
use Rattle.capi_condition.specs.Told.{campaigns_of, judge_told}
use Rattle.capi_condition.proofs.Rows.{many_refused}
use Rattle.capi_condition.proofs.chim_condition_judge.Goals as goal

pub returns-then-campaigns-gt-MOST_SITUATIONS : goal.returns-then-campaigns-gt-MOST_SITUATIONS
unfolding judge_told
returns-then-campaigns-gt-MOST_SITUATIONS c =
    let rows = c.args.campaigns.now in
    rw (
      many_refused (length rows) (campaigns_of rows) c.if-campaigns-gt-MOST_SITUATIONS.true,
      c.refuse.ensures.0,
      c.refuse.ensures.1,
    )
