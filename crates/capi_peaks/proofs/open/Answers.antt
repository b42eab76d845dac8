-- A step and a ramp in range are taken.
use Rattle.std.proofs.Common.{sym, ◌∙◌}
use Rattle.capi_peaks.proofs.Fits.{started_there}
use Rattle.capi_peaks.specs.Told.{opened_at}
use Rattle.capi_peaks.proofs.open.Goals as goal

pub returns : goal.returns
unfolding opened_at
returns c =
    let e = sym c.both.ensures ∙ c.if-not-both.false in
    rw (e, sym c.both-2.ensures ∙ c.if-not-both-2.false) (c.survey.ensures ∙ started_there c.args.step e)
