-- A first pass that took two samples has a step in range.
use Rattle.std.proofs.Common.{sym, ◌∙◌}
use borrow.Author.Tests.{le-ltb}
use Rattle.capi_peaks.proofs.Fits.{begun_there}
use Rattle.capi_peaks.specs.Told.{begun_from}
use Rattle.capi_peaks.proofs.begin.Goals as goal

pub returns : goal.returns
unfolding begun_from
returns c =
    let k = sym c.sound.ensures ∙ c.if-not-sound.false in
    let t = sym c.both.ensures ∙ c.if-not-both.false in
    let n = c.if-r-lt2.false in
    rw (k, t, le-ltb _ 2 n) (c.begin.ensures ∙ begun_there c.args.s _ k t n)
