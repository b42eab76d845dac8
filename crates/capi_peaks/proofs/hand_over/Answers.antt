-- A refusal leaves both slices; else what comes after the ramp is handed on.
use Rattle.std.proofs.Common.{refl, subst, sym, List, ◌∙◌}
use borrow.Author.Tests.{le-ltb, lt-ltb}
use lib.IntN.{ℤ}
use Rattle.peak_stream.specs.Hands.{HandsOver, noted}
use Rattle.capi_peaks.proofs.Fits.{timed_is}
use Rattle.capi_peaks.specs.Told.{handed_in}
use Rattle.capi_peaks.proofs.hand_over.Goals as goal

pub returns-then-not-ready : goal.returns-then-not-ready
unfolding handed_in noted
returns-then-not-ready c = (rw (sym c.ready.ensures ∙ c.if-not-ready.true) refl, refl, refl)

pub returns-then-bad-samples : goal.returns-then-bad-samples
unfolding handed_in noted
returns-then-bad-samples c =
    let y = sym c.ready.ensures ∙ c.if-not-ready.false in
    (rw (y, ← c.first_bad-bad.ensures, lt-ltb _ _ c.if-bad-samples.true) refl, refl, refl)

pub returns : goal.returns
unfolding handed_in
returns c =
    let a = c.args in
    let o = c.hand_over in
    let y = sym c.ready.ensures ∙ c.if-not-ready.false in
    let e =
    subst (λ (l : List ℤ). HandsOver a.h l a.sizes.now a.times.now o.result o.new.sizes o.new.times)
    (timed_is a.left a.samples.now c.ramp_end-from.result c.ramp_end-from.ensures)
    o.ensures in
    (rw (y, ← c.first_bad-bad.ensures, le-ltb _ _ c.if-bad-samples.false) e.answers, e.sizes_left, e.times_left)
