-- `comma_peaks::count` meets its contract: the timed part is taken, or the pass was never handed out. Assumes
-- nothing.
use Rattle.std.proofs.Common.{sym, ap, ◌∙◌, length-take-le, rules}
use Rattle.comma_peaks.proofs.Parts.{part_is, part_long, counted}
use Rattle.comma_peaks.proofs.count.Goals as goal

pub returns : goal.returns
returns c =
    let a = c.args in
    c.surveying_in.ensures
    ∙ counted a.ramp a.lines a.s a.samples.now _ c.take.result
    (part_is a.ramp a.lines a.s.reading a.samples.now c.ramp_end-from.result c.timed_end-n.result c.ramp_end-from.ensures c.timed_end-n.ensures) c.take.ensures
