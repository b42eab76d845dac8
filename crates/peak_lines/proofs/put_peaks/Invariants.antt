-- `peak_lines::put_peaks` meets its contract: each line takes itself off what is left, which is the lines of the peaks
-- that the iterator still has. Assumes nothing.
use Rattle.text.proofs.Parts.{Left}
use Rattle.peak_lines.specs.Lines.{peak_lines}
use Rattle.peak_lines.proofs.put_peaks.Given as goal

abbrev pub invariant-loop-size : goal.invariant-loop-size
invariant-loop-size l =
    Left l.initial.out l.from (peak_lines l.file l.sizes l.times)
    (peak_lines l.file l.size-iterator.a.rest.now l.size-iterator.b.rest.now) l.out l.at
