-- `peak_files::judge` meets its contract: without room nothing is written, and with it what the file comes to. Assumes nothing.
use mathlib.Core.Path.{ap}
use Rattle.desk_line.proofs.Put.{puts_same, finished, without}
use Rattle.peak_files.specs.Passing.{judged}
use Rattle.peak_files.specs.Said.{nothing, judged_said}
use Rattle.peak_files.proofs.judge.Goals as goal

pub returns-then-out-lt-LONGEST_LINE : goal.returns-then-out-lt-LONGEST_LINE
returns-then-out-lt-LONGEST_LINE c =
    let whole = without (judged c.args.p) c.args.out.now c.if-out-lt-LONGEST_LINE.true in record { value = whole.0; out_after = whole.1 }

pub returns : goal.returns
unfolding judged
returns c =
    let whole = finished (judged c.args.p) c.if-out-lt-LONGEST_LINE.false (puts_same (ap (judged_said c.args.p.file nothing) c.judge.ensures) c.put_judged.ensures) in record { value = whole.0; out_after = whole.1 }
