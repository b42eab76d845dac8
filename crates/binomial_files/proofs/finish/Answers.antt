-- `binomial_files::finish` meets its contract: there is room for any line or not. Assumes nothing.
use Rattle.desk_line.proofs.Put.{finished, without}
use Rattle.binomial_files.specs.Adding.{added_said}
use Rattle.binomial_files.proofs.finish.Goals as goal

pub returns-then-out-lt-LONGEST_LINE : goal.returns-then-out-lt-LONGEST_LINE
returns-then-out-lt-LONGEST_LINE c =
    let whole = without (added_said c.args.a) c.args.out.now c.if-out-lt-LONGEST_LINE.true in record { value = whole.0; out_after = whole.1 }

pub returns : goal.returns
returns c =
    let whole = finished (added_said c.args.a) c.if-out-lt-LONGEST_LINE.false c.put_added.ensures in record { value = whole.0; out_after = whole.1 }
