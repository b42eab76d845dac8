-- `sheet_pairs::refuse_of` meets its contract: there is room for any line or not. Assumes nothing.
use Rattle.desk_line.proofs.Put.{finished, without}
use Rattle.sheet_pairs.specs.Files.{refused_record_of}
use Rattle.sheet_pairs.proofs.refuse_of.Goals as goal

pub returns-then-out-lt-LONGEST_LINE : goal.returns-then-out-lt-LONGEST_LINE
returns-then-out-lt-LONGEST_LINE c =
    let a = c.args in
    let whole = without (refused_record_of a.number a.line a.r a.channel) a.out.now c.if-out-lt-LONGEST_LINE.true in record { value = whole.0; out_after = whole.1 }

pub returns : goal.returns
returns c =
    let a = c.args in
    let whole = finished (refused_record_of a.number a.line a.r a.channel) c.if-out-lt-LONGEST_LINE.false c.put_channel.ensures in record { value = whole.0; out_after = whole.1 }
