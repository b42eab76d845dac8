-- `peak_files::put_judged` meets its contract: the refused line, or nothing yet. Assumes nothing.
use mathlib.Core.Path.{refl, sym, ap}
use Rattle.desk_line.specs.Said.{refused}
use Rattle.desk_line.proofs.Put.{puts_same, with_room}
use Rattle.peak_files.proofs.Put.{puts_none}
use Rattle.peak_files.specs.Said.{places_of, nothing, judged_said}
use Rattle.peak_files.proofs.put_judged.Goals as goal

pub returns-in-Err : goal.returns-in-Err
returns-in-Err c =
    puts_same (sym (ap (judged_said c.args.file nothing) c.in-Err.is))
    (with_room (refused (places_of c.args.file c.in-Err.line) c.in-Err.r) c.requires c.refuse_at.ensures.value c.refuse_at.ensures.out_after)

pub returns-in-Ok : goal.returns-in-Ok
returns-in-Ok c =
    puts_same (sym (ap (judged_said c.args.file nothing) c.in-Ok.is)) (puts_none c.args.out.now nothing refl)
