-- `peak_files::take` meets its contract: what is over, no room, or its lines. Assumes nothing.
use Rattle.peak_files.proofs.Laws.{calls_over, calls_room}
use Rattle.peak_files.proofs.take.Goals as goal

pub returns-then-p : goal.returns-then-p
returns-then-p c =
    let a = c.args in calls_over a.p a.text.now a.more a.out.now c.if-p.true

pub returns-then-out-lt-ROOM : goal.returns-then-out-lt-ROOM
returns-then-out-lt-ROOM c =
    let a = c.args in calls_room a.p a.text.now a.more a.out.now c.if-p.false c.if-out-lt-ROOM.true
