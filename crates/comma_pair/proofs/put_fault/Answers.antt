-- `comma_pair::put_fault` meets its contract, by its two cases. Assumes nothing.
use mathlib.Core.Path.{◌≡◌, sym, ap}
use Rattle.desk_line.proofs.Put.{puts_same, with_room}
use Rattle.comma_count.specs.Line.{refused_at}
use Rattle.comma_pair.specs.Taking.{said_end}
use borrow.Author.Rules.{rules}
use Rattle.comma_pair.proofs.put_fault.Goals as goal
use Rattle.std.specs.Prelude.{Err}

pub returns-in-Plain : goal.returns-in-Plain
returns-in-Plain c =
    puts_same (sym (ap (λ f. said_end (Err f)) c.in-Plain.is)) (with_room (refused_at 0 c.in-Plain.q) c.requires c.refuse.ensures.value c.refuse.ensures.out_after)
