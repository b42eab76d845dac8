-- `binomial_files::put_added` meets its contract, by its two cases. Assumes nothing.
use mathlib.Core.Path.{sym, ap}
use Rattle.desk_line.proofs.Put.{puts_same, with_room}
use Rattle.binomial_files.specs.Files.{refused_in}
use Rattle.binomial_files.specs.Adding.{added_said}
use Rattle.binomial_files.proofs.put_added.Goals as goal

pub returns-in-Err : goal.returns-in-Err
returns-in-Err c =
    puts_same (sym (ap added_said c.in-Err.is))
    (with_room (refused_in _ _ _) c.requires c.refuse_in.ensures.value c.refuse_in.ensures.out_after)
