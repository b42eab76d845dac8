-- `reach_files::put_last` meets its contract, by its two cases. Assumes nothing.
use mathlib.Core.Path.{sym, ap, ◌∙◌}
use lib.ListN.{length}
use Rattle.reach_files.specs.Gathering.{counted_to, put_from, last_one}
use Rattle.reach_files.proofs.Keeping.{counted_none, put_none}
use Rattle.reach_files.proofs.put_last.Goals as goal
use Rattle.peak_groups.specs.declared.Peak.{Peak}
use Rattle.std.specs.Prelude.{Option}

pub returns-in-None : goal.returns-in-None
returns-in-None c =
    let a = c.args in
    let e = sym c.in-None.is in
    record {
      value = counted_none a.at ∙ ap (λ (x : Option Peak). counted_to a.at (length (last_one x))) e;
      list_after = put_none a.at a.list.now ∙ ap (λ (x : Option Peak). put_from a.at (last_one x) a.list.now) e;
    }
