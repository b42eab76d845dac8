-- `reach_files::Taken::figures` meets its contract: k is a place of the list. Assumes nothing.
use mathlib.Core.Path.{◌∙◌}
use lib.ListN.{length}
use Rattle.peak_reach.proofs.Order.{hill_within_lem}
use Rattle.reach_files.proofs.Taken.figures.Goals as goal

pub returns : goal.returns
returns c =
    let a = c.args.self in
    let y = c.wide-y.ensures in
    let sum = c.hill_sum-sum.ensures ∙ hill_within_lem a.ys.now a.job.tail c.requires in
    let n = c.above-above.ensures in
    λ i. record {
      files = a.files;
      peaks = length a.ys.now;
      samples = a.samples;
      tail = a.job.tail;
      last = y i;
      sum = sum i;
      above = n i;
      times = c.args.t;
      letter = c.args.l;
    }
