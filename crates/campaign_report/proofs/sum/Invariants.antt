-- `campaign_report::sum` meets its contract: the invariant is `Summed`, that what was added up and what is left are
-- the whole. Assumes nothing.
use Prim.Native.Nat.{◌+◌, ◌-◌, ◌≤◌}
use mathlib.Core.Path.{◌≡◌}
use lib.ListN.{drop, take}
use Rattle.campaign_condition.specs.Answers.{broken_from}
use Rattle.campaign_report.proofs.Sums.{Summed}
use Rattle.campaign_report.proofs.sum.Given as goal

abbrev pub invariant-loop-i : goal.invariant-loop-i
invariant-loop-i l = (l.i ≤ l.number)
    × (broken_from (l.i + 1) (drop l.i (take l.number l.campaigns)) ≡ 0)
    × Summed (take l.number l.campaigns) (drop l.i (take l.number l.campaigns)) l.i l.records l.failures l.exposure l.billed
