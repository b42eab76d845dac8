-- `campaign_report::lines_length` meets its contract: what was added up and what is left are the whole. Assumes
-- nothing.
use Prim.Native.Nat.{◌+◌, ◌*◌, ◌-◌, ◌≤◌}
use mathlib.Core.Path.{◌≡◌}
use lib.ListN.{drop, length, take}
use Rattle.campaign_condition.specs.Answers.{broken_from}
use Rattle.campaign_report.specs.Report.{lines_from}
use Rattle.campaign_report.proofs.lines_length.Given as goal

abbrev pub invariant-loop-i : goal.invariant-loop-i
invariant-loop-i l = (l.i ≤ l.number)
    × (broken_from (l.i + 1) (drop l.i (take l.number l.campaigns)) ≡ 0)
    × (l.total + length (lines_from (l.i + 1) (drop l.i (take l.number l.campaigns))) ≡ length (lines_from 1 (take l.number l.campaigns)))
    × (l.total ≤ 107 * l.i)
