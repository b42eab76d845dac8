-- `campaign_report::put_lines` meets its contract: each line takes itself off what is left of them. Assumes nothing.
use Prim.Native.Nat.{◌+◌, ◌-◌, ◌≤◌}
use mathlib.Core.Path.{◌≡◌}
use lib.ListN.{drop, take}
use Rattle.text.proofs.Parts.{Left}
use Rattle.campaign_condition.specs.Answers.{broken_from}
use Rattle.campaign_report.specs.Report.{lines_from}
use Rattle.campaign_report.proofs.put_lines.Given as goal

abbrev pub invariant-loop-i : goal.invariant-loop-i
invariant-loop-i l = (l.i ≤ l.number)
    × (broken_from (l.i + 1) (drop l.i (take l.number l.campaigns)) ≡ 0)
    × Left l.initial.out 0 (lines_from 1 (take l.number l.campaigns)) (lines_from (l.i + 1) (drop l.i (take l.number l.campaigns))) l.out l.place
