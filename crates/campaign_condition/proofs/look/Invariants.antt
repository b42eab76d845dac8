-- `campaign_condition::look` meets its contract: the invariant is `Along`, that what was seen and what is left add
-- up to what there is. Assumes nothing.
use Prim.Native.Nat.{◌-◌, ◌≤◌}
use lib.ListN.{drop, take}
use Rattle.campaign_condition.proofs.Looking.{Along}
use Rattle.campaign_condition.proofs.look.Given as goal

abbrev pub invariant-loop-i : goal.invariant-loop-i
invariant-loop-i l = (l.i ≤ l.number) × Along (take l.number l.campaigns) (drop l.i (take l.number l.campaigns)) l.i l.broken l.one l.all
