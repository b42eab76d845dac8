-- `peak_reach::shortest` meets its contract (`Steps`). Assumes nothing.
use borrow.Author.Rules.{rules}
use Rattle.peak_reach.proofs.Steps.{shortest_far, shortest_is, shortest_none}
use Rattle.peak_reach.proofs.Steps.{shortest_too_long}
use Rattle.peak_reach.proofs.shortest.Goals as goal
use Rattle.peak_reach.proofs.shortest.Goals.{After-up-p}

pub returns-then-a-d-ge64 : goal.returns-then-a-d-ge64
returns-then-a-d-ge64 c =
    let a = c.args in
    let g = c.requires in
    shortest_far a.kg a.sum a.w a.n a.r g.0 g.1 c.if-a-d-ge64.true

pub returns-then-x-ge67108864 : goal.returns-then-x-ge67108864
returns-then-x-ge67108864 c =
    let a = c.args in
    let g = c.requires in
    shortest_none a.kg a.sum a.w a.n a.r g.0 g.1 _ _ _ c.quotient-y.ensures c.pick.ensures c.if-x-ge67108864.true

pub returns-then-q-ge-LONGEST_STANDARD : goal.returns-then-q-ge-LONGEST_STANDARD
returns-then-q-ge-LONGEST_STANDARD c =
    let after-up : After-up-p = search rules in let e = after-up in
    let a = c.args in
    let g = c.requires in
    shortest_too_long a.kg a.sum a.w a.n a.r g.0 g.1 _ _ _ c.quotient-y.ensures c.pick.ensures
    c.if-x-ge67108864.false _ e.up-p.ensures.0 _ c.cut.ensures c.if-q-ge-LONGEST_STANDARD.true

pub returns : goal.returns
returns c =
    let after-up : After-up-p = search rules in let e = after-up in
    let a = c.args in
    let g = c.requires in
    shortest_is a.kg a.sum a.w a.n a.r g.0 g.1 _ _ _ c.quotient-y.ensures c.pick.ensures
    c.if-x-ge67108864.false _ e.up-p.ensures.0 _ c.cut.ensures c.if-q-ge-LONGEST_STANDARD.false
