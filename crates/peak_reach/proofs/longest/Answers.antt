-- `peak_reach::longest` meets its contract (`Steps`). Assumes nothing.
use borrow.Author.Rules.{rules}
use Rattle.peak_reach.proofs.Steps.{longest_is}
use Rattle.peak_reach.proofs.longest.Goals as goal
use Rattle.peak_reach.proofs.longest.Goals.{After-quotient-x}

pub returns : goal.returns
returns c =
    let after-quotient : After-quotient-x = search rules in let o = after-quotient in
    let a = c.args in
    let g = c.requires in
    rw c.pick.ensures
    (longest_is a.kg a.sum a.w a.n a.r g.0 a.less _ _ _ _ o.quotient-x.ensures c.down-p.ensures.0
    c.cut.ensures)
