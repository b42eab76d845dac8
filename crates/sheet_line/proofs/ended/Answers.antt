-- `sheet_line::ended` meets its contract: past the end nothing is left, and before it the byte decides. Assumes
-- nothing.
use borrow.Author.Rules.{rules}
use borrow.Author.Tests.{eq-eqb, ne_eqb}
use lib.ListN.{get_or, drop_of_length-le}
use lib.Seq.{drop-cons}
use Rattle.sheet_line.specs.Field.{ends_here}
use Rattle.sheet_line.proofs.ended.Goals as goal

pub returns-then-s-at : goal.returns-then-s-at
unfolding ends_here
returns-then-s-at c = rw (drop_of_length-le _ c.if-s-at.true)

pub returns-then-b-eq-TAB : goal.returns-then-b-eq-TAB
unfolding ends_here
returns-then-b-eq-TAB c =
    let a = c.args in
    rw (drop-cons a.s.now a.at 0 (search rules), eq-eqb (get_or a.s.now a.at 0) 9 c.if-b-eq-TAB.true)

pub returns : goal.returns
unfolding ends_here
returns c =
    let a = c.args in
    rw (drop-cons a.s.now a.at 0 (search rules), ne_eqb (get_or a.s.now a.at 0) 9 c.if-b-eq-TAB.false)
