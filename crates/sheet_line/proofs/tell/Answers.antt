-- `sheet_line::tell` meets its contract: each answer follows from the tests that led to it. Assumes nothing.
use borrow.Author.Tests.{eq-eqb, le-ltb, lt-ltb, ne_eqb}
use Rattle.sheet_line.specs.Line.{telling}
use Rattle.sheet_line.proofs.tell.Goals as goal

pub returns-then-exposure-eq0 : goal.returns-then-exposure-eq0
unfolding telling
returns-then-exposure-eq0 c = rw (eq-eqb _ _ c.if-exposure-eq0.true)

pub returns-then-exposure-gt-LONGEST_TIME : goal.returns-then-exposure-gt-LONGEST_TIME
unfolding telling
returns-then-exposure-gt-LONGEST_TIME c = rw (ne_eqb _ _ c.if-exposure-eq0.false, lt-ltb _ _ c.if-exposure-gt-LONGEST_TIME.true)

pub returns : goal.returns
unfolding telling
returns c =
    rw (ne_eqb _ _ c.if-exposure-eq0.false, le-ltb _ _ c.if-exposure-gt-LONGEST_TIME.false) c.enter.ensures
