-- `sheet_records::judge_one` meets its contract, test by test. Assumes nothing.
use borrow.Author.Tests.{eq-eqb, ne_eqb, le-ltb, lt-ltb}
use Rattle.sheet_records.specs.Answers.{judged_one}
use Rattle.sheet_records.proofs.judge_one.Goals as goal

pub returns-then-exposure-eq0 : goal.returns-then-exposure-eq0
unfolding judged_one
returns-then-exposure-eq0 c = rw (eq-eqb _ _ c.if-exposure-eq0.true)

pub returns-then-exposure-gt-LONGEST_TIME : goal.returns-then-exposure-gt-LONGEST_TIME
unfolding judged_one
returns-then-exposure-gt-LONGEST_TIME c = rw (ne_eqb _ _ c.if-exposure-eq0.false, lt-ltb _ _ c.if-exposure-gt-LONGEST_TIME.true)

pub returns-then-count-eq-MOST_RECORDS : goal.returns-then-count-eq-MOST_RECORDS
unfolding judged_one
returns-then-count-eq-MOST_RECORDS c =
    rw (ne_eqb _ _ c.if-exposure-eq0.false, le-ltb _ _ c.if-exposure-gt-LONGEST_TIME.false, eq-eqb _ _ c.if-count-eq-MOST_RECORDS.true)

pub returns-then-failures-eq-ROWS : goal.returns-then-failures-eq-ROWS
unfolding judged_one
returns-then-failures-eq-ROWS c =
    rw (ne_eqb _ _ c.if-exposure-eq0.false, le-ltb _ _ c.if-exposure-gt-LONGEST_TIME.false, ne_eqb _ _ c.if-count-eq-MOST_RECORDS.false, eq-eqb _ _ c.if-failures-eq-ROWS.true)

pub returns : goal.returns
unfolding judged_one
returns c =
    rw (ne_eqb _ _ c.if-exposure-eq0.false, le-ltb _ _ c.if-exposure-gt-LONGEST_TIME.false, ne_eqb _ _ c.if-count-eq-MOST_RECORDS.false, ne_eqb _ _ c.if-failures-eq-ROWS.false)
