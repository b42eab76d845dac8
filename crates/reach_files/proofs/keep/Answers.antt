-- `reach_files::keep` meets its contract: past the longest list nothing is put. Assumes nothing.
use Rattle.reach_files.proofs.Keeping.{keep_none, keep_all}
use Rattle.reach_files.proofs.keep.Goals as goal

pub returns-then-at-gt-LONGEST_LIST : goal.returns-then-at-gt-LONGEST_LIST
returns-then-at-gt-LONGEST_LIST c =
    let a = c.args in
    let whole = keep_none a.at a.sizes.now a.list.now c.if-at-gt-LONGEST_LIST.true in record { value = whole.0; list_after = whole.1 }

pub returns : goal.returns
returns c =
    let a = c.args in
    let whole = keep_all a.at a.sizes.now a.list.now c.if-at-gt-LONGEST_LIST.false
    c.put_all.ensures in record { value = whole.0; list_after = whole.1 }
