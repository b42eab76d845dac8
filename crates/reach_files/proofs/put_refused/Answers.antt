-- `reach_files::put_refused` meets its contract: the k-th peak stands after 20 alone. Assumes nothing.
use mathlib.Core.Path.{sym, ap, ◌∙◌}
use Rattle.desk_line.specs.Said.{putting, put_left}
use Rattle.desk_line.proofs.Put.{finished, puts_same, without}
use Rattle.reach_files.specs.Line.{low, refused_list}
use Rattle.reach_files.proofs.Opens.{refuses_low, refuses_other}
use Rattle.reach_files.proofs.put_refused.Goals as goal

pub returns-then-number-ne-LOW_LEVEL : goal.returns-then-number-ne-LOW_LEVEL
returns-then-number-ne-LOW_LEVEL c =
    let a = c.args in
    let n = c.number.ensures in
    let e = refuses_other a.q (λ z. c.if-number-ne-LOW_LEVEL.true (n ∙ z)) in
    record { value = c.refuse_in.ensures.value ∙ ap (λ s. putting s a.out.now) e; out_after = c.refuse_in.ensures.out_after ∙ ap (λ s. put_left s a.out.now) e }

pub returns-then-out-lt-LONGEST_LINE : goal.returns-then-out-lt-LONGEST_LINE
returns-then-out-lt-LONGEST_LINE c =
    let a = c.args in
    let whole = without (refused_list a.q) a.out.now c.if-out-lt-LONGEST_LINE.true in record { value = whole.0; out_after = whole.1 }

pub returns : goal.returns
returns c =
    let a = c.args in
    let e = refuses_low a.q (sym c.number.ensures ∙ c.if-number-ne-LOW_LEVEL.false) in
    let whole = finished (refused_list a.q) c.if-out-lt-LONGEST_LINE.false
    (puts_same (ap low c.carried.ensures ∙ e)
    c.put_low.ensures) in record { value = whole.0; out_after = whole.1 }
