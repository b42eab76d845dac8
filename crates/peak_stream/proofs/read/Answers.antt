-- `peak_stream::read` meets its contract, case by case. Assumes nothing.
use borrow.Author.Rules.{rules}
use Prim.Native.Nat.{◌*◌}
use mathlib.Core.Path.{◌≡◌, sym, ap, ◌∙◌}
use native.Mathlib.Omega.{arith}
use mir.Facts.{to_z-of_z}
use Rattle.peak_groups.specs.Runs.{point}
use Rattle.peak_stream.specs.Reading.{here}
use Rattle.peak_stream.proofs.Bounds.{most_few, soon}
use Rattle.peak_stream.proofs.Cases.{read_waits, read_stays, read_opens}
use Rattle.peak_stream.proofs.read.Goals as goal
use Rattle.peak_stream.proofs.read.Goals.{After-both, After-both-2, After-point-p, After-same, Start}

pub overflow_mul-r : goal.overflow_mul-r
overflow_mul-r c =
    let r = c.args.r in omega (arith, soon r.n r.step c.requires.0)

-- the sample as a member
sample : (c : After-point-p) → c.point-p.result ≡ here c.args.r c.args.x
sample c =
    let b : Start = search rules in
    let r = b.args.r in c.point-p.ensures ∙ ap (point r.best.below (r.n * r.step)) (to_z-of_z b.ranges.x)

pub overflow_add-result : goal.overflow_add-result
overflow_add-result c =
    omega (arith, c.requires.0, most_few c.args.r.step)

pub returns-then-both : goal.returns-then-both
returns-then-both c =
    let d : After-point-p = search rules in
    read_waits c.args.r c.args.x d.point-p.result (sample (d)) (sym c.both.ensures ∙ c.if-both.true)

pub overflow_add-result-then-both-2 : goal.overflow_add-result-then-both-2
overflow_add-result-then-both-2 c =
    let b : Start = search rules
    in
    omega (arith, b.requires.0, most_few b.args.r.step)

pub returns-then-both-2 : goal.returns-then-both-2
returns-then-both-2 c =
    let after-both2 : After-both-2 = search rules in let after_same : After-same = search rules in
    let after_both : After-both = search rules in let d = after-both2 in
    let e = after_same in
    let g = after_both in
    let h : After-point-p = search rules in
    let r = c.args.r in
    rw c.larger.ensures
    (read_stays r c.args.x h.point-p.result (sample (h)) (sym g.both.ensures ∙ c.if-both.false) (sym (d.both-2.ensures ∙ rw e.same.ensures) ∙ c.if-both-2.true))

pub overflow_add-result-2 : goal.overflow_add-result-2
overflow_add-result-2 c =
    omega (arith, c.requires.0, most_few c.args.r.step)

pub overflow_add-result-3 : goal.overflow_add-result-3
overflow_add-result-3 c =
    let b : Start = search rules
    in
    omega (arith, b.requires.0, b.requires.1, most_few b.args.r.step)

pub returns : goal.returns
returns c =
    let after-both2 : After-both-2 = search rules in let after_same : After-same = search rules in
    let after_both : After-both = search rules in let d = after-both2 in
    let e = after_same in
    let g = after_both in
    let h : After-point-p = search rules in
    let r = c.args.r in
    read_opens r c.args.x h.point-p.result (sample (h)) (sym g.both.ensures ∙ c.if-both.false) (sym (d.both-2.ensures ∙ rw e.same.ensures) ∙ c.if-both-2.false)
