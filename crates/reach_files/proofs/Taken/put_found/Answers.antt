-- `reach_files::Taken::put_found` meets its contract: there is room for any line or not. Assumes nothing.
use mathlib.Core.Path.{ap}
use Rattle.desk_line.proofs.Few.{Small}
use Rattle.desk_line.proofs.Put.{finished, puts_same, without}
use Rattle.peak_reach.proofs.Order.{answered}
use Rattle.reach_files.specs.Line.{told, figures_of}
use Rattle.reach_files.proofs.Few.{figures_few}
use borrow.Author.Rules.{rules}
use Rattle.reach_files.proofs.Taken.put_found.Goals as goal

pub returns-then-out-lt-LONGEST_LINE : goal.returns-then-out-lt-LONGEST_LINE
returns-then-out-lt-LONGEST_LINE c =
    let a = c.args in
    let whole = without (told (figures_of a.self.job a.self.files a.self.samples a.self.ys.now a.t a.l)) a.out.now c.if-out-lt-LONGEST_LINE.true in record { value = whole.0; out_after = whole.1 }

pub figures-f-requires : goal.figures-f-requires
figures-f-requires c =
    let a = c.args in
    (answered a.self.ys.now a.self.job.tail a.self.job.level a.self.job.step a.self.samples a.self.job.standard a.t a.l c.requires).judged.tail

pub put_figures-requires : goal.put_figures-requires
put_figures-requires c =
    let a = c.args in
    let files : Small a.self.files = search rules in
    (c.if-out-lt-LONGEST_LINE.false, rw c.figures-f.ensures (figures_few a.self.job a.self.files a.self.samples a.self.ys.now a.t a.l files c.requires))

pub returns : goal.returns
returns c =
    let a = c.args in
    let whole = finished (told (figures_of a.self.job a.self.files a.self.samples a.self.ys.now a.t a.l)) c.if-out-lt-LONGEST_LINE.false
    (puts_same (ap told c.figures-f.ensures) c.put_figures.ensures) in record { value = whole.0; out_after = whole.1 }
