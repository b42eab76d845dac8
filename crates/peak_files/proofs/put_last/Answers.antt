-- `peak_files::put_last` meets its contract: by its two cases. Assumes nothing.
use mathlib.Core.Path.{sym, ap, ◌∙◌}
use Rattle.desk_line.proofs.Put.{puts_same}
use Rattle.peak_files.specs.Passing.{peak_in, last_by}
use Rattle.peak_files.specs.Said.{peaks_read}
use Rattle.peak_files.proofs.Put.{puts_no_peak, last-is}
use Rattle.peak_files.proofs.put_last.Goals as goal

pub returns-in-Ok : goal.returns-in-Ok
returns-in-Ok c =
    puts_same
    (ap (λ l. peaks_read c.args.file (peak_in l)) c.finish.ensures ∙ ap (peaks_read c.args.file) (last-is c.in-Ok.h) ∙ sym (ap (λ x. peaks_read c.args.file (last_by x)) c.in-Ok.is))
    c.put_peak.ensures

pub returns-in-Err : goal.returns-in-Err
returns-in-Err c =
    puts_same (sym (ap (λ x. peaks_read c.args.file (last_by x)) c.in-Err.is)) (puts_no_peak c.args.file c.args.out.now)
