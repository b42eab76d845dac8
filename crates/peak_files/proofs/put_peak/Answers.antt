-- `peak_files::put_peak` meets its contract: by its two cases. Assumes nothing.
use mathlib.Core.Path.{sym, ap}
use Rattle.desk_line.proofs.Put.{puts_same}
use Rattle.peak_files.specs.Passing.{peak_in}
use Rattle.peak_files.specs.Said.{peaks_read}
use Rattle.peak_files.proofs.Put.{puts_no_peak}
use Rattle.peak_files.proofs.put_peak.Goals as goal

pub returns-in-None : goal.returns-in-None
returns-in-None c =
    puts_same (sym (ap (λ l. peaks_read c.args.file (peak_in l)) c.in-None.is)) (puts_no_peak c.args.file c.args.out.now)
