-- `peak_files::finish` meets its contract: without room nothing is written; with it the last line, or nothing where the file has changed. Assumes nothing.
use mathlib.Core.Path.{◌≡◌, refl, sym, ◌∙◌}
use Rattle.desk_line.proofs.Put.{puts_same, finished, without}
use Rattle.peak_files.proofs.Put.{puts_none}
use Rattle.peak_files.specs.Passing.{same_file, last_by, finishing}
use mathlib.Core.Bool.{true, false}
use mathlib.Core.List.{[]}
use Rattle.desk_line.specs.Said.{failed_digit}
use Rattle.peak_files.specs.declared.Pass.{Pass}
use Rattle.peak_files.specs.Said.{peaks_read}
use Rattle.peak_files.proofs.finish.Goals as goal

alike-so : (a b : Pass) → same_file a b ≡ true → peaks_read b.file (last_by b.handing) ≡ finishing a b
unfolding finishing
alike-so a b e = rw e

changed-so : (a b : Pass) → same_file a b ≡ false → record { line = []; end = failed_digit } ≡ finishing a b
unfolding finishing
changed-so a b e = rw e

pub returns-then-out-lt-LONGEST_LINE : goal.returns-then-out-lt-LONGEST_LINE
returns-then-out-lt-LONGEST_LINE c =
    let whole = without (finishing c.args.a c.args.b) c.args.out.now c.if-out-lt-LONGEST_LINE.true in record { value = whole.0; out_after = whole.1 }

pub returns-then-both : goal.returns-then-both
returns-then-both c =
    let same-is : c.both.result ≡ same_file c.args.a c.args.b = c.both.ensures ∙ rw c.alike_by.ensures in
    let whole = finished (finishing c.args.a c.args.b) c.if-out-lt-LONGEST_LINE.false
    (puts_same (alike-so c.args.a c.args.b (sym (same-is) ∙ c.if-both.true)) c.put_last.ensures) in record { value = whole.0; out_after = whole.1 }

pub returns : goal.returns
returns c =
    let same-is : c.both.result ≡ same_file c.args.a c.args.b = c.both.ensures ∙ rw c.alike_by.ensures in
    let whole = finished (finishing c.args.a c.args.b) c.if-out-lt-LONGEST_LINE.false
    (puts_same (changed-so c.args.a c.args.b (sym (same-is) ∙ c.if-both.false)) (puts_none c.args.out.now (record { line = []; end = failed_digit }) refl)) in record { value = whole.0; out_after = whole.1 }
