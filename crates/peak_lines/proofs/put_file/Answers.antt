-- `peak_lines::put_file` meets its contract, by its test. Assumes nothing.
use borrow.Author.Tests.{eq-eqb, ne_eqb}
use Rattle.text.proofs.Parts.{wrote_none}
use Rattle.peak_lines.specs.Lines.{file_text}
use Rattle.peak_lines.proofs.put_file.Goals as goal

pub returns-then-file-eq0 : goal.returns-then-file-eq0
unfolding file_text
returns-then-file-eq0 c =
    rw (eq-eqb c.args.file 0 c.if-file-eq0.true) (let whole = wrote_none _ _ c.requires in record { value = whole.0; out_after = whole.1 })

pub returns : goal.returns
unfolding file_text
returns c =
    rw (ne_eqb c.args.file 0 c.if-file-eq0.false) (record { value = c.write_field.ensures.value; out_after = c.write_field.ensures.out_after })
