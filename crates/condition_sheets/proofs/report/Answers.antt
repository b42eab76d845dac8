-- `condition_sheets::report` meets its contract: the report is written and then told. Assumes nothing.
use Prim.Native.Nat.{ℕ}
use mathlib.Core.Path.{◌≡◌, ap, ◌∙◌}
use mathlib.Core.List.{List}
use Rattle.text.specs.Write.{laid_by}
use Rattle.desk_line.specs.declared.Finished.{Finished}
use Rattle.condition_sheets.specs.Taking.{writing_told, writing_kept, report_told, report_kept}
use Rattle.condition_sheets.proofs.report.Goals as goal
use Rattle.refusal.specs.declared.Refusal.{Refusal}
use Rattle.std.specs.Prelude.{Result}

both : (text out : List ℕ) {w v : (Result ℕ Refusal)} {middle later : List ℕ} {f : Finished} → w ≡ v → middle ≡ laid_by w text out → (f ≡ writing_told w middle) × (later ≡ writing_kept w middle)
    → (f ≡ writing_told v (laid_by v text out)) × (later ≡ writing_kept v (laid_by v text out))
both text out {w} {v} e m (p, l) =
    let n = m ∙ ap (λ x. laid_by x text out) e in
    (p ∙ ap (writing_told w) n ∙ ap (λ x. writing_told x (laid_by v text out)) e, l ∙ ap (writing_kept w) n ∙ ap (λ x. writing_kept x (laid_by v text out)) e)

pub returns : goal.returns
unfolding report_told report_kept
returns c =
    let whole = both _ c.args.out.now c.write-w.ensures.value c.write-w.ensures.out_after (c.put_writing.ensures.value, c.put_writing.ensures.out_after) in record { value = whole.0; out_after = whole.1 }
