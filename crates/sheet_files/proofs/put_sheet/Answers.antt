-- `sheet_files::put_sheet` meets its contract: the first records are lent to the sheet's writer. Assumes nothing.
use mathlib.Core.Path.{◌≡◌, ap, ◌∙◌}
use native.Mathlib.Omega.{arith}
use lib.ListN.{length}
use borrow.Author.Tests.{lt-ltb, le-ltb}
use mathlib.Core.List.{List}
use Prim.Native.Nat.{ℕ}
use Rattle.desk_line.specs.declared.Finished.{Finished}
use Rattle.text.specs.Write.{laid_by}
use Rattle.sheet_files.specs.Filing.{writing_put, writing_left, sheet_put, sheet_left}
use Rattle.sheet_files.proofs.put_sheet.Goals as goal
use Rattle.refusal.specs.declared.Refusal.{Refusal}
use Rattle.std.specs.Prelude.{Result}

-- what was written, and then told
both : (text out : List ℕ) {w v : (Result ℕ Refusal)} {middle later : List ℕ} {f : Finished} → w ≡ v → middle ≡ laid_by w text out → (f ≡ writing_put w middle) × (later ≡ writing_left w middle)
    → (f ≡ writing_put v (laid_by v text out)) × (later ≡ writing_left v (laid_by v text out))
both text out {w} {v} e m (p, l) =
    let n = m ∙ ap (λ x. laid_by x text out) e in
    (p ∙ ap (writing_put w) n ∙ ap (λ x. writing_put x (laid_by v text out)) e, l ∙ ap (writing_left w) n ∙ ap (λ x. writing_left x (laid_by v text out)) e)

pub returns-then-records-k : goal.returns-then-records-k
unfolding sheet_put sheet_left
returns-then-records-k c =
    rw (lt-ltb (length c.args.records.now) c.args.n (omega arith)) (record { value = c.refuse_in.ensures.value; out_after = c.refuse_in.ensures.out_after })

pub returns : goal.returns
unfolding sheet_put sheet_left
returns c =
    let p = c.put_writing in
    rw (le-ltb (length c.args.records.now) c.args.n (omega arith)) (let whole = both _ c.args.out.now c.write-w.ensures.value c.write-w.ensures.out_after (p.ensures.value, p.ensures.out_after) in record { value = whole.0; out_after = whole.1 })
