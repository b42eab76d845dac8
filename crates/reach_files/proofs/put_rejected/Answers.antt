-- `reach_files::put_rejected` meets its contract, by its two cases. Assumes nothing.
use mathlib.Core.Path.{◌≡◌}
use mathlib.Core.List.{[], ◌∷◌}
use borrow.Author.Tests.{eq-eqb, ne_eqb}
use Rattle.decimal.specs.Field.{tab, field_text}
use Rattle.reach_files.specs.Line.{rejected_text}
use Rattle.reach_files.proofs.put_rejected.Goals as goal

pub returns-then-time-eq0 : goal.returns-then-time-eq0
unfolding rejected_text
returns-then-time-eq0 c =
    let none : rejected_text c.args.time ≡ 45 ∷ tab ∷ [] = rw (eq-eqb c.args.time 0 c.if-time-eq0.true) in
    rw (none) (record { value = c.write_bytes.ensures.value; out_after = c.write_bytes.ensures.out_after })

pub returns : goal.returns
unfolding rejected_text
returns c =
    let some : (let a = c.args in rejected_text a.time ≡ field_text a.time tab) = rw (ne_eqb c.args.time 0 c.if-time-eq0.false) in
    rw (some) (record { value = c.write_field.ensures.value; out_after = c.write_field.ensures.out_after })
