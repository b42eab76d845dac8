-- `comma_count::put_first` meets its contract, by its two cases. Assumes nothing.
use mathlib.Core.Path.{◌≡◌}
use mathlib.Core.List.{[], ◌∷◌}
use borrow.Author.Tests.{eq-eqb, ne_eqb}
use Rattle.decimal.specs.Field.{tab, field_text}
use Rattle.comma_count.specs.Line.{first_text}
use borrow.Author.Rules.{rules}
use Rattle.comma_count.proofs.put_first.Goals as goal
use Rattle.comma_count.proofs.put_first.Goals.{Else-first-eq0, Then-first-eq0}

none : (c : Then-first-eq0) → let a = c.args in first_text a.first a.time ≡ 45 ∷ tab ∷ []
unfolding first_text
none c = rw (eq-eqb c.args.first 0 c.if-first-eq0.true)

some : (c : Else-first-eq0) → let a = c.args in first_text a.first a.time ≡ field_text a.time tab
unfolding first_text
some c = rw (ne_eqb c.args.first 0 c.if-first-eq0.false)

pub returns-then-first-eq0 : goal.returns-then-first-eq0
returns-then-first-eq0 c =
    rw (none (goal.at.returns-then-first-eq0 c).Then-first-eq0) (record { value = c.write_bytes.ensures.value; out_after = c.write_bytes.ensures.out_after })

pub returns : goal.returns
returns c =
    rw (some (goal.at.returns c).Else-first-eq0) (record { value = c.write_field.ensures.value; out_after = c.write_field.ensures.out_after })
