-- `sheet_line::look_at` meets its contract, case by case of what the field reads as; a place in a line of 64 bytes is
-- small. Assumes nothing.
use Prim.Native.Nat.{◌≤◌}
use mathlib.Core.Path.{◌≡◌, refl, sym, ap, ◌∙◌}
use native.Mathlib.Omega.{arith}
use lib.ListN.{length}
use Rattle.sheet_line.specs.Field.{field_at}
use Rattle.sheet_line.proofs.Back.{read_only}
use Rattle.sheet_line.proofs.Faults.{strange_place, strange_within}
use Rattle.sheet_line.proofs.look_at.Goals as goal
use Rattle.sheet_line.proofs.look_at.Goals.{After-number_at-f, In-Number}

reads : (c : After-number_at-f) → field_at c.args.text.now c.args.at ≡ c.number_at-f.result
reads c = sym c.number_at-f.ensures

reads₂ : (c : In-Number) → field_at c.args.text.now c.args.at ≡ c.number_at-f.result
reads₂ c = sym c.number_at-f.ensures

within : (c : In-Number) → c.in-Number.next ≤ length c.args.text.now
within c =
    (read_only c.args.text.now c.args.at c.in-Number.v c.in-Number.next (reads₂ c ∙ c.in-Number.is)).within

pub overflow_add-result : goal.overflow_add-result
overflow_add-result c =
    omega (arith, within (goal.at.overflow_add-result c).In-Number, c.requires.0)

pub overflow_add-result-in-Strange : goal.overflow_add-result-in-Strange
overflow_add-result-in-Strange c =
    omega (arith, strange_within c.args.text.now c.args.at, ap strange_place (reads (goal.at.overflow_add-result-in-Strange c).After-number_at-f ∙ c.in-Strange.is), c.requires.0, c.requires.1)

pub returns-in-Number : goal.returns-in-Number
returns-in-Number c =
    rw (reads (goal.at.returns-in-Number c).After-number_at-f ∙ c.in-Number.is) (record { column_value = c.pick.ensures ∙ rw c.both.ensures; next_value = refl; next_bound = omega (arith, within (goal.at.returns-in-Number c).In-Number, c.requires.0) })
