-- How long the refused line of a sheet is: any has room in 128 bytes, since a number of 64 bits has at most 20 digits.
-- Assumes nothing.
use Prim.Native.Nat.{ℕ, ◌≤◌}
use native.Mathlib.Omega.{arith}
use lib.ListN.{length, length-append}
use Rattle.std.specs.Prelude.{MatchOption, Option, Some, None}
use Rattle.decimal.specs.Field.{tab, line_feed, ending}
use Rattle.desk_line.specs.Said.{longest_said}
use Rattle.desk_line.proofs.Few.{Small, field_small}
use Rattle.sheet_fault.specs.Fault.{sheet_fault}

-- what 64 bits hold, if anything
abbrev pub SmallIf : Option ℕ → Type 0
SmallIf more = MatchOption more (Unit {0}) Small

ending_few : (number : ℕ) (more : Option ℕ) → Small number → SmallIf more → length (ending number more) ≤ 42
unfolding ending
ending_few number (Some more) h k = rw length-append (omega (arith, field_small number tab h, field_small more line_feed k))
ending_few number None h k = omega (arith, field_small number line_feed h)

pub fault_few : (place line number : ℕ) (more : Option ℕ) → Small place → Small line → Small number → SmallIf more → length (sheet_fault place line number more) ≤ longest_said
unfolding sheet_fault
fault_few place line number more f g h k =
    simp length-append (omega (arith, field_small place tab f, field_small line tab g, ending_few number more h k))
