-- How long a refused line with a channel is: it has room in 128 bytes. Assumes nothing.
use Prim.Native.Nat.{ℕ, ◌≤◌}
use mathlib.Core.List.{◌++◌}
use native.Mathlib.Omega.{arith}
use lib.ListN.{length, length-append}
use Rattle.decimal.specs.Field.{tab, line_feed}
use Rattle.decimal.proofs.Text.{field_few}
use Rattle.refusal.specs.declared.Refusal.{Refusal}
use Rattle.refusal.specs.Numbers.{number_of}
use Rattle.refusal.proofs.Small.{number_small}
use Rattle.desk_line.specs.Said.{longest_said}
use Rattle.desk_line.proofs.Few.{Small, field_small}
use Rattle.comma_pair.specs.Line.{channel_line}

pub channel_few : (line : ℕ) (r : Refusal) (channel : ℕ) → Small line → Small channel → length (channel_line line r channel) ≤ longest_said
unfolding channel_line
channel_few line r channel h k =
    simp length-append
    (omega (arith, field_small line tab h, field_few (number_of r) tab 1 (number_small r), field_small channel line_feed k))
