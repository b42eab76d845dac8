-- How long the line of a sum is: it has room in 128 bytes, since a number of 64 bits has at most 20 digits. Assumes
-- nothing.
use Prim.Native.Nat.{◌≤◌}
use mathlib.Core.List.{◌++◌}
use native.Mathlib.Omega.{arith}
use lib.ListN.{length, length-append}
use Rattle.decimal.specs.Field.{tab, line_feed}
use Rattle.binomial_sum.specs.declared.Sum.{Sum}
use Rattle.binomial_bounds.specs.declared.Bounds.{Bounds}
use Rattle.desk_line.specs.Said.{longest_said}
use Rattle.desk_line.proofs.Few.{Small, field_small}
use Rattle.binomial_files.specs.Files.{sum_line}

pub sum_few : (s : Sum) (b : Bounds) → Small s.failures → Small s.samples → Small b.estimate → Small b.lower → Small b.upper → Small b.time
    → length (sum_line s b) ≤ longest_said
unfolding sum_line
sum_few s b h1 h2 h3 h4 h5 h6 =
    simp length-append
    (omega (
      arith,
      field_small s.failures tab h1,
      field_small s.samples tab h2,
      field_small b.estimate tab h3,
      field_small b.lower tab h4,
      field_small b.upper tab h5,
      field_small b.time line_feed h6,
    ))
