-- How long the line of a counted file is: it has room in 128 bytes, since a number of 64 bits has at most 20 digits.
-- Assumes nothing.
use Prim.Native.Nat.{ℕ, ◌≤◌}
use mathlib.Core.List.{◌++◌}
use native.Mathlib.Omega.{arith}
use lib.Dec.{eqb}
use lib.ListN.{length, length-append}
use Rattle.truth.proofs.Cases.{by_test}
use Rattle.decimal.specs.Field.{tab, line_feed}
use Rattle.record_end.specs.declared.RecordResult.{RecordResult}
use Rattle.desk_line.specs.Said.{longest_said}
use Rattle.desk_line.proofs.Few.{Small, field_small}
use Rattle.comma_count.specs.Line.{first_text, figures_line}

first_few : (first time : ℕ) → Small time → length (first_text first time) ≤ 21
unfolding first_text
first_few first time h = by_test (eqb first 0) (λ e. rw e (omega arith)) (λ e. rw e (field_small time tab h))

pub figures_few : (n : ℕ) (x : RecordResult) → Small n → Small x.crossings → Small x.counted → Small x.largest → Small x.exposure → length (figures_line n x) ≤ longest_said
unfolding figures_line
figures_few n x a b c d e =
    simp length-append
    (omega (
      arith,
      field_small n tab a,
      field_small x.crossings tab b,
      field_small x.counted tab c,
      field_small x.largest tab d,
      first_few x.first x.exposure e,
      field_small x.exposure line_feed e,
    ))
