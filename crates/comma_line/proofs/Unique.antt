-- Two answers that a promise allows are the same answer. Assumes nothing.
use Prim.Native.Nat.{ℕ}
use mathlib.Core.Path.{◌≡◌}
use mathlib.Core.Bool.{Bool}
use mathlib.Core.List.{List}
use Rattle.sample_items.specs.Limits.{step_in_range}
use Rattle.comma_line.specs.Line.{line_at}
use Rattle.std.specs.Prelude.{Option}

pub line_at_unique : (s : List ℕ) (at time : ℕ) (r q : Option (Bool × ℕ × ℕ)) → r ≡ line_at s at time → q ≡ line_at s at time → r ≡ q
line_at_unique s at time r q e f = cc

pub step_in_range_unique : (D : ℕ) (r q : Bool) → r ≡ step_in_range D → q ≡ step_in_range D → r ≡ q
step_in_range_unique D r q e f = cc
