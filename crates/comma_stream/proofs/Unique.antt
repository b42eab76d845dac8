-- Two answers that a promise allows are the same answer, with the same samples left. Assumes nothing.
use Prim.Native.Nat.{ℕ}
use mathlib.Core.Path.{◌≡◌}
use mathlib.Core.Bool.{Bool}
use mathlib.Core.List.{List}
use lib.IntN.{ℤ}
use lib.ListN.{length, drop}
use Rattle.comma_stream.specs.declared.Follow.{Follow}
use Rattle.comma_stream.specs.declared.Rest.{Rest}
use Rattle.comma_stream.specs.Follow.{resting, taking, leaving}
use Rattle.refusal.specs.declared.Refusal.{Refusal}
use Rattle.std.specs.Prelude.{Result}

pub left_unique : (text : List ℕ) (at : ℕ) (more : Bool) (r q : Rest) → r ≡ resting (drop at text) more → q ≡ resting (drop at text) more → r ≡ q
left_unique text at more r q e f = cc

-- the answer and the samples left
pub take_unique : (f : Follow) (text : List ℕ) (slice later other : List ℤ) (r q : Result (Follow × ℕ × ℕ) Refusal)
    → r ≡ taking f text (length slice) → later ≡ leaving r text slice
    → q ≡ taking f text (length slice) → other ≡ leaving q text slice → (r ≡ q) × (later ≡ other)
take_unique f text slice later other r q e g h k = (cc, cc)
