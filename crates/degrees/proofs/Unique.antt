-- Two answers that a promise allows are the same answer, with the same bytes left. Assumes nothing.
use mathlib.Core.Path.{◌≡◌}
use mathlib.Core.Bool.{Bool, cond}
use mathlib.Core.List.{List}
use Prim.Native.Nat.{ℕ, ◌+◌}
use lib.Dec.{leb}
use lib.IntN.{ℤ, pos}
use lib.ListN.{length, drop}
use Rattle.text.specs.Write.{written, place_after}
use Rattle.degrees.specs.Degrees.{sign_length, degrees_at, degrees_text, signed, largest_size}
use Rattle.std.specs.Prelude.{Option}

pub degrees_at_unique : (s : List ℕ) (at : ℕ) (r q : Option (Bool × ℕ × ℕ)) → r ≡ degrees_at s at → q ≡ degrees_at s at → r ≡ q
degrees_at_unique s at r q e f = cc

pub past_minus_unique : (s : List ℕ) (at r q : ℕ) → r ≡ at + sign_length (drop at s) → q ≡ at + sign_length (drop at s) → r ≡ q
past_minus_unique s at r q e f = cc

pub degrees_length_unique : (x : ℤ) (r q : ℕ) → r ≡ length (degrees_text x) → q ≡ length (degrees_text x) → r ≡ q
degrees_length_unique x r q e f = cc

pub sample_unique : (b : Bool) (n : ℕ) (r q : ℤ) → r ≡ cond (leb n largest_size) (signed b n) (pos 0) → q ≡ cond (leb n largest_size) (signed b n) (pos 0) → r ≡ q
sample_unique b n r q e f = cc

-- of `write_degrees`
module _ (x : ℤ) (out : List ℕ) (at : ℕ) where
  pub place_unique : (r q : ℕ) → r ≡ place_after out at (degrees_text x) → q ≡ place_after out at (degrees_text x) → r ≡ q
  place_unique r q e f = cc

  pub bytes_unique : (later other : List ℕ) → later ≡ written out at (degrees_text x) → other ≡ written out at (degrees_text x) → later ≡ other
  bytes_unique later other e f = cc
