-- Two answers that a promise allows are the same answer: the promise equates it with a definition's value. Assumes
-- nothing.
use mathlib.Core.Path.{◌≡◌}
use mathlib.Core.List.{List}
use Prim.Native.Nat.{ℕ}
use Rattle.comma_word.specs.Plain.{plain_bytes, plain_size}

pub plain_bytes_unique : (s : List ℕ) (at r q : ℕ) → r ≡ plain_bytes s at → q ≡ plain_bytes s at → r ≡ q
plain_bytes_unique s at r q e f = cc

pub plain_size_unique : (s : List ℕ) (at bytes r q : ℕ) → r ≡ plain_size s at bytes → q ≡ plain_size s at bytes → r ≡ q
plain_size_unique s at bytes r q e f = cc
