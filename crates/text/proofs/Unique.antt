-- Two answers that a promise allows are the same answer: the promise equates it with a definition's value. Assumes
-- nothing.
use mathlib.Core.Path.{◌≡◌}
use mathlib.Core.List.{List}
use Prim.Native.Nat.{ℕ, ◌+◌}
use Rattle.text.specs.Front.{kept}
use mathlib.Core.Bool.{Bool}
use lib.Dec.{leb}
use Rattle.std.specs.Prelude.{slice_set}
use Rattle.text.specs.Write.{written, place_after}

pub keep_unique : (from count : ℕ) (bytes later other : List ℕ) → later ≡ kept from count bytes → other ≡ kept from count bytes → later ≡ other
keep_unique from count bytes later other e f = cc

pub has_room_unique : (len at count : ℕ) (r q : Bool) → r ≡ leb (at + count) len → q ≡ leb (at + count) len → r ≡ q
has_room_unique len at count r q e f = cc

-- of `write_bytes`, and of `write_byte` at a text of one byte
module _ (out : List ℕ) (at : ℕ) (text : List ℕ) where
  pub place_unique : (r q : ℕ) → r ≡ place_after out at text → q ≡ place_after out at text → r ≡ q
  place_unique r q e f = cc

  pub bytes_unique : (later other : List ℕ) → later ≡ written out at text → other ≡ written out at text → later ≡ other
  bytes_unique later other e f = cc

pub put_unique : {A : Type 0} (x : A) (i : ℕ) (places later other : List A) → later ≡ slice_set places i x → other ≡ slice_set places i x → later ≡ other
put_unique x i places later other e f = cc
