-- Ways to go by cases: by a test, and by which of two numbers is less. Assumes nothing.
use mathlib.Core.Path.{◌≡◌, refl}
use mathlib.Core.Bool.{Bool, true, false}
use Prim.Native.Nat.{ℕ, ◌≤◌, ◌<◌}
use native.Mathlib.Decide.{dec_lt}
use native.Mathlib.Omega.{arith}

pub by_test : (t : Bool) {P : Type 0} → (t ≡ true → P) → (t ≡ false → P) → P
by_test true holds fails = holds refl
by_test false holds fails = fails refl

pub by_order : (n k : ℕ) {P : Type 0} → (n < k → P) → (k ≤ n → P) → P
by_order n k {P} below above = split (dec_lt n k)
  where
    split : Dec (n < k) → P
    split (yes l) = below l
    split (no l) = above (omega arith)
