-- The zeros that are lent for the channel that a file does not have. Assumes nothing.
use Prim.Native.Nat.{ℕ, zero, suc, ◌≤◌}
use mathlib.Core.Path.{◌≡◌, refl, ap}
use mathlib.Core.List.{List, [], ◌∷◌, ◌++◌, map-append}
use native.Mathlib.Omega.{arith}
use lib.IntN.{ℤ, pos}
use lib.ListN.{length, take, replicate, length-map}
use Rattle.sample_range.specs.Range.{first_bad}
use Rattle.comma_count.specs.Line.{zeros}

pub zeros_take : (n : ℕ) (xs : List ℤ) → length xs ≤ n → take (length xs) (replicate n (pos 0)) ≡ zeros xs
zeros_take n [] h = refl
zeros_take zero (x ∷ xs) h = absurd (omega arith)
zeros_take (suc n) (x ∷ xs) h = ap (λ l. pos 0 ∷ l) (zeros_take n xs (omega arith))

pub zeros_length : (xs : List ℤ) → length (zeros xs) ≡ length xs
zeros_length xs = length-map xs (λ x. pos 0)

pub zeros_good : (xs : List ℤ) → first_bad (zeros xs) ≡ length (zeros xs)
unfolding first_bad
zeros_good [] = refl
zeros_good (x ∷ xs) = ap suc (zeros_good xs)

pub zeros_append : (xs ys : List ℤ) → zeros (xs ++ ys) ≡ zeros xs ++ zeros ys
zeros_append xs ys = map-append (λ x. pos 0) xs ys
