-- A turn of a loop over samples: what is left at i is the sample at i and what is left at i + 1. Assumes nothing.
use Prim.Native.Nat.{ℕ, ◌+◌, ◌<◌}
use mathlib.Core.Path.{◌≡◌, ap}
use mathlib.Core.List.{List, ◌∷◌}
use native.Mathlib.Numerals.{add-one}
use lib.ListN.{length, get_or, drop}
use lib.Seq.{drop-cons}
use lib.IntN.{ℤ, pos}

pub turn {ℓ} : {A : Type ℓ} (f : List ℤ → A) (xs : List ℤ) (i : ℕ) → i < length xs → f (drop i xs) ≡ f (get_or xs i (pos 0) ∷ drop (i + 1) xs)
turn f xs i h = ap f (rw (add-one, drop-cons xs i (pos 0)))
