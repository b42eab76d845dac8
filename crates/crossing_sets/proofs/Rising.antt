-- Moments in order: what the walk asks of the list that it goes over. Assumes nothing.
use Prim.Native.Nat.{ℕ, ◌≤◌}
use mathlib.Core.List.{List, [], ◌∷◌}

module _ (time : ℕ → ℕ) where
  -- no member is before x
  abbrev pub From : ℕ → List ℕ → Type 0
  From x [] = Unit {0}
  From x (y ∷ l) = (time x ≤ time y) × From x l

  -- the members are in order of time
  abbrev pub Rising : List ℕ → Type 0
  Rising [] = Unit {0}
  Rising (x ∷ l) = From x l × Rising l
