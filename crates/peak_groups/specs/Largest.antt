-- What "the largest, the first on a tie" means, said without the way it is found. Assumes nothing.
use Rattle.std.specs.Prelude.{ℕ, ◌+◌, ◌≤◌, ◌<◌, ◌≡◌, List, [], ◌∷◌, ◌++◌}
use Rattle.peak_groups.specs.declared.Peak.{Peak}

-- each member of l is so
abbrev pub All : (Peak → Type 0) → List Peak → Type 0
All P [] = Unit {0}
All P (x ∷ l) = P x × All P l

-- p is the largest of l, and the first that is so large
pub record Top (p : Peak) (l : List Peak) : Type 0 where
  pub before : List Peak
  pub after : List Peak
  pub is : l ≡ before ++ (p ∷ after)
  pub smaller : All (λ q. q.size < p.size) before
  pub no_larger : All (λ q. q.size ≤ p.size) after

-- each of the peaks is the top of the group at its place
pub data Tops : List Peak → List (List Peak) → Type 0 where
  none : Tops [] []
  next : {p : Peak} {g ps : List Peak} {gs : List (List Peak)} → Top p g → Tops ps gs → Tops (p ∷ ps) (g ∷ gs)

-- none before t ms, and each at least d ms after the one before
abbrev pub Spaced : ℕ → ℕ → List Peak → Type 0
Spaced d t [] = Unit {0}
Spaced d t (p ∷ l) = (t ≤ p.time) × Spaced d (p.time + d) l

-- p is in l
pub record In (p : Peak) (l : List Peak) : Type 0 where
  pub before : List Peak
  pub after : List Peak
  pub is : l ≡ before ++ (p ∷ after)
