-- Document 02, [5], and document 000, section 6.3: a list in groups, which are its runs of neighbours that join. A
-- crossing is known by its place; `time` gives the moment of a place and τ is the decorrelation time. Assumes nothing.
use Rattle.std.specs.Prelude.{ℕ, ◌+◌, Bool, cond, List, [], ◌∷◌, ltb}

-- y is less than τ after x, the crossing just before it
abbrev pub near : (ℕ → ℕ) → ℕ → ℕ → ℕ → Bool
near time τ x y = ltb (time y) (time x + τ)

-- x stands in the group of the next member if the two join, and is a group of its own if not
unfoldable pub attach : {A : Type 0} → (A → A → Bool) → A → List (List A) → List (List A)
attach joins x [] = (x ∷ []) ∷ []
attach joins x ([] ∷ gs) = (x ∷ []) ∷ gs
attach joins x ((y ∷ g) ∷ gs) = cond (joins x y) ((x ∷ y ∷ g) ∷ gs) ((x ∷ []) ∷ (y ∷ g) ∷ gs)

-- the groups, in order
unfoldable pub groups : {A : Type 0} → (A → A → Bool) → List A → List (List A)
groups joins [] = []
groups joins (x ∷ l) = attach joins x (groups joins l)

-- the first member of each group
unfoldable pub firsts : {A : Type 0} → List (List A) → List A
firsts [] = []
firsts ([] ∷ gs) = firsts gs
firsts ((x ∷ g) ∷ gs) = x ∷ firsts gs
