-- Document 01, "Reading a record": the largest number of crossings pairwise at least the decorrelation time apart,
-- defined without the walk. A crossing is known by its place; `time` gives the moment of a place and τ is the
-- decorrelation time. Assumes nothing.
use Rattle.std.specs.Prelude.{ℕ, ◌+◌, ◌≤◌, List, [], ◌∷◌, length}

-- s is a choice from l: l with some members left out
pub data Choice : List ℕ → List ℕ → Type 0 where
  none : Choice [] []
  keep : {x : ℕ} {s l : List ℕ} → Choice s l → Choice (x ∷ s) (x ∷ l)
  skip : {x : ℕ} {s l : List ℕ} → Choice s l → Choice s (x ∷ l)

module _ (time : ℕ → ℕ) (τ : ℕ) where
  -- each member's time is at least τ after that of x
  abbrev pub After : ℕ → List ℕ → Type 0
  After x [] = Unit {0}
  After x (y ∷ l) = (time x + τ ≤ time y) × After x l

  -- the members, in order, are pairwise at least τ apart
  abbrev pub Apart : List ℕ → Type 0
  Apart [] = Unit {0}
  Apart (x ∷ l) = After x l × Apart l

  -- s is a choice from l whose members are pairwise apart, and no such choice has more
  pub record LargestSet (l s : List ℕ) : Type 0 where
    pub chosen : Choice s l
    pub apart : Apart s
    pub most : (t : List ℕ) → Choice t l → Apart t → length t ≤ length s
