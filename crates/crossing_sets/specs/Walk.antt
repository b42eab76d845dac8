-- Document 01, "Reading a record": the walk that counts failures. `time` gives the moment of a place, τ is the
-- decorrelation time. Assumes nothing.
use Rattle.std.specs.Prelude.{ℕ, ◌+◌, Bool, cond, List, [], ◌∷◌, leb}

module _ (time : ℕ → ℕ) (τ : ℕ) where
  -- the time of x is at least τ after that of p
  abbrev pub since : ℕ → ℕ → Bool
  since p x = leb (time p + τ) (time x)

  -- those that are counted after one counted at p
  unfoldable pub later : ℕ → List ℕ → List ℕ
  later p [] = []
  later p (x ∷ l) = cond (since p x) (x ∷ later x l) (later p l)

  -- the first is counted; a later one if it is at least τ after the last counted one
  unfoldable pub walk : List ℕ → List ℕ
  walk [] = []
  walk (x ∷ l) = x ∷ later x l
