-- Document 02 [11], what a run of one sign is, said of the samples and without the way it is found. Assumes nothing.
use Rattle.std.specs.Prelude.{ℕ, ◌+◌, ◌≡◌, Bool, List, [], ◌∷◌, ◌++◌, ℤ, nat_abs, pos}
use Rattle.std.specs.Int.Signed.{lt_z}
use Rattle.peak_groups.specs.declared.Peak.{Peak}
use Rattle.peak_groups.specs.Largest.{All}

-- p is the sample x at t ms: its magnitude, and its sign; a zero has the sign of the sample before it, s
pub record IsPoint (s : Bool) (t : ℕ) (x : ℤ) (p : Peak) : Type 0 where
  pub size : p.size ≡ nat_abs x
  pub time : p.time ≡ t
  pub sign : ¬ (nat_abs x ≡ 0) → p.below ≡ lt_z x (pos 0)
  pub zero : nat_abs x ≡ 0 → p.below ≡ s

-- the samples xs from t ms on, D ms apart
pub data IsPoints (D : ℕ) : Bool → ℕ → List ℤ → List Peak → Type 0 where
  end : {s : Bool} {t : ℕ} → IsPoints D s t [] []
  one : {s : Bool} {t : ℕ} {x : ℤ} {xs : List ℤ} {p : Peak} {ps : List Peak} → IsPoint s t x p → IsPoints D p.below (t + D) xs ps
      → IsPoints D s t (x ∷ xs) (p ∷ ps)

-- a run starts with a sample that is not zero, and has none of the other sign
pub data OneSign : List Peak → Type 0 where
  run : {p : Peak} {g : List Peak} → ¬ (p.size ≡ 0) → All (λ q. q.below ≡ p.below) g → OneSign (p ∷ g)

-- each of several is one
abbrev pub EachOneSign : List (List Peak) → Type 0
EachOneSign [] = Unit {0}
EachOneSign (g ∷ gs) = OneSign g × EachOneSign gs

-- rest is l without the zeros at its start
pub record WithoutZeros (l rest : List Peak) : Type 0 where
  pub zeros : List Peak
  pub is : l ≡ zeros ++ rest
  pub all_zero : All (λ q. q.size ≡ 0) zeros
  pub starts : (p : Peak) (m : List Peak) → rest ≡ p ∷ m → ¬ (p.size ≡ 0)
