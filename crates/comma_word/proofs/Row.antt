-- The bytes of a text from a place on, one by one, and side by side. Assumes nothing.
use mathlib.Core.Path.{◌≡◌, refl, ap}
use mathlib.Core.List.{List, [], ◌∷◌}
use Prim.Native.Nat.{ℕ, zero, suc, ◌+◌, ◌-◌, ◌*◌, ◌≤◌, ◌<◌}
use native.Mathlib.Nat.{add-zero, add-suc, add_assoc}
use native.Mathlib.Omega.{arith}
use lib.ListN.{length, get_or, take, drop}
use lib.Seq.{drop-cons}
use Rattle.truth.proofs.Cases.{by_order}
use Rattle.comma_word.specs.Word.{word, Small}

-- k bytes, from n after a place on
unfoldable pub row : List ℕ → ℕ → ℕ → ℕ → List ℕ
row s at n zero = []
row s at n (suc k) = get_or s (at + n) 0 ∷ row s at (suc n) k

pub row_length : (s : List ℕ) (at n k : ℕ) → length (row s at n k) ≡ k
unfolding row
row_length s at n zero = refl
row_length s at n (suc k) = ap suc (row_length s at (suc n) k)

taken : (s : List ℕ) (at n k : ℕ) → at + n + k ≤ length s → take k (drop (at + n) s) ≡ row s at n k
unfolding row
taken s at n zero h = refl
taken s at n (suc k) h =
    rw (drop-cons s (at + n) 0 (omega arith)) (ap (λ bs. get_or s (at + n) 0 ∷ bs) (rw (← add-suc at n) (taken s at (suc n) k (omega arith))))

module _ (s : List ℕ) (at : ℕ) where
  pub row_is : (k : ℕ) → at + k ≤ length s → take k (drop at s) ≡ row s at 0 k
  row_is k h = rw add-zero at (taken s at 0 k (omega arith))

  pub eight_beside : at + 8 ≤ length s
      → word (get_or s at 0 ∷ get_or s (at + 1) 0 ∷ get_or s (at + 2) 0 ∷ get_or s (at + 3) 0 ∷ []) * 4294967296 + word
      (get_or s (at + 4) 0 ∷ get_or s (at + 5) 0 ∷ get_or s (at + 6) 0 ∷ get_or s (at + 7) 0 ∷ [])
      ≡ word (take 8 (drop at s))
  unfolding word row
  eight_beside h = rw (row_is 8 h, add-zero) (omega arith)

four_small : (s : List ℕ) (at : ℕ) → get_or s at 0 < 256 → get_or s (at + 1) 0 < 256 → get_or s (at + 2) 0 < 256 → get_or s (at + 3) 0 < 256 → Small s at 4
four_small s at a b c d zero l = rw add-zero a
four_small s at a b c d (suc zero) l = b
four_small s at a b c d (suc (suc zero)) l = c
four_small s at a b c d (suc (suc (suc zero))) l = d
four_small s at a b c d (suc (suc (suc (suc n)))) l = absurd (omega arith)

pub eight_small : (s : List ℕ) (at : ℕ) → get_or s at 0 < 256 → get_or s (at + 1) 0 < 256 → get_or s (at + 2) 0 < 256 → get_or s (at + 3) 0 < 256
    → get_or s (at + 4) 0 < 256 → get_or s (at + 5) 0 < 256 → get_or s (at + 6) 0 < 256 → get_or s (at + 7) 0 < 256 → Small s at 8
eight_small s at a b c d e f g h n l =
    by_order n 4
    (λ low. four_small s at a b c d n low)
    (λ high.
    let place : at + 4 + (n - 4) ≡ at + n = omega arith in
    rw place at (four_small s (at + 4) e (rw (add_assoc at 4 1) f) (rw (add_assoc at 4 2) g) (rw (add_assoc at 4 3) h) (n - 4) (omega arith)))
