-- The list that `downwards` gives is the list sorted (`is_sorted`), and any other way to sort gives it too (`sorted_is`).
-- Assumes nothing.
use Prim.Native.Nat.{ℕ, zero, suc, ◌+◌, ◌≤◌, ◌<◌}
use mathlib.Core.Path.{◌≡◌, refl, sym, ap, ◌∙◌}
use mathlib.Core.Bool.{cond}
use mathlib.Core.List.{List, [], ◌∷◌, ◌++◌}
use native.Mathlib.Omega.{arith}
use lib.Dec.{eqb, leb}
use lib.ListN.{get_or, length, take, drop}
use lib.Seq.{length-take-le, take-append_seam}
use borrow.Author.Tests.{leb-true, leb-false}
use Rattle.truth.proofs.Cases.{by_test}
use Rattle.sorting.specs.Sorting.{count, Downwards, Sorted}
use Rattle.sorting.proofs.Unique.{sort_unique}
use Rattle.reach_files.specs.Down.{placed, downwards}

-- how often a value stands there
placed_count : (x y : ℕ) (ys : List ℕ) → count x (placed y ys) ≡ cond (eqb x y) 1 0 + count x ys
unfolding placed count
placed_count x y [] = refl
placed_count x y (z ∷ ys) =
    by_test (leb z y) (λ e. rw e refl) (λ e. rw e (omega (arith, placed_count x y ys)))

-- a list that lies downwards, value by value
abbrev Falls : ℕ → List ℕ → Type 0
Falls v [] = Unit {0}
Falls v (x ∷ xs) = (x ≤ v) × Falls x xs

lower : (v w : ℕ) (xs : List ℕ) → v ≤ w → Falls v xs → Falls w xs
lower v w [] h f = tt
lower v w (x ∷ xs) h f = (omega (arith, f.0), f.1)

placed_falls : (v y : ℕ) (ys : List ℕ) → y ≤ v → Falls v ys → Falls v (placed y ys)
unfolding placed
placed_falls v y [] h f = (h, tt)
placed_falls v y (z ∷ ys) h f =
    by_test (leb z y)
    (λ e. rw e (h, (leb-true z y e, f.1)))
    (λ e. rw e (f.0, placed_falls z y ys (omega (arith, leb-false z y e)) f.1))

-- and by its places
at_most : (v : ℕ) (xs : List ℕ) (j : ℕ) → Falls v xs → j < length xs → get_or xs j 0 ≤ v
at_most v [] j f h = absurd (omega arith)
at_most v (x ∷ xs) zero f h = f.0
at_most v (x ∷ xs) (suc j) f h = omega (arith, f.0, at_most x xs j f.1 (omega arith))

by_places : (v : ℕ) (xs : List ℕ) → Falls v xs → Downwards xs
by_places v [] f i j h l = absurd (omega arith)
by_places v (x ∷ xs) f zero zero h l = absurd (omega arith)
by_places v (x ∷ xs) f zero (suc j) h l = at_most x xs j f.1 (omega arith)
by_places v (x ∷ xs) f (suc i) zero h l = absurd (omega arith)
by_places v (x ∷ xs) f (suc i) (suc j) h l = by_places x xs f.1 i j (omega arith) (omega arith)

-- the largest of a list is a bound
top : List ℕ → ℕ
top [] = 0
top (x ∷ xs) = x + top xs

down_falls : (xs : List ℕ) → Falls (top xs) (downwards xs)
unfolding downwards top
down_falls [] = tt
down_falls (x ∷ xs) = placed_falls (x + top xs) x (downwards xs) (omega arith) (lower (top xs) (x + top xs) (downwards xs) (omega arith) (down_falls xs))

down_same : (x : ℕ) (xs : List ℕ) → count x xs ≡ count x (downwards xs)
unfolding downwards count
down_same x [] = refl
down_same x (y ∷ ys) = ap (λ (n : ℕ). cond (eqb x y) 1 0 + n) (down_same x ys) ∙ sym (placed_count x y (downwards ys))

pub is_sorted : (xs : List ℕ) → Sorted xs (downwards xs)
is_sorted xs = record { downwards = by_places (top xs) (downwards xs) (down_falls xs); same = λ x. down_same x xs }

pub sorted_is : (xs ys : List ℕ) → Sorted xs ys → ys ≡ downwards xs
sorted_is xs ys s = sort_unique xs ys (downwards xs) s (is_sorted xs)

placed_length : (y : ℕ) (ys : List ℕ) → length (placed y ys) ≡ suc (length ys)
unfolding placed
placed_length y [] = refl
placed_length y (z ∷ ys) = by_test (leb z y) (λ e. rw e refl) (λ e. rw e (ap suc (placed_length y ys)))

pub down_length : (xs : List ℕ) → length (downwards xs) ≡ length xs
unfolding downwards
down_length [] = refl
down_length (x ∷ xs) = placed_length x (downwards xs) ∙ ap suc (down_length xs)

-- the first n of a list sorted, with the rest after them
module _ (n : ℕ) (list S : List ℕ) (h : n ≤ length list) (s : Sorted (take n list) S) where
  pub sorted_front : S ≡ downwards (take n list)
  sorted_front = sorted_is (take n list) S s

  sorted_long : length S ≡ n
  sorted_long = ap length sorted_front ∙ down_length (take n list) ∙ length-take-le n list h

  pub front_is : take n (S ++ drop n list) ≡ S
  front_is = ap (λ (k : ℕ). take k (S ++ drop n list)) (sym sorted_long) ∙ take-append_seam S (drop n list)

  pub front_long : n ≡ length (take n (S ++ drop n list))
  front_long = sym (ap length front_is ∙ sorted_long)
