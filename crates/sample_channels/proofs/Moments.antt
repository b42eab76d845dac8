-- The samples of two slices side by side: their number, the one at a place, a part of them, and a cut of both at the
-- same place; and that none is out of range. Assumes nothing.
use Prim.Native.Nat.{ℕ, zero, suc, ◌+◌, ◌<◌, min}
use mathlib.Core.Path.{◌≡◌, refl, ap}
use mathlib.Core.List.{List, [], ◌∷◌, ◌++◌}
use native.Mathlib.Numerals.{add-one}
use native.Mathlib.Omega.{arith}
use lib.ListN.{length, get_or, take, drop}
use lib.Seq.{drop-cons}
use lib.IntN.{ℤ, pos}
use Rattle.sample_channels.specs.declared.Moment.{Moment}
use Rattle.sample_channels.specs.Channels.{moment, still, moments}

pub moments_length : (xs ys : List ℤ) → length xs ≡ length ys → length (moments xs ys) ≡ length xs
unfolding moments
moments_length [] ys e = refl
moments_length (x ∷ xs) [] e = absurd (omega (arith, e))
moments_length (x ∷ xs) (y ∷ ys) e = ap suc (moments_length xs ys (omega (arith, e)))

-- as many as the shorter slice has
pub moments_shorter : (xs ys : List ℤ) → length (moments xs ys) ≡ min (length xs) (length ys)
unfolding moments
moments_shorter [] ys = omega arith
moments_shorter (x ∷ xs) [] = omega arith
moments_shorter (x ∷ xs) (y ∷ ys) = omega (arith, moments_shorter xs ys)

pub moments_at : (xs ys : List ℤ) (i : ℕ) → i < length xs → i < length ys → get_or (moments xs ys) i still ≡ moment (get_or xs i (pos 0)) (get_or ys i (pos 0))
unfolding moments
moments_at [] ys i h l = absurd (omega arith)
moments_at (x ∷ xs) [] i h l = absurd (omega arith)
moments_at (x ∷ xs) (y ∷ ys) zero h l = refl
moments_at (x ∷ xs) (y ∷ ys) (suc i) h l = moments_at xs ys i (omega arith) (omega arith)

none_right : (xs : List ℤ) → moments xs [] ≡ []
unfolding moments
none_right [] = refl
none_right (x ∷ xs) = refl

pub moments_take : (n : ℕ) (xs ys : List ℤ) → moments (take n xs) (take n ys) ≡ take n (moments xs ys)
unfolding moments
moments_take zero xs ys = refl
moments_take (suc n) [] ys = refl
moments_take (suc n) (x ∷ xs) [] = refl
moments_take (suc n) (x ∷ xs) (y ∷ ys) = ap (λ (l : List Moment). moment x y ∷ l) (moments_take n xs ys)

pub moments_drop : (n : ℕ) (xs ys : List ℤ) → moments (drop n xs) (drop n ys) ≡ drop n (moments xs ys)
unfolding moments
moments_drop zero xs ys = refl
moments_drop (suc n) [] ys = refl
moments_drop (suc n) (x ∷ xs) [] = none_right (drop n xs)
moments_drop (suc n) (x ∷ xs) (y ∷ ys) = moments_drop n xs ys

-- cut at the same place
pub moments_append : (xs ys us vs : List ℤ) → length xs ≡ length ys → moments (xs ++ us) (ys ++ vs) ≡ moments xs ys ++ moments us vs
unfolding moments
moments_append [] [] us vs e = refl
moments_append [] (y ∷ ys) us vs e = absurd (omega (arith, e))
moments_append (x ∷ xs) [] us vs e = absurd (omega (arith, e))
moments_append (x ∷ xs) (y ∷ ys) us vs e = ap (λ (l : List Moment). moment x y ∷ l) (moments_append xs ys us vs (omega (arith, e)))

-- a turn of a loop over both: what is left at i is the moment at i and what is left at i + 1
pub turn {ℓ} : {A : Type ℓ} (f : List Moment → A) (p : List Moment) (i : ℕ) → i < length p → f (drop i p) ≡ f (get_or p i still ∷ drop (i + 1) p)
turn f p i h = ap f (rw (add-one, drop-cons p i still))
