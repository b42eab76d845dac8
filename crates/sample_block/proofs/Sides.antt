-- The ends of samples say whether one of them is above a level: the lowest end grows deeper by samples below 0 alone,
-- the highest by the others. Assumes nothing.
use Prim.Native.Nat.{ℕ, zero, suc}
use mathlib.Core.Path.{◌≡◌, refl, sym, ap, ◌∙◌}
use mathlib.Core.Bool.{Bool, true, false, cond, ◌||◌}
use mathlib.Core.List.{List, [], ◌∷◌, foldl}
use native.Mathlib.Omega.{arith}
use lib.Dec.{ltb}
use lib.IntN.{ℤ, pos, negsuc, neg_ℤ}
use lib.Signed.{lt_z}
use borrow.Author.Tests.{ltb-true, ltb-false, lt-ltb, le-ltb}
use Rattle.sample_size.specs.Above.{above}
use Rattle.sample_block.specs.Block.{lower, higher, lowest, highest, any_above}

-- ---- a lower end is -d
low_pos : (n d : ℕ) → lt_z (pos n) (neg_ℤ (pos d)) ≡ false
low_pos n zero = le-ltb n 0 (omega arith)
low_pos n (suc d) = refl

low_negsuc : (n d : ℕ) → lt_z (negsuc n) (neg_ℤ (pos d)) ≡ ltb d (suc n)
low_negsuc n zero = sym (lt-ltb 0 (suc n) (omega arith))
low_negsuc n (suc d) = go (ltb d n) refl
  where
    go : (b : Bool) → ltb d n ≡ b → b ≡ ltb (suc d) (suc n)
    go true e = sym (lt-ltb (suc d) (suc n) (omega (arith, ltb-true d n e)))
    go false e = sym (le-ltb (suc d) (suc n) (omega (arith, ltb-false d n e)))

above_low : (a d : ℕ) → above a (neg_ℤ (pos d)) ≡ ltb a d
above_low a zero = refl
above_low a (suc d) = refl

-- ---- of two numbers the greater is above the level if one is
greater : (a m n : ℕ) (b : Bool) → ltb m n ≡ b → ltb a (cond b n m) ≡ (ltb a m || ltb a n)
greater a m n b e = go b e (ltb a m) refl
  where
    go : (b : Bool) → ltb m n ≡ b → (q : Bool) → ltb a m ≡ q → ltb a (cond b n m) ≡ (q || ltb a n)
    go true e true f = lt-ltb a n (omega (arith, ltb-true m n e, ltb-true a m f))
    go true e false f = refl
    go false e true f = f
    go false e false f = f ∙ sym (le-ltb a n (omega (arith, ltb-false m n e, ltb-false a m f)))

-- ---- or, turned round
second_last : (p q r s : Bool) → ((p || (q || r)) || s) ≡ ((p || q) || (r || s))
second_last true q r s = refl
second_last false true r s = refl
second_last false false r s = refl

first_last : (p q r s : Bool) → (((p || r) || q) || s) ≡ ((p || q) || (r || s))
first_last true q r s = refl
first_last false true true s = refl
first_last false true false s = refl
first_last false false r s = go r
  where
    go : (r : Bool) → ((r || false) || s) ≡ (r || s)
    go true = refl
    go false = refl

-- from ends -d and g on
sides : (a d g : ℕ) (xs : List ℤ) → (above a (foldl lower (neg_ℤ (pos d)) xs) || above a (foldl higher (pos g) xs)) ≡ ((ltb a d || ltb a g) || any_above a xs)
unfolding any_above
sides a d g [] = rw (above_low a d) (go (ltb a d || ltb a g))
  where
    go : (b : Bool) → b ≡ (b || false)
    go true = refl
    go false = refl
sides a d g (pos n ∷ xs) = rw (low_pos n d) (go (ltb g n) refl (λ (k : ℕ). sides a d k xs))
  where
    go : (b : Bool) → ltb g n ≡ b → ((k : ℕ) → (above a (foldl lower (neg_ℤ (pos d)) xs) || above a
        (foldl higher (pos k) xs)) ≡ ((ltb a d || ltb a k) || any_above a xs)) →
        (above a (foldl lower (neg_ℤ (pos d)) xs) || above a (foldl higher (cond b (pos n) (pos g)) xs))
        ≡ ((ltb a d || ltb a g) || (ltb a n || any_above a xs))
    go true e s = s n ∙ ap (λ (q : Bool). (ltb a d || q) || any_above a xs) (greater a g n true e) ∙ second_last (ltb a d) (ltb a g) (ltb a n) (any_above a xs)
    go false e s = s g ∙ ap (λ (q : Bool). (ltb a d || q) || any_above a xs) (greater a g n false e) ∙ second_last (ltb a d) (ltb a g) (ltb a n) (any_above a xs)
sides a d g (negsuc n ∷ xs) = rw (low_negsuc n d) (go (ltb d (suc n)) refl (λ (k : ℕ). sides a k g xs))
  where
    go : (b : Bool) → ltb d (suc n) ≡ b → ((k : ℕ) → (above a (foldl lower (neg_ℤ (pos k)) xs) || above a
        (foldl higher (pos g) xs)) ≡ ((ltb a k || ltb a g) || any_above a xs)) →
        (above a (foldl lower (cond b (negsuc n) (neg_ℤ (pos d))) xs) || above a (foldl higher (pos g) xs))
        ≡ ((ltb a d || ltb a g) || (ltb a (suc n) || any_above a xs))
    go true e s = s (suc n) ∙ ap (λ (q : Bool). (q || ltb a g) || any_above a xs) (greater a d (suc n) true e) ∙ first_last (ltb a d) (ltb a g) (ltb a (suc n)) (any_above a xs)
    go false e s = s d ∙ ap (λ (q : Bool). (q || ltb a g) || any_above a xs) (greater a d (suc n) false e) ∙ first_last (ltb a d) (ltb a g) (ltb a (suc n)) (any_above a xs)

pub ends_say : (a : ℕ) (xs : List ℤ) → (above a (lowest xs) || above a (highest xs)) ≡ any_above a xs
ends_say a xs = sides a 0 0 xs ∙ rw (le-ltb a 0 (omega arith))
