-- A block of both channels, from i to e: its moments are those of the record, and whether a sample of it is bad is told
-- of the record. Assumes nothing.
use Prim.Native.Nat.{ℕ, ◌+◌, ◌-◌, ◌≤◌, ◌<◌}
use mathlib.Core.Path.{◌≡◌, refl, sym, ap, ◌∙◌}
use mathlib.Core.Bool.{Bool, true, false, ◌||◌}
use mathlib.Core.List.{List, ◌++◌}
use native.Mathlib.Omega.{arith}
use lib.Dec.{ltb}
use lib.IntN.{ℤ}
use lib.ListN.{length, take, drop, take-append-drop, length-append}
use borrow.Author.Tests.{ltb-true, ltb-false, lt-ltb, le-ltb}
use Rattle.sample_block.proofs.Cut.{block_length, block_cut}
use Rattle.sample_range.specs.Range.{first_bad}
use Rattle.sample_range.proofs.Bad.{bad_append, bad_left, bad_within}
use Rattle.sample_channels.specs.declared.Moment.{Moment}
use Rattle.sample_channels.specs.Channels.{moments, any_bad}
use Rattle.sample_channels.proofs.Moments.{moments_length, moments_take, moments_drop}

-- one channel, whose first i samples are not bad
module _ (xs : List ℤ) (i e : ℕ) (h : i ≤ e) (l : e ≤ length xs) (v : i + first_bad (drop i xs) ≡ first_bad xs) where
  bad_here : first_bad (take (e - i) (drop i xs)) < length (take (e - i) (drop i xs)) → first_bad xs < length xs
  bad_here b =
      let f = ap first_bad (block_cut xs i e h l) ∙ bad_left (take (e - i) (drop i xs)) (drop e xs) b in
      omega (arith, f, b, block_length xs i e h l)

  pub good_on : first_bad (take (e - i) (drop i xs)) ≡ length (take (e - i) (drop i xs)) → e + first_bad (drop e xs) ≡ first_bad xs
  good_on g = omega (arith, block_length xs i e h l, ap first_bad (block_cut xs i e h l) ∙ bad_append (take (e - i) (drop i xs)) (drop e xs) g)

either_true : (b c d f : Bool) → (b ≡ true → d ≡ true) → (c ≡ true → f ≡ true) → (b || c) ≡ true → (d || f) ≡ true
either_true true c d f p q e = rw (p refl)
either_true false c true f p q e = refl
either_true false c false f p q e = q e

module _ (xs ys : List ℤ) (same : length xs ≡ length ys) (i e : ℕ) (h : i ≤ e) (l : e ≤ length xs) where
  pub block_equal : length (take (e - i) (drop i xs)) ≡ length (take (e - i) (drop i ys))
  block_equal = block_length xs i e h l ∙ sym (block_length ys i e h (omega arith))

  pub moments_cut : drop i (moments xs ys) ≡ moments (take (e - i) (drop i xs)) (take (e - i) (drop i ys)) ++ drop e (moments xs ys)
  moments_cut =
      block_cut (moments xs ys) i e h (omega (arith, moments_length xs ys same))
      ∙ ap (λ (p : List Moment). p ++ drop e (moments xs ys)) (sym (moments_take (e - i) (drop i xs) (drop i ys) ∙ ap (take (e - i)) (moments_drop i xs ys)))

  pub block_bad : i + first_bad (drop i xs) ≡ first_bad xs → i + first_bad (drop i ys) ≡ first_bad ys → any_bad (take (e - i) (drop i xs)) (take (e - i) (drop i ys)) ≡ true → any_bad xs ys ≡ true
  block_bad v w =
      let m : e ≤ length ys = omega arith in
      either_true (ltb (first_bad (take (e - i) (drop i xs))) (length (take (e - i) (drop i xs))))
      (ltb (first_bad (take (e - i) (drop i ys))) (length (take (e - i) (drop i ys)))) (ltb (first_bad xs)
      (length xs)) (ltb (first_bad ys) (length ys))
      (λ t. lt-ltb (first_bad xs) (length xs) (bad_here xs i e h l v (ltb-true _ _ t)))
      (λ t. lt-ltb (first_bad ys) (length ys) (bad_here ys i e h m w (ltb-true _ _ t)))

-- a record and a place in it: a sample is bad if one before it is, or one from it on
one_parts : (p q : List ℤ) → ltb (first_bad (p ++ q)) (length (p ++ q)) ≡ (ltb (first_bad p) (length p) || ltb (first_bad q) (length q))
one_parts p q = go (ltb (first_bad p) (length p)) refl (ltb (first_bad q) (length q)) refl
  where
    go : (b : Bool) → ltb (first_bad p) (length p) ≡ b → (c : Bool) → ltb (first_bad q) (length q) ≡ c → ltb (first_bad (p ++ q)) (length (p ++ q)) ≡ (b || c)
    go true e c f = let l = ltb-true (first_bad p) (length p) e in lt-ltb (first_bad (p ++ q)) (length (p ++ q)) (omega (arith, bad_left p q l, length-append p q))
    go false e true f =
        let g : first_bad p ≡ length p = omega (arith, bad_within p, ltb-false (first_bad p) (length p) e) in
        lt-ltb (first_bad (p ++ q)) (length (p ++ q)) (omega (arith, bad_append p q g, length-append p q, ltb-true (first_bad q) (length q) f))
    go false e false f =
        let g : first_bad p ≡ length p = omega (arith, bad_within p, ltb-false (first_bad p) (length p) e) in
        le-ltb (first_bad (p ++ q)) (length (p ++ q)) (omega (arith, bad_append p q g, length-append p q, ltb-false (first_bad q) (length q) f))

crossed : (a b c d : Bool) → ((a || b) || (c || d)) ≡ ((a || c) || (b || d))
crossed true b c d = refl
crossed false true true d = refl
crossed false true false d = refl
crossed false false c d = refl

pub any_parts : (xs ys : List ℤ) (k : ℕ) → any_bad xs ys ≡ (any_bad (take k xs) (take k ys) || any_bad (drop k xs) (drop k ys))
any_parts xs ys k =
    ap (λ (l : List ℤ). ltb (first_bad l) (length l) || ltb (first_bad ys) (length ys)) (sym (take-append-drop k xs))
    ∙ ap (λ (l : List ℤ). ltb (first_bad (take k xs ++ drop k xs)) (length (take k xs ++ drop k xs)) || ltb (first_bad l) (length l)) (sym (take-append-drop k ys))
    ∙ rw (one_parts (take k xs) (drop k xs), one_parts (take k ys) (drop k ys)) (crossed (ltb (first_bad (take k xs))
    (length (take k xs))) (ltb (first_bad (drop k xs)) (length (drop k xs))) (ltb (first_bad (take k ys))
    (length (take k ys))) (ltb (first_bad (drop k ys)) (length (drop k ys))))
