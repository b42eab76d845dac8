-- A turn of a loop: what was counted, summed or written and what is to come, together, stay. Assumes nothing.
use Prim.Native.Nat.{ℕ, ◌+◌, ◌-◌, ◌≤◌, ◌<◌}
use mathlib.Core.Path.{◌≡◌, refl, ap, ◌∙◌}
use mathlib.Core.Bool.{Bool, true, false, cond, not, ◌&&◌}
use mathlib.Core.List.{List, [], ◌∷◌, map}
use native.Mathlib.Numerals.{add-one}
use native.Mathlib.Omega.{arith}
use lib.ListN.{length, set, length-set}
use lib.Seq.{sets}
use lib.Dec.{ltb, eqb}
use borrow.Author.Tests.{ne_eqb, ltb-true, ltb-false, eqb-true, eqb-false}
use Rattle.peak_groups.specs.declared.Peak.{Peak}
use Rattle.peak_groups.specs.declared.Group.{Group}
use Rattle.peak_groups.specs.Machine.{closed}
use Rattle.peak_groups.proofs.Left.{Next}
use Rattle.peak_envelope.specs.Step.{noting}

count_next : (b : Bool) (k : ℕ) (p : Peak) (l : List Peak) → cond b (k + 1) k + length l ≡ k + length (cond b (p ∷ l) l)
count_next true k p l = omega arith
count_next false k p l = refl

-- ---- the slices
-- the next place moves on where a chain was closed
next_place : (g h : Group) → Next g h → h.opened - 1 ≡ cond (closed g h.opened) (g.opened - 1 + 1) (g.opened - 1)
next_place g h n = go (ltb 0 g.opened) (eqb g.opened h.opened) refl refl
  where
    go : (a d : Bool) → ltb 0 g.opened ≡ a → eqb g.opened h.opened ≡ d → h.opened - 1 ≡ cond (a && not d) (g.opened - 1 + 1) (g.opened - 1)
    go true true p q = omega (arith, eqb-true g.opened h.opened q)
    go true false p q = more g.opened h.opened n.0 n.1 (eqb-false g.opened h.opened q) (ltb-true 0 g.opened p)
      where
        more : (a b : ℕ) → a ≤ b → b ≤ a + 1 → (a ≡ b → ⊥) → 0 < a → b - 1 ≡ a - 1 + 1
        more a b l m d o = omega arith
    go false d p q = omega (arith, ltb-false 0 g.opened p)

module _ (g h : Group) (n : Next g h) (l : List Peak) where
  pub place_next : h.opened - 1 + length l ≡ g.opened - 1 + length (cond (closed g h.opened) (g.best ∷ l) l)
  place_next = ap (λ (k : ℕ). k + length l) (next_place g h n) ∙ count_next (closed g h.opened) (g.opened - 1) g.best l

  pub sets_next : (f : Peak → ℕ) (slice : List ℕ) → sets (noting g h.opened (f g.best) slice) (h.opened - 1)
      (map f l) ≡ sets slice (g.opened - 1) (map f (cond (closed g h.opened) (g.best ∷ l) l))
  sets_next f slice = ap (λ (k : ℕ). sets (noting g h.opened (f g.best) slice) k (map f l)) (next_place g h n) ∙ go (closed g h.opened)
    where
      go : (b : Bool) → sets (cond b (set slice (g.opened - 1) (f g.best)) slice) (cond b (g.opened - 1 + 1)
          (g.opened - 1)) (map f l) ≡ sets slice (g.opened - 1) (map f (cond b (g.best ∷ l) l))
      go true = rw add-one
      go false = refl

pub noting_length : (g : Group) (o v : ℕ) (slice : List ℕ) → length (noting g o v slice) ≡ length slice
noting_length g o v slice = go (closed g o)
  where
    go : (b : Bool) → length (cond b (set slice (g.opened - 1) v) slice) ≡ length slice
    go true = length-set slice (g.opened - 1) v
    go false = refl

-- the open chain is closed at the end
module _ (g : Group) where
  pub place_last : g.opened - 1 + length (cond (ltb 0 g.opened) (g.best ∷ []) []) ≡ g.opened
  place_last = go (ltb 0 g.opened) refl
    where
      go : (a : Bool) → ltb 0 g.opened ≡ a → g.opened - 1 + length (cond a (g.best ∷ []) []) ≡ g.opened
      go true e = omega (arith, ltb-true 0 g.opened e)
      go false e = omega (arith, ltb-false 0 g.opened e)

  pub sets_last : (f : Peak → ℕ) (slice : List ℕ) → noting g (g.opened + 1) (f g.best) slice ≡ sets slice (g.opened - 1) (map f (cond (ltb 0 g.opened) (g.best ∷ []) []))
  sets_last f slice = rw (ne_eqb g.opened (g.opened + 1) (λ z. omega arith)) (go (ltb 0 g.opened))
    where
      go : (a : Bool) → cond (a && true) (set slice (g.opened - 1) (f g.best)) slice ≡ sets slice (g.opened - 1) (map f (cond a (g.best ∷ []) []))
      go true = refl
      go false = refl
