-- What is still to come from a machine of groups, and the law of its step: what comes of y and the rest is what the
-- step gives, if anything, and what comes of the rest after it. Assumes nothing.
use Prim.Native.Nat.{ℕ, ◌+◌, ◌≤◌, ◌<◌}
use mathlib.Core.Path.{◌≡◌, refl}
use mathlib.Core.Bool.{Bool, true, false, cond, not, ◌&&◌}
use mathlib.Core.List.{List, [], ◌∷◌, drop_last}
use native.Mathlib.Omega.{arith}
use lib.ListN.{drop}
use lib.Dec.{ltb, eqb}
use borrow.Author.Tests.{lt-ltb, le-ltb, eq-eqb, ne_eqb, ltb-true, ltb-false, eqb-true, eqb-false}
use Rattle.peak_groups.specs.declared.Peak.{Peak}
use Rattle.peak_groups.specs.declared.Group.{Group}
use Rattle.crossing_sets.specs.Groups.{groups}
use Rattle.peak_groups.specs.Groups.{larger, tops}
use Rattle.peak_groups.specs.Machine.{turned, gave, closed}
use Rattle.peak_groups.proofs.Groups.{from, tops_from, not_last}

-- h has the groups of g, or one more
abbrev pub Next : Group → Group → Type 0
Next g h = (g.opened ≤ h.opened) × (h.opened ≤ g.opened + 1)

pub turned_next : (b : Bool) (g : Group) (y : Peak) → Next g (turned b g y)
unfolding turned
turned_next b g y = go (ltb 0 g.opened && b)
  where
    go : (k : Bool) → Next g (cond k (record { opened = g.opened; last = y; best = larger g.best y }) (record { opened = g.opened + 1; last = y; best = y }))
    go true = (omega arith, omega arith)
    go false = (omega arith, omega arith)

more : (a b : ℕ) → a ≤ b → (a ≡ b → ⊥) → 0 < a → 1 < b
more a b l d o = omega arith

pub and-false : (a : Bool) → (a && false) ≡ false
and-false true = refl
and-false false = refl

module _ (joins : Peak → Peak → Bool) where
  -- of all groups, the open one included
  unfoldable pub left : Group → List Peak → List Peak
  left g l = cond (ltb 0 g.opened) (from joins g.best g.last l) (tops joins l)

  pub left_next : (g : Group) (y : Peak) (l : List Peak) → (let h = turned (joins g.last y) g y in left g (y ∷ l) ≡ cond (closed g h.opened) (g.best ∷ left h l) (left h l))
  unfolding left turned from
  left_next g y l = go (ltb 0 g.opened) (joins g.last y) refl refl
    where
      go : (a k : Bool) → ltb 0 g.opened ≡ a → joins g.last y ≡ k → (let h = turned (joins g.last y) g y in left g (y ∷ l) ≡ cond (closed g h.opened) (g.best ∷ left h l) (left h l))
      go true true e f = rw (e, f, eq-eqb g.opened g.opened refl, e)
      go true false e f = rw (e, f, ne_eqb g.opened (g.opened + 1) (λ z. omega arith), lt-ltb 0 (g.opened + 1) (omega arith))
      go false k e f = rw (e, lt-ltb 0 (g.opened + 1) (omega arith)) (tops_from joins y l)

  -- the open group is to come
  open_last : (p : Peak) (h : Group) (m : List Peak) → 0 < h.opened → drop_last (p ∷ left h m) ≡ p ∷ drop_last (left h m)
  unfolding left
  open_last p h m o = rw (lt-ltb 0 h.opened o) (not_last joins p h.best h.last m)

  -- of the groups without the first and the last
  unfoldable pub within : Group → List Peak → List Peak
  within g l = drop_last (cond (ltb 1 g.opened) (left g l) (drop 1 (left g l)))

  module _ (g h : Group) (l m : List Peak) (n : Next g h) where
    pub within_next : left g l ≡ cond (closed g h.opened) (g.best ∷ left h m) (left h m) → within g l ≡ cond (gave g h) (g.best ∷ within h m) (within h m)
    unfolding within
    within_next e = rw e (go (ltb 1 g.opened) (eqb g.opened h.opened) (ltb 0 g.opened) refl refl refl)
      where
        go : (b d a : Bool) → ltb 1 g.opened ≡ b → eqb g.opened h.opened ≡ d → ltb 0 g.opened ≡ a →
            drop_last (cond b (cond (a && not d) (g.best ∷ left h m) (left h m))
            (drop 1 (cond (a && not d) (g.best ∷ left h m) (left h m)))) ≡ cond (b && not d) (g.best ∷ within h m)
            (within h m)
        go true true a p q r = rw (and-false a, lt-ltb 1 h.opened (omega (arith, ltb-true 1 g.opened p, eqb-true g.opened h.opened q)))
        go true false true p q r = rw (lt-ltb 1 h.opened (omega (arith, ltb-true 1 g.opened p))) (open_last g.best h m (omega (arith, ltb-true 1 g.opened p)))
        go true false false p q r = absurd (omega (arith, ltb-true 1 g.opened p, ltb-false 0 g.opened r))
        go false true a p q r = rw (and-false a, le-ltb 1 h.opened (omega (arith, ltb-false 1 g.opened p, eqb-true g.opened h.opened q)))
        go false false true p q r = rw (lt-ltb 1 h.opened (more g.opened h.opened n.0 (eqb-false g.opened h.opened q) (ltb-true 0 g.opened r)))
        go false false false p q r = rw (le-ltb 1 h.opened (omega (arith, ltb-false 0 g.opened r)))

-- fed nothing, a machine gives nothing
pub closed_none : (g : Group) → closed g g.opened ≡ false
closed_none g = rw (eq-eqb g.opened g.opened refl) (and-false (ltb 0 g.opened))

-- at the end nothing is left between the first and the last group
pub within_last : (j : Peak → Peak → Bool) (g : Group) → within j g [] ≡ []
unfolding within left from tops groups
within_last j g = go (ltb 1 g.opened) (ltb 0 g.opened)
  where
    go : (b a : Bool) → drop_last (cond b (cond a (g.best ∷ []) []) (drop 1 (cond a (g.best ∷ []) []))) ≡ []
    go true true = refl
    go true false = refl
    go false true = refl
    go false false = refl
