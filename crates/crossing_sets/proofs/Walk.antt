-- The walk finds a largest set. It is a choice, its members are apart, and no choice of members apart is longer: by
-- induction on the list, a choice that lies wholly after p is no longer than what the walk finds after p (`Bound`).
-- Where the walk takes x, a choice without x loses only its first member when cut down to those after x (`one_more`),
-- and the walk has gained x. Assumes nothing.
use Prim.Native.Nat.{ℕ, suc, ◌+◌, ◌≤◌, zero-le, suc-le-suc}
use mathlib.Core.Path.{◌≡◌, refl}
use mathlib.Core.List.{List, [], ◌∷◌}
use mathlib.Core.Bool.{Bool, true, false, cond}
use native.Mathlib.Omega.{arith}
use lib.ListN.{length}
use borrow.Author.Tests.{leb-true, le-leb}
use Rattle.crossing_sets.specs.Choice.{Choice, none, keep, skip, After, Apart, LargestSet}
use Rattle.crossing_sets.specs.Walk.{since, later, walk}
use Rattle.crossing_sets.proofs.Rising.{From, Rising}

module _ (time : ℕ → ℕ) (τ : ℕ) where
  later_chosen : (p : ℕ) (l : List ℕ) → Choice (later time τ p l) l
  unfolding later
  later_chosen p [] = none
  later_chosen p (x ∷ l) = go (since time τ p x) (later_chosen x l) (later_chosen p l)
    where
      go : (b : Bool) → Choice (later time τ x l) l → Choice (later time τ p l) l → Choice (cond b (x ∷ later time τ x l) (later time τ p l)) (x ∷ l)
      go true h k = keep h
      go false h k = skip k

  walk_chosen : (l : List ℕ) → Choice (walk time τ l) l
  unfolding walk
  walk_chosen [] = none
  walk_chosen (x ∷ l) = keep (later_chosen x l)

  pub after_earlier : {x y : ℕ} → time x ≤ time y → (l : List ℕ) → After time τ y l → After time τ x l
  after_earlier h [] f = tt
  after_earlier h (z ∷ l) f = (omega (arith, f.0), after_earlier h l f.1)

  -- the members are after p, and apart
  abbrev Lies : ℕ → List ℕ → Type 0
  Lies p l = After time τ p l × Apart time τ l

  later_apart : (p : ℕ) (l : List ℕ) → From time p l → Rising time l → Lies p (later time τ p l)
  unfolding later
  later_apart p [] a r = (tt, tt)
  later_apart p (x ∷ l) a r = go (since time τ p x) refl (later_apart x l r.0 r.1) (later_apart p l a.1 r.1)
    where
      go : (b : Bool) → since time τ p x ≡ b → Lies x (later time τ x l) → Lies p (later time τ p l) → Lies p (cond b (x ∷ later time τ x l) (later time τ p l))
      go true e i j = ((leb-true _ _ e, after_earlier a.0 (later time τ x l) i.0), i)
      go false e i j = j

  pub walk_apart : (l : List ℕ) → Rising time l → Apart time τ (walk time τ l)
  unfolding walk
  walk_apart [] r = tt
  walk_apart (x ∷ l) r = later_apart x l r.0 r.1

  choice_from : (x : ℕ) {s l : List ℕ} → Choice s l → From time x l → From time x s
  choice_from x none a = tt
  choice_from x (keep h) a = (a.0, choice_from x h a.1)
  choice_from x (skip h) a = choice_from x h a.1

  choice_tail : {x : ℕ} {s l : List ℕ} → Choice (x ∷ s) l → Choice s l
  choice_tail (keep h) = skip h
  choice_tail (skip h) = skip (choice_tail h)

  -- a choice from l that lies after p is no longer than what the walk finds in l after p
  Bound : ℕ → List ℕ → Type 0
  Bound p l = (s : List ℕ) → Choice s l → Apart time τ s → After time τ p s → length s ≤ length (later time τ p l)

  -- a choice from what follows x, its first member left out, lies after x
  one_more : (x : ℕ) (s l : List ℕ) → From time x l → Choice s l → Apart time τ s → Bound x l → length s ≤ suc (length (later time τ x l))
  unfolding Bound
  one_more x [] l a h p ih = zero-le
  one_more x (y ∷ s) l a h p ih = suc-le-suc (ih s (choice_tail h) p.1 (after_earlier (choice_from x h a).0 s p.0))

  turn : (p x : ℕ) {s l : List ℕ} → Choice s (x ∷ l) → From time x l → Apart time τ s → After time τ p s → ((q : ℕ) → Bound q l) → length s ≤ length (later time τ p (x ∷ l))
  unfolding later Bound
  turn p x (keep {s = t} h) b a f ih = rw (le-leb (time p + τ) (time x) f.0) (suc-le-suc (ih x t h a.1 a.0))
  turn p x (skip {s = t} {l = l} h) b a f ih = go (since time τ p x)
    where
      go : (c : Bool) → length t ≤ length (cond c (x ∷ later time τ x l) (later time τ p l))
      go true = one_more x t l b h a (ih x)
      go false = ih p t h a f

  later_most : (l : List ℕ) → Rising time l → (p : ℕ) → Bound p l
  unfolding Bound
  later_most [] r p s none a f = zero-le
  later_most (x ∷ l) r p s h a f = turn p x h r.0 a f (later_most l r.1)

  walk_most : (l : List ℕ) → Rising time l → (s : List ℕ) → Choice s l → Apart time τ s → length s ≤ length (walk time τ l)
  unfolding walk Bound
  walk_most [] r s none a = zero-le
  walk_most (x ∷ l) r s (keep {s = t} h) a = suc-le-suc (later_most l r.1 x t h a.1 a.0)
  walk_most (x ∷ l) r s (skip h) a = one_more x s l r.0 h a (later_most l r.1 x)

  -- the walk over moments in order finds a largest set of members pairwise at least τ apart
  pub walk_largest : (l : List ℕ) → Rising time l → LargestSet time τ l (walk time τ l)
  walk_largest l r = record { chosen = walk_chosen l; apart = walk_apart l r; most = walk_most l r }
