-- Groups never exceed the largest set. Their first members are a choice, and two of them are at least τ apart: the
-- later one is so far after the member just before it, which is not before the earlier one. Assumes nothing.
use Prim.Native.Nat.{ℕ, ◌+◌, ◌≤◌}
use mathlib.Core.Path.{◌≡◌, refl, sym, ap, ◌∙◌}
use mathlib.Core.Bool.{Bool, true, false, cond}
use mathlib.Core.List.{List, [], ◌∷◌}
use native.Mathlib.Omega.{arith}
use lib.ListN.{length}
use borrow.Author.Tests.{leb-true}
use Rattle.crossing_sets.specs.Choice.{Choice, none, keep, skip, After, Apart, LargestSet}
use Rattle.crossing_sets.specs.Walk.{since}
use Rattle.crossing_sets.proofs.Rising.{From, Rising}
use Rattle.crossing_sets.proofs.Walk.{after_earlier}
use Rattle.crossing_sets.specs.Groups.{near, groups, firsts}
use Rattle.crossing_sets.proofs.Parting.{as_many}
use Rattle.crossing_sets.proofs.Starts.{starts, begin, firsts_begin}

module _ (time : ℕ → ℕ) (τ : ℕ) where
  starts_chosen : (x : ℕ) (l : List ℕ) → Choice (starts time τ x l) l
  unfolding starts
  starts_chosen x [] = none
  starts_chosen x (y ∷ l) = go (since time τ x y) (starts_chosen y l)
    where
      go : (b : Bool) → Choice (starts time τ y l) l → Choice (cond b (y ∷ starts time τ y l) (starts time τ y l)) (y ∷ l)
      go true h = keep h
      go false h = skip h

  -- the members are after f, and apart
  abbrev Lies : ℕ → List ℕ → Type 0
  Lies f l = After time τ f l × Apart time τ l

  -- f is the first of the open group, x its last
  starts_apart : (f x : ℕ) (l : List ℕ) → time f ≤ time x → From time x l → Rising time l → Lies f (starts time τ x l)
  unfolding starts
  starts_apart f x [] h a r = (tt, tt)
  starts_apart f x (y ∷ l) h a r = go (since time τ x y) refl (starts_apart y y l (omega arith) r.0 r.1) (starts_apart f y l (omega (arith, a.0)) r.0 r.1)
    where
      go : (b : Bool) → since time τ x y ≡ b → Lies y (starts time τ y l) → Lies f (starts time τ y l) → Lies f (cond b (y ∷ starts time τ y l) (starts time τ y l))
      go true e i j = ((omega (arith, leb-true (time x + τ) (time y) e), after_earlier time τ {x = f} {y = y} (omega (arith, a.0)) (starts time τ y l) i.0), i)
      go false e i j = j

  begin_chosen : (l : List ℕ) → Choice (begin time τ l) l
  unfolding begin
  begin_chosen [] = none
  begin_chosen (x ∷ l) = keep (starts_chosen x l)

  begin_apart : (l : List ℕ) → Rising time l → Apart time τ (begin time τ l)
  unfolding begin
  begin_apart [] r = tt
  begin_apart (x ∷ l) r = starts_apart x x l (omega arith) r.0 r.1

  -- the groups' first members are pairwise at least τ apart
  pub firsts_apart : (l : List ℕ) → Rising time l → Apart time τ (firsts (groups (near time τ) l))
  firsts_apart l r = rw (firsts_begin time τ l) (begin_apart l r)

  -- no largest set has fewer members than there are groups
  pub fewer : (l s : List ℕ) → Rising time l → LargestSet time τ l s → length (groups (near time τ) l) ≤ length s
  fewer l s r m =
      let n : length (groups (near time τ) l) ≡ length (begin time τ l) = sym (as_many (near time τ) l) ∙ ap length (firsts_begin time τ l) in
      rw n (m.most (begin time τ l) (begin_chosen l) (begin_apart l r))
