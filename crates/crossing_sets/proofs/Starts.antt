-- The groups' first members found in one pass: with x the last member read, the rest of the list starts a group at each
-- member that is at least τ after the one just before it (`starts`). Assumes nothing.
use Prim.Native.Nat.{ℕ, ◌+◌}
use mathlib.Core.Path.{◌≡◌, refl, ap, ◌∙◌}
use mathlib.Core.Bool.{Bool, true, false, cond}
use mathlib.Core.List.{List, [], ◌∷◌}
use borrow.Author.Tests.{leb-true, leb-false, le-ltb, lt-ltb}
use Rattle.crossing_sets.specs.Walk.{since}
use Rattle.crossing_sets.specs.Groups.{near, attach, groups, firsts}

module _ (time : ℕ → ℕ) (τ : ℕ) where
  -- the first members of the groups that start after x
  unfoldable pub starts : ℕ → List ℕ → List ℕ
  starts x [] = []
  starts x (y ∷ l) = cond (since time τ x y) (y ∷ starts y l) (starts y l)

  -- the first starts a group
  unfoldable pub begin : List ℕ → List ℕ
  begin [] = []
  begin (x ∷ l) = x ∷ starts x l

  far_apart : (x y : ℕ) → since time τ x y ≡ true → near time τ x y ≡ false
  far_apart x y e = le-ltb (time y) (time x + τ) (leb-true (time x + τ) (time y) e)

  near_by : (x y : ℕ) → since time τ x y ≡ false → near time τ x y ≡ true
  near_by x y e = lt-ltb (time y) (time x + τ) (leb-false (time x + τ) (time y) e)

  -- x and the rest of its group, and the later groups
  record Split (x : ℕ) (l : List ℕ) : Type 0 where
    group : List ℕ
    later : List (List ℕ)
    is : groups (near time τ) (x ∷ l) ≡ (x ∷ group) ∷ later
    gives : firsts later ≡ starts x l

  split : (x : ℕ) (l : List ℕ) → Split x l
  unfolding groups attach starts firsts
  split x [] = record { group = []; later = []; is = refl; gives = refl }
  split x (y ∷ l) = go (split y l) (since time τ x y) refl
    where
      go : Split y l → (b : Bool) → since time τ x y ≡ b → Split x (y ∷ l)
      go p true e =
          record {
            group = [];
            later = (y ∷ p.group) ∷ p.later;
            is = ap (attach (near time τ) x) p.is ∙ rw (far_apart x y e);
            gives = rw e (ap (λ (m : List ℕ). y ∷ m) p.gives);
          }
      go p false e =
          record {
            group = y ∷ p.group;
            later = p.later;
            is = ap (attach (near time τ) x) p.is ∙ rw (near_by x y e);
            gives = rw e p.gives;
          }

  pub firsts_begin : (l : List ℕ) → firsts (groups (near time τ) l) ≡ begin l
  unfolding groups begin firsts
  firsts_begin [] = refl
  firsts_begin (x ∷ l) = let p = split x l in ap firsts p.is ∙ ap (λ (m : List ℕ). x ∷ m) p.gives
