-- The groups' largest members found in one pass: with the largest so far, b, and the last member, x, of the open group,
-- the rest of the list decides what comes (`from`). By induction on the list, a group's list and this pass agree
-- (`parted`). Assumes nothing.
use mathlib.Core.Path.{◌≡◌, refl, sym, ap, ◌∙◌}
use mathlib.Core.Bool.{Bool, true, false, cond}
use mathlib.Core.List.{List, [], ◌∷◌, map, foldl, drop_last}
use Rattle.peak_groups.specs.declared.Peak.{Peak}
use Rattle.crossing_sets.specs.Groups.{attach, groups}
use Rattle.peak_groups.specs.Groups.{larger, largest, tops}

module _ (joins : Peak → Peak → Bool) where
  unfoldable pub from : Peak → Peak → List Peak → List Peak
  from b x [] = b ∷ []
  from b x (y ∷ l) = cond (joins x y) (from (larger b y) y l) (b ∷ from y y l)

  -- x and the rest of its group, and the later groups
  record Parted (x : Peak) (l : List Peak) : Type 0 where
    group : List Peak
    later : List (List Peak)
    is : groups joins (x ∷ l) ≡ (x ∷ group) ∷ later
    gives : (b : Peak) → from b x l ≡ foldl larger b group ∷ map largest later

  parted : (x : Peak) (l : List Peak) → Parted x l
  unfolding from groups attach largest
  parted x [] = record { group = []; later = []; is = refl; gives = λ b. refl }
  parted x (y ∷ l) = go (parted y l) (joins x y) refl
    where
      go : Parted y l → (k : Bool) → joins x y ≡ k → Parted x (y ∷ l)
      go p true e = record { group = y ∷ p.group; later = p.later; is = ap (attach joins x) p.is ∙ rw e; gives = λ b. rw e (p.gives (larger b y)) }
      go p false e = record { group = []; later = (y ∷ p.group) ∷ p.later; is = ap (attach joins x) p.is ∙ rw e; gives = λ b. rw e (ap (λ (r : List Peak). b ∷ r) (p.gives y)) }

  pub tops_from : (x : Peak) (l : List Peak) → tops joins (x ∷ l) ≡ from x x l
  unfolding tops largest
  tops_from x l = let p = parted x l in ap (map largest) p.is ∙ sym (p.gives x)

  -- the open group is still to come, so one before it is not the last
  pub not_last : (p b x : Peak) (l : List Peak) → drop_last (p ∷ from b x l) ≡ p ∷ drop_last (from b x l)
  unfolding from
  not_last p b x [] = refl
  not_last p b x (y ∷ l) = go (not_last p (larger b y) y l) (joins x y)
    where
      go : drop_last (p ∷ from (larger b y) y l) ≡ p ∷ drop_last (from (larger b y) y l) → (k : Bool) →
          drop_last (p ∷ cond k (from (larger b y) y l) (b ∷ from y y l)) ≡ p ∷ drop_last
          (cond k (from (larger b y) y l) (b ∷ from y y l))
      go i true = i
      go i false = refl
