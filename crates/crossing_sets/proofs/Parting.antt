-- `groups` parts a list in the only way that `Parting` allows, and each group has a first member. Assumes nothing.
use Prim.Native.Nat.{suc}
use mathlib.Core.Path.{◌≡◌, refl, sym, ap, ◌∙◌}
use mathlib.Core.Bool.{Bool, true, false, cond}
use mathlib.Core.List.{List, [], ◌∷◌, ◌++◌}
use lib.ListN.{length}
use Rattle.crossing_sets.specs.Groups.{attach, groups, firsts}
use Rattle.crossing_sets.specs.Parting.{together, Linked, last_from, Cut, Runs, Parting}

module _ {A : Type 0} (joins : A → A → Bool) where
  attach_together : (x : A) (gs : List (List A)) → Runs joins gs → together (attach joins x gs) ≡ x ∷ together gs
  unfolding attach
  attach_together x [] w = refl
  attach_together x ([] ∷ gs) w = absurd w
  attach_together x ((y ∷ g) ∷ gs) w = go (joins x y)
    where
      go : (b : Bool) → together (cond b ((x ∷ y ∷ g) ∷ gs) ((x ∷ []) ∷ (y ∷ g) ∷ gs)) ≡ x ∷ y ∷ (g ++ together gs)
      go true = refl
      go false = refl

  attach_runs : (x : A) (gs : List (List A)) → Runs joins gs → Runs joins (attach joins x gs)
  unfolding attach
  attach_runs x [] w = (tt, tt, tt)
  attach_runs x ([] ∷ gs) w = absurd w
  attach_runs x ((y ∷ g) ∷ gs) w = go (joins x y) refl
    where
      go : (b : Bool) → joins x y ≡ b → Runs joins (cond b ((x ∷ y ∷ g) ∷ gs) ((x ∷ []) ∷ (y ∷ g) ∷ gs))
      go true e = ((e, w.0), w.1, w.2)
      go false e = (tt, e, w)

  pub groups_runs : (l : List A) → Runs joins (groups joins l)
  unfolding groups
  groups_runs [] = tt
  groups_runs (x ∷ l) = attach_runs x (groups joins l) (groups_runs l)

  pub groups_together : (l : List A) → together (groups joins l) ≡ l
  unfolding groups
  groups_together [] = refl
  groups_together (x ∷ l) = attach_together x (groups joins l) (groups_runs l) ∙ ap (λ (m : List A). x ∷ m) (groups_together l)

  pub groups_part : (l : List A) → Parting joins l (groups joins l)
  groups_part l = record { whole = groups_together l; runs = groups_runs l }

  -- x opens the first group
  pub opens : (x : A) (gs : List (List A)) → (g : List A) × (hs : List (List A)) × (attach joins x gs ≡ (x ∷ g) ∷ hs)
  unfolding attach
  opens x [] = ([], [], refl)
  opens x ([] ∷ gs) = ([], gs, refl)
  opens x ((y ∷ g) ∷ gs) = go (joins x y)
    where
      go : (b : Bool) → (h : List A) × (hs : List (List A)) × (cond b ((x ∷ y ∷ g) ∷ gs) ((x ∷ []) ∷ (y ∷ g) ∷ gs) ≡ (x ∷ h) ∷ hs)
      go true = (y ∷ g, gs, refl)
      go false = ([], (y ∷ g) ∷ gs, refl)

  attach_cut : (x : A) (gs : List (List A)) → Cut joins x gs → attach joins x gs ≡ (x ∷ []) ∷ gs
  unfolding attach
  attach_cut x [] c = refl
  attach_cut x ([] ∷ gs) c = absurd c
  attach_cut x ((y ∷ g) ∷ gs) c = rw c

  pub first_group : (x : A) (g : List A) (gs : List (List A)) → Linked joins x g → Cut joins (last_from joins x g) gs
      → groups joins (together gs) ≡ gs → groups joins (x ∷ (g ++ together gs)) ≡ (x ∷ g) ∷ gs
  unfolding groups attach
  first_group x [] gs l c e = ap (attach joins x) e ∙ attach_cut x gs c
  first_group x (y ∷ g) gs l c e = ap (attach joins x) (first_group y g gs l.1 c e) ∙ rw l.0

  pub runs_only : (gs : List (List A)) → Runs joins gs → groups joins (together gs) ≡ gs
  unfolding groups
  runs_only [] w = refl
  runs_only ([] ∷ gs) w = absurd w
  runs_only ((x ∷ g) ∷ gs) w = first_group x g gs w.0 w.1 (runs_only gs w.2)

  -- whoever parts a list so parts it as `groups` does
  pub groups_only : (l : List A) (gs : List (List A)) → Parting joins l gs → gs ≡ groups joins l
  groups_only l gs p = sym (runs_only gs p.runs) ∙ ap (groups joins) p.whole

  firsts_number : (gs : List (List A)) → Runs joins gs → length (firsts gs) ≡ length gs
  unfolding firsts
  firsts_number [] w = refl
  firsts_number ([] ∷ gs) w = absurd w
  firsts_number ((x ∷ g) ∷ gs) w = ap suc (firsts_number gs w.2)

  -- there are as many first members as groups
  pub as_many : (l : List A) → length (firsts (groups joins l)) ≡ length (groups joins l)
  as_many l = firsts_number (groups joins l) (groups_runs l)
