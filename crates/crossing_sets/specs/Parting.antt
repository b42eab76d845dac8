-- What "in groups" means, said without the way they are found: a list parted into runs of successive members, each of
-- which joins the one just before it, while the first of a run does not join the last of the run before. Assumes
-- nothing.
use Rattle.std.specs.Prelude.{◌≡◌, Bool, true, false, List, [], ◌∷◌, ◌++◌}

-- the groups one after the other
abbrev pub together : {A : Type 0} → List (List A) → List A
together [] = []
together (g ∷ gs) = g ++ together gs

module _ {A : Type 0} (joins : A → A → Bool) where
  -- x joins the next, that one the next, and so on
  abbrev pub Linked : A → List A → Type 0
  Linked x [] = Unit {0}
  Linked x (y ∷ l) = (joins x y ≡ true) × Linked y l

  abbrev pub last_from : A → List A → A
  last_from x [] = x
  last_from x (y ∷ l) = last_from y l

  -- x does not join the first member of the next group
  abbrev pub Cut : A → List (List A) → Type 0
  Cut x [] = Unit {0}
  Cut x ([] ∷ gs) = ⊥
  Cut x ((y ∷ g) ∷ gs) = joins x y ≡ false

  -- no group is empty, neighbours in a group join, and a group's last member does not join the next one's first
  abbrev pub Runs : List (List A) → Type 0
  Runs [] = Unit {0}
  Runs ([] ∷ gs) = ⊥
  Runs ((x ∷ g) ∷ gs) = Linked x g × Cut (last_from x g) gs × Runs gs

  -- the list l, parted into such groups
  pub record Parting (l : List A) (gs : List (List A)) : Type 0 where
    pub whole : together gs ≡ l
    pub runs : Runs gs
