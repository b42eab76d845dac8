-- The largest member of each group of a row. Assumes nothing.
use Rattle.std.specs.Prelude.{Bool, false, cond, drop, ltb}
use mathlib.Core.List.{List, [], ◌∷◌, map, foldl, drop_last}
use Rattle.crossing_sets.specs.Groups.{groups}
use Rattle.peak_groups.specs.declared.Peak.{Peak}

-- the first and the last are dropped
abbrev pub inner : {A : Type 0} → List A → List A
inner l = drop_last (drop 1 l)

-- those that pass a test
unfoldable pub those : {A : Type 0} → (A → Bool) → List A → List A
those f [] = []
those f (x ∷ l) = cond (f x) (x ∷ those f l) (those f l)

-- the larger of two, the first on a tie
unfoldable pub larger : Peak → Peak → Peak
larger p q = cond (ltb p.size q.size) q p

-- before anything was read
abbrev pub nothing : Peak
nothing = record { size = 0; time = 0; below = false }

-- the largest of a group, the first on a tie
unfoldable pub largest : List Peak → Peak
largest [] = nothing
largest (p ∷ l) = foldl larger p l

-- the largest of each group
unfoldable pub tops : (Peak → Peak → Bool) → List Peak → List Peak
tops joins l = map largest (groups joins l)
