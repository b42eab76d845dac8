-- Samples in blocks of 64, their ends, and whether one of several is above a level. Assumes nothing.
use Rattle.std.specs.Prelude.{ℕ, ◌+◌, Bool, cond, false, ◌||◌, leb, ℤ, pos}
use mathlib.Core.List.{List, [], ◌∷◌, foldl}
use Rattle.std.specs.Int.Signed.{lt_z}
use Rattle.sample_size.specs.Above.{above}

-- where the block that starts at i ends, of n samples: 64 later, or at n
unfoldable pub block_end : ℕ → ℕ → ℕ
block_end i n = cond (leb (i + 64) n) (i + 64) n

-- the lower of two numbers, and the higher
abbrev pub lower : ℤ → ℤ → ℤ
lower l x = cond (lt_z x l) x l

abbrev pub higher : ℤ → ℤ → ℤ
higher h x = cond (lt_z h x) x h

-- THE ENDS of samples: the lowest of them and 0, and the highest
abbrev pub lowest : List ℤ → ℤ
lowest xs = foldl lower (pos 0) xs

abbrev pub highest : List ℤ → ℤ
highest xs = foldl higher (pos 0) xs

-- a sample is above the level a
unfoldable pub any_above : ℕ → List ℤ → Bool
any_above a [] = false
any_above a (x ∷ xs) = above a x || any_above a xs
