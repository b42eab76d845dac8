-- Two answers that a promise allows are the same answer: each promise is an equation. Assumes nothing.
use Prim.Native.Nat.{ℕ}
use mathlib.Core.Path.{◌≡◌, sym, ◌∙◌}
use mathlib.Core.Bool.{Bool, ◌||◌}
use mathlib.Core.List.{List}
use lib.IntN.{ℤ}
use Rattle.sample_size.specs.Above.{above}
use Rattle.sample_block.specs.declared.Ends.{Ends}
use Rattle.sample_block.specs.Block.{block_end, lowest, highest, any_above}

pub end_unique : (i n : ℕ) (x y : ℕ) → x ≡ block_end i n → y ≡ block_end i n → x ≡ y
end_unique i n x y e f = e ∙ sym f

-- of `ends_of`
pub ends_unique : (xs : List ℤ) (x y : Ends) → (x.lowest ≡ lowest xs) × (x.highest ≡ highest xs) → (y.lowest ≡ lowest xs) × (y.highest ≡ highest xs) → x ≡ y
ends_unique xs x y e f i = record { lowest = (e.0 ∙ sym f.0) i; highest = (e.1 ∙ sym f.1) i }

pub past_unique : (a : ℕ) (e : Ends) (x y : Bool) → x ≡ (above a e.lowest || above a e.highest) → y ≡ (above a e.lowest || above a e.highest) → x ≡ y
past_unique a z x y e f = e ∙ sym f

pub loud_unique : (a : ℕ) (xs : List ℤ) (x y : Bool) → x ≡ any_above a xs → y ≡ any_above a xs → x ≡ y
loud_unique a xs x y e f = e ∙ sym f
