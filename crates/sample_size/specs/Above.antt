-- Document 01, "Reading a record": above the level. Assumes nothing.
use Rattle.std.specs.Prelude.{ℕ, Bool, ltb, ℤ, nat_abs}

-- |x| is above a, and not merely at it
abbrev pub above : ℕ → ℤ → Bool
above a x = ltb a (nat_abs x)
