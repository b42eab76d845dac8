-- Bytes side by side in one number, the first worth most. Assumes nothing.
use Rattle.std.specs.Prelude.{ℕ, ◌+◌, ◌*◌, ◌<◌, get_or}
use mathlib.Core.List.{List, foldl}

-- a number, and one byte more after it
abbrev pub beside : ℕ → ℕ → ℕ
beside v b = v * 256 + b

unfoldable pub word : List ℕ → ℕ
word bytes = foldl beside 0 bytes

-- so many from a place on are bytes
abbrev pub Small : List ℕ → ℕ → ℕ → Type 0
Small s at k = (n : ℕ) → n < k → get_or s (at + n) 0 < 256
