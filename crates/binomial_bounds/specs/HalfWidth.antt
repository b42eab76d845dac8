-- Document 02, [7]: the half-width of N failures among P samples, in thousandths of a failure, by 1.960. Assumes nothing.
use Rattle.std.specs.Prelude.{ℕ}
use Rattle.root.specs.HalfWidth as root

-- the least whole number whose square times P is at least 1,960² · N · (P - N)
abbrev pub HalfWidth : ℕ → ℕ → ℕ → Type 0
HalfWidth N P m = root.HalfWidth 1960 N P m

abbrev pub half_width : ℕ → ℕ → ℕ
half_width N P = root.half_width 1960 N P
