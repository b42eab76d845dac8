-- Document 02, [7], and document 001, (18) to (20): the half-width of N failures among P samples, in thousandths of a
-- failure, by a factor of f thousandths. Assumes nothing.
use Rattle.std.specs.Prelude.{Bool, cond, ◌&&◌, ℕ, ◌-◌, ◌*◌, leb}
use Rattle.root.specs.Root.{Least, first_from}

-- f² · N · (P - N)
abbrev pub scatter : ℕ → ℕ → ℕ → ℕ
scatter f N P = f * f * N * (P - N)

-- the half-width: the least whole number whose square times P is at least that
abbrev pub HalfWidth : ℕ → ℕ → ℕ → ℕ → Type 0
HalfWidth f N P m = Least (scatter f N P) P m

-- found by trying one number after the other; f·N is always enough
unfoldable pub half_width : ℕ → ℕ → ℕ → ℕ
half_width f N P = first_from (scatter f N P) P 0 (f * N)

-- what is measured: a factor of at most 3, at most 10,000 failures, no more of them than samples, and at most
-- 100,000,000 samples
abbrev pub measured : ℕ → ℕ → ℕ → Bool
measured f N P = leb f 3000 && (leb N 10000 && (leb N P && leb P 100000000))

-- the same for any numbers, 0 where nothing is measured
unfoldable pub width_within : ℕ → ℕ → ℕ → ℕ
width_within f N P = cond (measured f N P) (half_width f N P) 0
