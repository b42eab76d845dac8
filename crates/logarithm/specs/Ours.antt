-- Document 02 [12]: our figure of a ratio a/b as a definition that computes. The ratio is divided by the greatest
-- power of two within it, whose exponent is the whole part of its logarithm, and then squared 16 times: a number from
-- one up to two whose square reaches two has a next bit of 1, and goes on with half the square. `Near` says how near
-- that is to the exact figure. Assumes nothing.
use Rattle.std.specs.Prelude.{cond, ℕ, zero, suc, ◌+◌, ◌*◌, ◌/◌, ◌^◌, eqb, leb}

-- one, in numbers with 31 bits after the point
abbrev pub one : ℕ
one = 2147483648

-- how often b doubles within a, at most n times
unfoldable pub doublings : ℕ → ℕ → ℕ → ℕ
doublings zero a b = 0
doublings (suc n) a b = cond (leb (2 * b) a) (suc (doublings n a (2 * b))) 0

-- the whole part of the logarithm of a/b, for values of 32 bits
abbrev pub whole : ℕ → ℕ → ℕ
whole a b = doublings 31 a b

-- the ratio without that power of two, from one up to two, cut to a whole number
abbrev pub part : ℕ → ℕ → ℕ
part a b = a * one / (2 ^ whole a b * b)

-- the top bit of the square of a number from one up to two: 1 exactly if it reaches two
abbrev pub top_bit : ℕ → ℕ
top_bit s = s / 2 ^ 63

-- the square cut to 31 bits after the point, halved where it reaches two
abbrev pub halved : ℕ → ℕ → ℕ
halved s d = cond (eqb d 1) (s / 2 ^ 32) (s / 2 ^ 31)

abbrev pub rest : ℕ → ℕ
rest s = halved s (top_bit s)

-- n squarings of the number x, each of which yields one bit more of the figure m
unfoldable pub squarings : ℕ → ℕ → ℕ → ℕ
squarings zero m x = m
squarings (suc n) m x = squarings n (2 * m + top_bit (x * x)) (rest (x * x))

-- our figure; 0 for a ratio of at most 1 and for one over 0
unfoldable pub our_figure : ℕ → ℕ → ℕ
our_figure a b = cond (eqb b 0) 0 (cond (leb a b) 0 (squarings 16 (whole a b) (part a b)))
