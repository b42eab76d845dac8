-- Document 01, "The campaign": S(j, x), the sum of the first j terms of 1 + x + x²/2! + x³/3! + .., exactly, at a
-- fraction x. Assumes nothing.
use Rattle.std.specs.Prelude.{ℕ, zero, suc, ◌*◌, ◌^◌}
use Rattle.poisson.specs.Fractions.{Fraction, over, plus}

unfoldable pub factorial : ℕ → ℕ
factorial zero = 1
factorial (suc j) = suc j * factorial j

-- x ^ j / j!
abbrev pub term : ℕ → Fraction → Fraction
term j x = over (x.top ^ j) (x.bottom ^ j * factorial j)

unfoldable pub S : ℕ → Fraction → Fraction
S zero x = over 0 1
S (suc j) x = plus (S j x) (term j x)
