-- The lines of a text, one at a time: a line up to its LF stands before the lines of the rest. Assumes nothing.
use mathlib.Core.Path.{◌≡◌, refl}
use mathlib.Core.Bool.{true, false}
use mathlib.Core.List.{List, [], ◌∷◌, ◌++◌}
use Prim.Native.Nat.{ℕ}
use native.Mathlib.Omega.{arith}
use lib.Dec.{eqb}
use borrow.Author.Tests.{ne_eqb}
use Rattle.truth.proofs.Laws.{and-true}
use Rattle.decimal.specs.Decimal.{is_digit, all_digits}
use Rattle.decimal.specs.Field.{line_feed}
use Rattle.decimal.specs.Lines.{lines_of}
use Rattle.decimal.proofs.Text.{digit_range}

-- no byte is an LF
unfoldable pub NoFeed : List ℕ → Type 0
NoFeed [] = Unit {0}
NoFeed (b ∷ text) = (eqb b line_feed ≡ false) × NoFeed text

pub none_joined : (s t : List ℕ) → NoFeed s → NoFeed t → NoFeed (s ++ t)
unfolding NoFeed
none_joined [] t f g = g
none_joined (b ∷ s) t f g = (f.0, none_joined s t f.1 g)

pub digits_none : (ds : List ℕ) → all_digits ds ≡ true → NoFeed ds
unfolding NoFeed all_digits
digits_none [] all = tt
digits_none (b ∷ ds) all =
    let (d, rest) = and-true (is_digit b) (all_digits ds) all in
    let range = digit_range b d in
    (ne_eqb b line_feed (λ e. omega arith), digits_none ds rest)

-- a line up to its LF, and the lines after it
pub lines_front : (front rest : List ℕ) → NoFeed front → lines_of (front ++ (line_feed ∷ rest)) ≡ (front ++ (line_feed ∷ [])) ∷ lines_of rest
unfolding lines_of NoFeed
lines_front [] rest none = refl
lines_front (b ∷ front) rest none = rw (none.0, lines_front front rest none.1)
