-- Where the digits at a place end, one byte more at a time. Assumes nothing.
use mathlib.Core.Path.{◌≡◌}
use mathlib.Core.Bool.{true, false}
use mathlib.Core.List.{List}
use Prim.Native.Nat.{ℕ, ◌+◌, ◌≤◌, ◌<◌}
use native.Mathlib.Nat.{add-zero}
use native.Mathlib.Numerals.{add-one}
use native.Mathlib.Omega.{arith}
use lib.ListN.{length, drop, get_or, drop_of_length-le}
use lib.Seq.{drop-cons}
use Rattle.decimal.specs.Decimal.{is_digit}
use Rattle.decimal.specs.Leading.{leading}

module _ (s : List ℕ) (i : ℕ) where
  abbrev pub Reached : ℕ
  Reached = i + length (leading (drop i s))

  pub digit_none : length s ≤ i → Reached ≡ i
  unfolding leading
  digit_none h = rw (drop_of_length-le s h) (add-zero i)

  pub digit_here : i < length s → is_digit (get_or s i 0) ≡ false → Reached ≡ i
  unfolding leading
  digit_here h d = rw (drop-cons s i 0 h, d) (add-zero i)

  pub digit_on : i < length s → is_digit (get_or s i 0) ≡ true → Reached ≡ i + 1 + length (leading (drop (i + 1) s))
  unfolding leading
  digit_on h d = rw (drop-cons s i 0 h, d, add-one) (omega arith)
