-- The two tables meet document 01's rule in every row. The checker computes one test over the rows of both; `carried`
-- takes it to the rule of either, by `Turn`, and `met` a table of rows to what is promised of an answer for any number.
-- Assumes nothing.
use mathlib.Core.Path.{◌≡◌, refl}
use mathlib.Core.Bool.{Bool, false, ◌&&◌}
use mathlib.Core.List.{List}
use Prim.Native.Nat.{ℕ, zero, suc, ◌≤◌, ◌<◌, zero-le}
use native.Mathlib.Nat.{le_refl, lt-suc_self, not-le_of_lt, not-suc-le-zero}
use native.Mathlib.Decide.{dec_lt}
use native.Mathlib.Omega.{arith}
use lib.Dec.{T, leb, leb→le, lit≤}
use lib.Ieee.Fits.{and_l, and_r}
use lib.ListN.{get_or-eq_default, get_or, length}
use Rattle.poisson.specs.Fractions.{times, Less}
use Rattle.poisson.specs.Series.{S}
use Rattle.poisson.specs.Rows.{IsLowerRow, IsUpperRow, LowerRow, RowAt, UpperRow, millionths, rows}
use Rattle.poisson.specs.Tables.{l, lower_rows, row_of, u, upper_rows}
use Rattle.poisson.proofs.Scaled.{denom, numer}
use Rattle.poisson.proofs.Table.{at, every}
use Rattle.poisson.proofs.Turn.{none_below, some_above, terms, turns}

-- the upper row is the number after the turn of 40 S(n) against S(K)
unfoldable upper_test : ℕ → ℕ → Bool
upper_test i zero = false
upper_test i (suc v) = turns 40 1 i v

upper_rule : (i r : ℕ) → T (upper_test i r) → IsUpperRow (suc i) r
unfolding upper_test
upper_rule i zero t = absurd t
upper_rule i (suc v) t =
    let found = some_above 40 1 i v (lit≤ tt) t (suc v) (lt-suc_self v) in
    record {
      meets = (terms, omega arith);
      none_below = λ w h e. none_below 40 1 i v (lit≤ tt) t w (omega arith) e.0 (omega (arith, e.1));
    }

-- the lower row is the turn of 40 S(n) against 39 S(K)
unfoldable lower_test : ℕ → ℕ → Bool
lower_test i v = turns 40 39 i v

lower_rule : (i r : ℕ) → T (lower_test i r) → IsLowerRow (suc i) r
unfolding lower_test
lower_rule i v t =
    let x = millionths v in
    record {
      meets =
          λ K.
          let never : ¬ Less (times 40 (S (suc i) x)) (times 39 (S K x)) = none_below 40 39 i v (lit≤ tt) t v (le_refl v) K in
          omega arith;
      none_above = λ w h all. not-le_of_lt (some_above 40 39 i v (lit≤ tt) t w h) (all terms);
    }

-- row i + 1 of both tables
unfoldable row_test : ℕ → ℕ → Bool
row_test i r = upper_test i r && lower_test i (get_or lower_rows i 0)

rows_pass : T (every row_test 0 upper_rows)
unfolding upper_rows lower_rows row_test upper_test lower_test turns numer denom
rows_pass = tt

carried : (i : ℕ) → i < length upper_rows
    → IsUpperRow (suc i) (get_or upper_rows i 0) × IsLowerRow (suc i) (get_or lower_rows i 0)
unfolding row_test
carried i h =
    let t = at row_test upper_rows rows_pass i h in
    let a = upper_test i (get_or upper_rows i 0) in
    let b = lower_test i (get_or lower_rows i 0) in
    (upper_rule i (get_or upper_rows i 0) (and_l a b t), lower_rule i (get_or lower_rows i 0) (and_r a b t))

-- a table of 64 rows that meets a rule answers it for any number
module _ (IsRow : ℕ → ℕ → Type 0) (last : ℕ) (xs : List ℕ) (long : length xs ≡ rows) (small : T (every (λ i x. leb x last) 0 xs))
    (rule : (i : ℕ) → i < length xs → IsRow (suc i) (get_or xs i 0)) where
  past_zero : (n : ℕ) → rows < n → row_of xs n ≡ 0
  past_zero zero h = refl
  past_zero (suc i) h = get_or-eq_default xs 0 {n = i} (omega arith)

  below_last : (n : ℕ) → row_of xs n ≤ last
  below_last zero = zero-le
  below_last (suc i) = go (dec_lt i (length xs))
    where
      go : Dec (i < length xs) → get_or xs i 0 ≤ last
      go (yes h) = leb→le _ _ (at (λ i x. leb x last) xs small i h)
      go (no h) = rw (get_or-eq_default xs 0 {n = i} (omega arith)) zero-le

  met : (n : ℕ) → RowAt IsRow last n (row_of xs n)
  met zero = record { row = λ h k. absurd (not-suc-le-zero h); before = λ e. refl; past = past_zero 0; bound = below_last 0 }
  met (suc i) = record { row = λ h k. rule i (omega arith); before = λ e. absurd (omega arith); past = past_zero (suc i); bound = below_last (suc i) }

pub upper_met : (n : ℕ) → UpperRow n (u n)
unfolding u upper_rows
upper_met n = met IsUpperRow 80604368 upper_rows refl tt (λ i h. (carried i h).0) n

pub lower_met : (n : ℕ) → LowerRow n (l n)
unfolding l lower_rows upper_rows
lower_met n = met IsLowerRow 49287798 lower_rows refl tt (λ i h. (carried i h).1) n

-- document 01's rule, of the tables by name
pub upper_rows_lem : (n : ℕ) → 1 ≤ n → n ≤ rows → IsUpperRow n (u n)
upper_rows_lem n h k = (upper_met n).row h k

pub lower_rows_lem : (n : ℕ) → 1 ≤ n → n ≤ rows → IsLowerRow n (l n)
lower_rows_lem n h k = (lower_met n).row h k
