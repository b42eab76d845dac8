-- What the rows say of any exposure, the core of demand 3: T ms at one failure in q ms expect T/q failures. A row
-- bounds the whole numbers of millionths, and the law about longer exposure brings the bound to T/q; what lies between
-- two whole numbers is the millionth to spare. Assumes nothing.
use mathlib.Core.Path.{◌≡◌}
use mathlib.Core.List.{List, [], ◌∷◌}
use Prim.Native.Nat.{ℕ, zero, suc, ◌+◌, ◌-◌, ◌*◌, ◌≤◌, ◌<◌, zero-le}
use native.Mathlib.Nat.{le_of_lt, le_of_suc-le-suc, lt_of_le_of_lt, lt-suc_self, mul-le-mul_right, mul-pos, not-suc-le-zero, pow-zero}
use native.Mathlib.Decide.{dec_le}
use native.Mathlib.Omega.{arith}
use lib.Dec.{T, leb, leb→le, lit<, ltb, ltb→lt}
use lib.ListN.{drop, get_or, length}
use Rattle.poisson.specs.Fractions.{Fraction, over}
use Rattle.poisson.specs.Series.{S, factorial}
use Rattle.poisson.specs.Chances.{FewerRarely, OrMoreRarely}
use Rattle.poisson.specs.Rows.{IsUpperRow, million, millionth_less, millionth_more, rows}
use Rattle.poisson.specs.Tables.{l, lower_rows, u, upper_rows}
use Rattle.poisson.proofs.Longer.{accept_longer, reject_shorter}
use Rattle.poisson.proofs.Rows.{lower_rows_lem, upper_rows_lem}
use Rattle.poisson.proofs.Table.{at, every}

-- how the rows lie, computed over each table and carried to each row
rising : (xs : List ℕ) → T (every (λ i y. leb (get_or xs i 0) y) 0 (drop 1 xs)) → (i : ℕ) → suc i < length xs → get_or xs i 0 ≤ get_or xs (suc i) 0
rising [] t i h = absurd (not-suc-le-zero h)
rising (x ∷ xs) t i h = leb→le _ _ (at (λ i y. leb (get_or (x ∷ xs) i 0) y) xs t i (le_of_suc-le-suc h))

pub upper_rises : (n : ℕ) → 1 ≤ n → n < rows → u n ≤ u (suc n)
unfolding u upper_rows
upper_rises zero h k = absurd (not-suc-le-zero h)
upper_rises (suc i) h k = rising upper_rows tt i k

pub lower_below_upper : (n : ℕ) → 1 ≤ n → n ≤ rows → l n < u n
unfolding l u lower_rows upper_rows
lower_below_upper zero h k = absurd (not-suc-le-zero h)
lower_below_upper (suc i) h k = ltb→lt _ _ (at (λ i x. ltb x (get_or upper_rows i 0)) lower_rows tt i k)

-- reject by a count and accept by the same count or the next never both hold
pub never_both : (n m t q : ℕ) → n ≤ m → m ≤ suc n → m ≤ rows → t * million < l n * q → ¬ (u m * q < t * million)
unfolding l
never_both zero m t q h k r lo up = absurd (omega arith)
never_both (suc i) m t q h k r lo up = go (dec_le m (suc i))
  where
    apart : l (suc i) * q ≤ u (suc i) * q
    apart = mul-le-mul_right q (le_of_lt (lower_below_upper (suc i) (omega arith) (omega arith)))

    go : Dec (m ≤ suc i) → ⊥
    go (yes e) = let s : m ≡ suc i = omega arith in omega (arith, rw s at up, apart)
    go (no e) =
        let s : m ≡ suc (suc i) = omega arith in
        omega (arith, rw s at up, apart, mul-le-mul_right q (upper_rises (suc i) (omega arith) (omega arith)))

-- no count is below 0, so "0 or more" is sure and never rare
pub none_or_more : (x : Fraction) → ¬ OrMoreRarely 0 x
unfolding S factorial
none_or_more x all = absurd (omega (arith, simp pow-zero at (all 1)))

module _ (n t q : ℕ) (low : 1 ≤ n) (high : n ≤ rows) (unit : 1 ≤ q) where
  pub accept_only_if : u n * q < t * million → FewerRarely n (over t q)
  accept_only_if h = accept_longer (u n) million t q (lit< tt) unit (omega arith) n low (upper_rows_lem n low high).meets

  -- otherwise the chance would hold at one millionth below the row
  whenever : (r : ℕ) → IsUpperRow n r → 0 < r → FewerRarely n (millionth_less (over t q)) → ¬ (t * million ≤ r * q)
  whenever zero row h e k = absurd (not-suc-le-zero h)
  whenever (suc v) row h e k =
      row.none_below v (lt-suc_self v)
      (accept_longer (t * million - q) (q * million) v million (mul-pos unit (lit< tt)) (lit< tt) (omega arith) n low e)

  pub accept_whenever : FewerRarely n (millionth_less (over t q)) → u n * q < t * million
  accept_whenever e =
      let k = whenever (u n) (upper_rows_lem n low high) (lt_of_le_of_lt zero-le (lower_below_upper n low high)) e in
      omega arith

  pub reject_only_if : t * million < l n * q → OrMoreRarely n (over t q)
  reject_only_if h = reject_shorter t q (l n) million unit (lit< tt) (omega arith) n low (lower_rows_lem n low high).meets

  pub reject_whenever : OrMoreRarely n (millionth_more (over t q)) → t * million < l n * q
  reject_whenever e =
      let k : ¬ (l n * q ≤ t * million) =
      λ h.
      (lower_rows_lem n low high).none_above (suc (l n)) (lt-suc_self (l n))
      (reject_shorter (suc (l n)) million (t * million + q) (q * million) (lit< tt) (mul-pos unit (lit< tt)) (omega arith) n low e)
      in
      omega arith
