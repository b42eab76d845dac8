-- Two answers that a row's promise allows are the same answer: there is one least number, and one greatest, with a
-- property. Assumes nothing.
use mathlib.Core.Path.{◌≡◌, refl, sym, ◌∙◌}
use Prim.Native.Nat.{ℕ, zero, suc, ◌≤◌, ◌<◌}
use native.Mathlib.Nat.{le_antisymm}
use native.Mathlib.Decide.{dec_le}
use native.Mathlib.Omega.{arith}
use Rattle.poisson.specs.Rows.{Greatest, Least, LowerRow, RowAt, UpperRow, rows}

least_le : {P : ℕ → Type 0} {u v : ℕ} → Least P u → Least P v → u ≤ v
least_le {P} {u} {v} a b = let h : ¬ (v < u) = λ l. a.none_below v l b.meets in omega arith

greatest_le : {P : ℕ → Type 0} {u v : ℕ} → Greatest P u → Greatest P v → u ≤ v
greatest_le {P} {u} {v} a b = let h : ¬ (v < u) = λ l. b.none_above u l a.meets in omega arith

row_unique : {IsRow : ℕ → ℕ → Type 0} {last n r s : ℕ} → ((a b : ℕ) → IsRow n a → IsRow n b → a ≡ b) → RowAt IsRow last n r → RowAt IsRow last n s → r ≡ s
row_unique {n = zero} one p q = p.before refl ∙ sym (q.before refl)
row_unique {n = suc i} {r = r} {s = s} one p q = go (dec_le (suc i) rows)
  where
    go : Dec (suc i ≤ rows) → r ≡ s
    go (yes h) = one _ _ (p.row (omega arith) h) (q.row (omega arith) h)
    go (no h) = p.past (omega arith) ∙ sym (q.past (omega arith))

pub upper_row_unique : (n r s : ℕ) → UpperRow n r → UpperRow n s → r ≡ s
upper_row_unique n r s p q = row_unique (λ a b x y. le_antisymm (least_le x y) (least_le y x)) p q

pub lower_row_unique : (n r s : ℕ) → LowerRow n r → LowerRow n s → r ≡ s
lower_row_unique n r s p q = row_unique (λ a b x y. le_antisymm (greatest_le x y) (greatest_le y x)) p q
