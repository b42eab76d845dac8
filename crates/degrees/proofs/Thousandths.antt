-- Thousandths in range as a sample of 32 bits, with either sign. Assumes nothing.
use mathlib.Core.Path.{◌≡◌, ap, sym, subst, ◌∙◌}
use Prim.Native.Nat.{ℕ, zero, suc, ◌≤◌}
use native.Mathlib.Omega.{arith}
use lib.IntN.{ℤ, pos, neg_ℤ, ◌-ℤ◌}
use mir.Facts.{to_z_pos}
use mir.Syntax.{w32}
use mir.Val.{SFits, to_z}
use Rattle.degrees.specs.Degrees.{largest_size}
use Rattle.degrees.proofs.Signs.{below-zero}

pub plain : (n : ℕ) → n ≤ largest_size → to_z w32 n ≡ pos n
plain n h = to_z_pos w32 (omega arith)

pub turned : (n : ℕ) → n ≤ largest_size → pos 0 -ℤ to_z w32 n ≡ neg_ℤ (pos n)
turned n h = ap (λ (z : ℤ). pos 0 -ℤ z) (plain n h) ∙ below-zero n

negated_fits : (n : ℕ) → n ≤ largest_size → SFits w32 (neg_ℤ (pos n))
negated_fits zero h = omega arith
negated_fits (suc n) h = omega arith

pub turned_fits : (n : ℕ) → n ≤ largest_size → SFits w32 (pos 0 -ℤ to_z w32 n)
turned_fits n h = subst (SFits w32) (sym (turned n h)) (negated_fits n h)
