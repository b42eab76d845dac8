-- The loop that both figures share: from above where `up` is true, and else from below. Assumes nothing.
use mathlib.Core.Path.{◌≡◌, refl, sym, ◌∙◌}
use mathlib.Core.Bool.{Bool, true, false, cond}
use Prim.Native.Nat.{ℕ, suc, ◌+◌, ◌-◌, ◌/◌, ◌%◌, ◌≤◌, ◌<◌}
use native.Mathlib.Nat.{add-zero}
use native.Mathlib.Numerals.{add-one}
use native.Mathlib.Omega.{arith}
use lib.Dec.{eqb, lit≤}
use mir.Val.{bool_byte}
use Rattle.exponential.specs.declared.Power.{Power}
use Rattle.exponential.specs.Exponential.{one, past}
use Rattle.exponential.specs.Ours.{nothing, our_down, our_up, row_of, rows_down, rows_up, times_down, times_up, unit}
use Rattle.exponential.specs.Steps.{Factors}
use Rattle.exponential.proofs.Figures.{none_our_down, none_our_up, rows_down_lem, rows_up_lem, turned_down, turned_up, whole_down, whole_up}
use Rattle.exponential.proofs.Rows.{rows}
use Rattle.exponential.proofs.Turn.{AfterDown, AfterUp, factors_down, factors_up, starts}

-- the figure of the bits below i, beside what is left of the definition's rows
abbrev pub AfterOf : Bool → ℕ → ℕ → ℕ → Power → Type 0
AfterOf false x i rest p = AfterDown x i rest p.mantissa p.shift × (rows_down (26 - i) i rest p ≡ rows_down 26 0 x unit)
AfterOf true x i rest p = AfterUp x i rest p.mantissa p.shift × (rows_up (26 - i) i rest p ≡ rows_up 26 0 x unit)

-- a figure times row i, or times the number after it
abbrev pub times_of : Bool → Power → ℕ → Power
times_of up p i = cond up (times_up p ((row_of i).mantissa + bool_byte up) (row_of i).shift) (times_down p ((row_of i).mantissa + bool_byte up) (row_of i).shift)

pub starts_of : (up : Bool) (x : ℕ) → AfterOf up x 0 x unit
starts_of false x = (starts 1 1 (suc one) one 4294967295 (lit≤ tt) x, refl)
starts_of true x = (starts one (suc one) 1 1 4294967296 (lit≤ tt) x, refl)

pub none_of : (up : Bool) (x : ℕ) → past ≤ x → nothing ≡ cond up (our_up x) (our_down x)
none_of false x h = none_our_down x h
none_of true x h = none_our_up x h

pub next_fits : (up : Bool) (i : ℕ) → i < 26 → (row_of i).mantissa + bool_byte up < 4294967296
next_fits false i h = omega (arith, (rows i h).below_two)
next_fits true i h = omega (arith, (rows i h).below_two)

pub factors_of : (up : Bool) (x i rest : ℕ) (p : Power) → AfterOf up x i rest p → i < 26 → Factors p.mantissa p.shift ((row_of i).mantissa + bool_byte up) (row_of i).shift
factors_of false x i rest p a h = rw add-zero (factors_down x i rest p.mantissa p.shift _ _ a.0 (rows i h))
factors_of true x i rest p a h = rw add-one (factors_up x i rest p.mantissa p.shift _ _ a.0 (rows i h))

pub turned_of : (up : Bool) (x i rest : ℕ) (p : Power) → AfterOf up x i rest p → i < 26 → AfterOf up x (i + 1) (rest / 2) (cond (eqb (rest % 2) 1) (times_of up p i) p)
turned_of false x i rest p a h = simp add-zero (turned_down x i rest p a.0 h, sym (rows_down_lem i rest p h) ∙ a.1)
turned_of true x i rest p a h = rw (add-one (row_of i).mantissa) (turned_up x i rest p a.0 h, sym (rows_up_lem i rest p h) ∙ a.1)

pub whole_of : (up : Bool) (x i rest : ℕ) (p : Power) → AfterOf up x i rest p → 26 ≤ i → x < past → p ≡ cond up (our_up x) (our_down x)
whole_of false x i rest p a h l = whole_down x i rest p l h a.1
whole_of true x i rest p a h l = whole_up x i rest p l h a.1
