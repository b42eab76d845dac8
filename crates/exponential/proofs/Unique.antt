-- Two answers that a promise allows are the same answer: each promise equates the answer with our figure. Assumes
-- nothing.
use mathlib.Core.Path.{◌≡◌, sym, ◌∙◌}
use Prim.Native.Nat.{ℕ}
use Rattle.exponential.specs.declared.Power.{Power}
use Rattle.exponential.specs.Exponential.{Down, Up}
use Rattle.exponential.specs.Ours.{our_down, our_up}

pub down_unique : (x : ℕ) (a b : Power) → (a ≡ our_down x) × Down x a.mantissa a.shift
    → (b ≡ our_down x) × Down x b.mantissa b.shift → a ≡ b
down_unique x a b p q = p.0 ∙ sym q.0

pub up_unique : (x : ℕ) (a b : Power) → (a ≡ our_up x) × Up x a.mantissa a.shift
    → (b ≡ our_up x) × Up x b.mantissa b.shift → a ≡ b
up_unique x a b p q = p.0 ∙ sym q.0
