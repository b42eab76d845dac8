-- A promise that equates the answer with a value allows one answer; and so of the three functions here. Assumes
-- nothing.
use mathlib.Core.Path.{◌≡◌}
use mathlib.Core.Bool.{Bool, cond, ◌&&◌, ◌||◌}
use Prim.Native.Nat.{ℕ}

pub settled {ℓ} : {A : Type ℓ} {r s v : A} → r ≡ v → s ≡ v → r ≡ s
settled p q = cc

pub both_unique : (b c r s : Bool) → r ≡ (b && c) → s ≡ (b && c) → r ≡ s
both_unique b c r s = settled

pub either_unique : (b c r s : Bool) → r ≡ (b || c) → s ≡ (b || c) → r ≡ s
either_unique b c r s = settled

pub pick_unique : (b : Bool) (x y r s : ℕ) → r ≡ cond b x y → s ≡ cond b x y → r ≡ s
pick_unique b x y r s = settled
