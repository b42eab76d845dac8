-- Laws of tests, for the proofs above: from a test that holds to its parts, and from an answer to the fact that it
-- tests. Assumes nothing.
use mathlib.Core.Path.{◌≡◌, refl, subst, sym, ◌∙◌}
use mathlib.Core.Bool.{Bool, cond, false, not, true, ◌&&◌, ◌||◌}
use Prim.Native.Nat.{ℕ}
use native.Mathlib.Omega.{arith}
use lib.Dec.{T}
use borrow.Author.Tests.{not-false, not-true}

pub holds : {b : Bool} → b ≡ true → T b
holds e = subst T (sym e) tt

pub true≢false : true ≡ false → ⊥
true≢false e = subst T e tt

pub and-true : (a b : Bool) → (a && b) ≡ true → (a ≡ true) × (b ≡ true)
and-true true b e = (refl, e)
and-true false b e = absurd (true≢false (sym e))

pub both_true : {a b : Bool} → a ≡ true → b ≡ true → (a && b) ≡ true
both_true d e = rw (d, e)

pub neither : (a b : Bool) → (a || b) ≡ false → (a ≡ false) × (b ≡ false)
neither true b e = absurd (true≢false e)
neither false b e = (refl, e)

pub no : (b : Bool) → ¬ T b → b ≡ false
no true f = absurd (f tt)
no false f = refl

pub is_true : (b : Bool) → T b → b ≡ true
is_true true t = refl
is_true false t = absurd t

-- what `if !r` tells, where r answers a test b
pub said_no : {r b : Bool} → r ≡ b → not r ≡ true → b ≡ false
said_no {r} e n = sym e ∙ not-true r n

pub said_yes : {r b : Bool} → r ≡ b → not r ≡ false → b ≡ true
said_yes {r} e n = sym e ∙ not-false r n

-- "a only if b"
pub only_if : (a b : Bool) → T (not a || b) → T a → T b
only_if true b t h = t
only_if false b t h = absurd h

pub only_if_i : (a b : Bool) → (T a → T b) → T (not a || b)
only_if_i true b f = f tt
only_if_i false b f = tt

-- ---- answers that are cases of one type
-- two cases are never equal; `cc` makes this of an equation between them
pub impossible : {P : Type 0} → ◌≡◌ {A = ℕ} 0 1 → P
impossible z = absurd (omega arith)

-- past one test of a list of refusals: what comes out is none of them, so the test did not hold
pub past {ℓ} : {A : Type ℓ} (b : Bool) {r a t : A} → ¬ (r ≡ t) → cond b r a ≡ t → (b ≡ false) × (a ≡ t)
past true n e = absurd (n e)
past false n e = (refl, e)
