-- Trying one number after the other finds the least whose square times p is at least a, and there is no other: squares
-- grow, so a number that is too small makes every smaller one too small. Assumes nothing.
use mathlib.Core.Path.{◌≡◌, refl}
use Prim.Native.Nat.{ℕ, zero, suc, ◌+◌, ◌*◌, ◌≤◌, ◌<◌}
use native.Mathlib.Nat.{mul-le-mul, mul-le-mul_right, zero-add}
use native.Mathlib.Omega.{arith}
use borrow.Author.Tests.{leb-false, leb-true, ne_eqb}
use lib.Dec.{leb}
use Rattle.truth.proofs.Cases.{by_order, by_test}
use Rattle.root.specs.Root.{Least, first_from, least_root}

-- two least numbers are one
pub only_least : {a p m n : ℕ} → Least a p m → Least a p n → m ≡ n
only_least {m = m} {n = n} l k = omega (arith, l.least n k.enough, k.least m l.enough)

-- what is enough is more than what is too small
pub past_small : (a p m k : ℕ) → m * m * p < a → a ≤ k * k * p → suc m ≤ k
past_small a p m k small enough =
    by_order m k (λ l. l) (λ l. absurd (omega (arith, mul-le-mul_right p (mul-le-mul l l))))

none_on : (m : ℕ) → m + 0 ≡ m
none_on m = omega arith

one_on : (m k : ℕ) → m + suc k ≡ suc m + k
one_on m k = omega arith

-- none before m is enough, and one of the next k is
pub tried : (a p m k : ℕ) → ((j : ℕ) → a ≤ j * j * p → m ≤ j) → a ≤ (m + k) * (m + k) * p → Least a p (first_from a p m k)
unfolding first_from
tried a p m zero before enough = record { enough = omega (arith, rw (none_on m) at enough); least = before }
tried a p m (suc k) before enough =
    by_test (leb a (m * m * p))
    (λ e. rw e (record { enough = leb-true _ _ e; least = before }))
    (λ e. rw e (tried a p (suc m) k (λ j h. past_small a p m j (leb-false _ _ e) h) (rw (one_on m k) at enough)))

some : (n : ℕ) → 1 ≤ suc n
some n = omega arith

itself : (a p : ℕ) → 1 ≤ p → a ≤ a * a * p
itself zero p h = omega arith
itself (suc a) p h = omega (arith, mul-le-mul_right (suc a) (some a), mul-le-mul (mul-le-mul_right (suc a) (some a)) h)

pub least_root_lem : (a p : ℕ) → 1 ≤ p → Least a p (least_root a p)
unfolding least_root
least_root_lem a p h = rw (ne_eqb p 0 (λ z. omega arith)) (tried a p 0 a (λ j e. omega arith) (rw zero-add (itself a p h)))

pub no_root : (a : ℕ) → least_root a 0 ≡ 0
unfolding least_root
no_root a = refl

-- a number is it whose square is enough, and that of the number before it is not
pub root_is : (a p m : ℕ) → 1 ≤ p → a ≤ suc m * suc m * p → m * m * p < a → least_root a p ≡ suc m
root_is a p m some enough short =
    only_least (least_root_lem a p some) (record { enough = enough; least = λ k e. past_small a p m k short e })
