-- The least number whose square times p is at least a is that of a / p rounded up, as std rounds it. Assumes nothing.
use mathlib.Core.Path.{◌≡◌}
use Prim.Native.Nat.{ℕ, min, ◌+◌, ◌*◌, ◌/◌, ◌%◌, ◌≤◌, ◌<◌}
use native.Mathlib.Nat.{div-mul-le_self, le_trans, lt-div-mul-add, mul-le-mul_right}
use native.Mathlib.Omega.{arith}
use Rattle.truth.proofs.Cases.{by_order}
use Rattle.root.specs.Root.{Least, Root, RoundedUp}

pub least_of : {a p b m : ℕ} → RoundedUp a p b → Root b m → Least a p m
least_of {p = p} u r =
    record {
      enough = le_trans u.enough (mul-le-mul_right p r.enough);
      least = λ k e. r.least k (u.least (k * k) e);
    }

-- q, and one more where q times p falls short
module _ (a p : ℕ) (some : 1 ≤ p) where
  one_more : a / p * p < a → RoundedUp a p (a / p + 1)
  one_more short =
      record {
        enough = omega (arith, lt-div-mul-add {a = a} {b = p} some);
        least = λ k e. by_order (a / p) k (λ l. omega arith) (λ l. absurd (omega (arith, mul-le-mul_right p l)));
      }

  no_more : a ≤ a / p * p → RoundedUp a p (a / p)
  no_more enough =
      record {
        enough = enough;
        least = λ k e. by_order k (a / p) (λ l. absurd (omega (arith, mul-le-mul_right p l, div-mul-le_self a p))) (λ l. l);
      }

-- as std has it
pub rounded : (a p : ℕ) → 1 ≤ p → RoundedUp a p (a / p + min 1 (a % p))
rounded a p some =
    by_order (a / p * p) a
    (λ short. let e : min 1 (a % p) ≡ 1 = omega arith in rw e (one_more a p some short))
    (λ enough. let e : a / p + min 1 (a % p) ≡ a / p = omega arith in rw e (no_more a p some enough))
