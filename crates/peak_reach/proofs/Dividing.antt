-- 2 ^ 20 a / d by one bit after the other: what is left is doubled, and d taken off where it reaches that. Assumes
-- nothing.
use mathlib.Core.Path.{◌≡◌}
use Prim.Native.Nat.{ℕ, ◌+◌, ◌-◌, ◌*◌, ◌/◌, ◌%◌, ◌≤◌, ◌<◌}
use native.Mathlib.Nat.{div-lt_iff_lt-mul, div-add-mod', mod-lt, pow-suc}
use native.Mathlib.Numerals.{add-one}
use native.Mathlib.Omega.{arith}
use lib.Pow.{pow_mono}
use Rattle.peak_reach.specs.Steps.{Division}

pub record Turn (a d i x rest : ℕ) : Type 0 where
  pub so_far : Division i a d x rest
  pub among : i ≤ 20

pub starts : (a d : ℕ) → 1 ≤ d → a < 64 * d → Turn a d 0 (a / d) (a % d)
starts a d some small =
    record {
      so_far = record {
        whole = omega (arith, div-add-mod' a d);
        less = mod-lt a some;
        small = ((div-lt_iff_lt-mul {k = d} {x = a} {y = 64 * 1} some).1 (omega arith));
      };
      among = omega arith;
    }

module _ (a d i x rest : ℕ) (t : Turn a d i x rest) (more : i < 20) where
  pub small : x < 67108864
  small = omega (arith, t.so_far.small, pow_mono {i = i} {j = 20} (omega arith))

  pub no_bit : 2 * rest < d → Turn a d (i + 1) (2 * x) (2 * rest)
  no_bit h =
      record {
        so_far = rw (add-one i) (record {
          whole = rw (pow-suc 2 i) (omega (arith, t.so_far.whole));
          less = h;
          small = rw (pow-suc 2 i) (omega (arith, t.so_far.small));
        });
        among = omega arith;
      }

  pub a_bit : d ≤ 2 * rest → Turn a d (i + 1) (2 * x + 1) (2 * rest - d)
  a_bit h =
      record {
        so_far = rw (add-one i) (record {
          whole = rw (pow-suc 2 i) (omega (arith, t.so_far.whole));
          less = omega (arith, t.so_far.less);
          small = rw (pow-suc 2 i) (omega (arith, t.so_far.small));
        });
        among = omega arith;
      }

pub ends : (a d i x rest : ℕ) → Turn a d i x rest → 20 ≤ i → Division 20 a d x rest
ends a d i x rest t h = let e : i ≡ 20 = omega (arith, t.among) in rw e at t.so_far
