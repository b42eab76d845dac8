-- What the two promises say of each other: a lower figure is never above an upper one, and both grow with X, since one
-- unit of the exponent is more than the one part in 40,000,000 that they may lack. Assumes nothing.
use mathlib.Core.Path.{◌≡◌}
use Prim.Native.Nat.{ℕ, suc, ◌+◌, ◌*◌, ◌^◌, ◌≤◌, ◌<◌}
use native.Mathlib.Nat.{le_of_mul-le-mul_right, le_refl}
use native.Mathlib.Omega.{arith}
use lib.Dec.{lit<}
use Rattle.truth.proofs.Cases.{by_order}
use Rattle.exponential.specs.Exponential.{Down, Up, one, parts, past}
use Rattle.exponential.specs.Ours.{down_times, our_down, our_up, up_times}
use Rattle.exponential.specs.Tables.{mantissas, shifts}
use Rattle.exponential.proofs.Bounds.{Below, below_times, between, from_not_passed, from_reached}
use Rattle.exponential.proofs.Figures.{down_is, up_is}
use Rattle.exponential.proofs.Rows.{rows}

pub down_below_up : (X m s n t : ℕ) → X < past → Down X m s → Up X n t → m * 2 ^ s ≤ n * 2 ^ t
down_below_up X m s n t h d u =
    le_of_mul-le-mul_right {k = one}
    (between (le_refl X) (from_reached (m * 2 ^ s) one X d.never_above) (from_not_passed (n * 2 ^ t) one X (u.never_below h)))
    (lit< tt)

-- row 0: one unit of the exponent
unit : Below 2147485696 one 1
unfolding mantissas shifts
unit = from_reached 2147485696 one 1 (rows 0 (lit< tt)).meets

pub down_grows : (X Y m s n t : ℕ) → X < Y → Y < past → Down X m s → Down Y n t → m * 2 ^ s ≤ n * 2 ^ t
down_grows X Y m s n t h k d e =
    le_of_mul-le-mul_right {k = one * one * suc parts}
    (omega (
      arith,
      between {x = X + 1} {y = Y} (omega arith) (below_times (from_reached (m * 2 ^ s) one X d.never_above) unit)
          (from_not_passed (n * 2 ^ t * suc parts) (one * parts) Y (e.near k)),
    ))
    (lit< tt)

pub up_grows : (X Y m s n t : ℕ) → X < Y → Y < past → Up X m s → Up Y n t → m * 2 ^ s ≤ n * 2 ^ t
up_grows X Y m s n t h k d e =
    le_of_mul-le-mul_right {k = one * one * suc parts}
    (omega (
      arith,
      between {x = X + 1} {y = Y} (omega arith) (below_times (from_reached (m * 2 ^ s * parts) (one * suc parts) X d.near) unit)
          (from_not_passed (n * 2 ^ t) one Y (e.never_below k)),
    ))
    (lit< tt)

-- so our own figures grow
pub our_down_grows : (X Y : ℕ) → X ≤ Y → Y < past → down_times X ≤ down_times Y
our_down_grows X Y h k =
    by_order X Y
    (λ l. down_grows X Y (our_down X).mantissa (our_down X).shift (our_down Y).mantissa (our_down Y).shift l k (down_is X) (down_is Y))
    (λ l. let e : X ≡ Y = omega arith in rw e (le_refl (down_times Y)))

pub our_up_grows : (X Y : ℕ) → X ≤ Y → Y < past → up_times X ≤ up_times Y
our_up_grows X Y h k =
    by_order X Y
    (λ l. up_grows X Y (our_up X).mantissa (our_up X).shift (our_up Y).mantissa (our_up Y).shift l k (up_is X) (up_is Y))
    (λ l. let e : X ≡ Y = omega arith in rw e (le_refl (up_times Y)))

pub our_down_below_up : (X Y : ℕ) → X ≤ Y → Y < past → down_times X ≤ up_times Y
our_down_below_up X Y h k =
    le_of_mul-le-mul_right {k = one}
    (between h (from_reached (down_times X) one X (down_is X).never_above) (from_not_passed (up_times Y) one Y ((up_is Y).never_below k)))
    (lit< tt)
