-- `degrees::degrees_length` meets its contract: the sign, the whole degrees, the point and three digits. Assumes
-- nothing.
use mathlib.Core.Path.{◌≡◌, ap, ◌∙◌}
use Prim.Native.Nat.{◌/◌, ◌≤◌}
use native.Mathlib.Omega.{arith}
use lib.IntN.{nat_abs}
use lib.ListN.{length}
use mir.Facts.{to_z-of_z}
use Rattle.decimal.specs.Decimal.{digits_of}
use Rattle.decimal.proofs.Text.{digits_below}
use Rattle.degrees.proofs.Signs.{sign_below, sign_other, text_length, abs_small}
use Rattle.degrees.proofs.degrees_length.Goals as goal
use Rattle.degrees.proofs.degrees_length.Goals.{After-digits-whole}

size : (c : After-digits-whole) → c.magnitude.result ≡ nat_abs c.args.x
size c = rw (to_z-of_z c.ranges.x) at c.magnitude.ensures

-- the whole degrees have seven digits at most
whole : (c : After-digits-whole) → c.digits-whole.result ≡ length (digits_of (nat_abs c.args.x / 1000))
whole c = c.digits-whole.ensures.value ∙ ap (λ n. length (digits_of (n / 1000))) (size c)

few : (c : After-digits-whole) → c.digits-whole.result ≤ 7
few c =
    rw c.digits-whole.ensures.value (digits_below 6 _ (omega (arith, size c, abs_small c.args.x c.ranges.x)))

pub returns-then-x-lt0 : goal.returns-then-x-lt0
returns-then-x-lt0 c =
    let after-digits = (goal.at.returns-then-x-lt0 c).After-digits-whole in
    record {
      value = rw (text_length, sign_below c.args.x (rw (to_z-of_z c.ranges.x) at c.if-x-lt0.true))
          (omega (arith, whole after-digits));
      upper_bound = omega (arith, few after-digits);
    }

pub returns : goal.returns
returns c =
    let after-digits = (goal.at.returns c).After-digits-whole in
    record {
      value = rw (text_length, sign_other c.args.x (rw (to_z-of_z c.ranges.x) at c.if-x-lt0.false))
          (omega (arith, whole after-digits));
      upper_bound = omega (arith, few after-digits);
    }
