-- `comma_read::moved_on` meets its contract. The product fits, since each of its bytes is 246 at most; and what is left,
-- with the product added back, wraps to the sum, so that it is the sum less the product. Assumes nothing.
use Rattle.std.proofs.Common.{◌≡◌, ℕ, ◌+◌, ◌*◌, ◌/◌, ◌%◌, ◌^◌, ◌<◌, ◌≤◌, arith}
use lib.Bits.{bit_and, and_le_r}
use Rattle.comma_word.specs.Dial.{each, less, turned}
use Rattle.comma_read.proofs.moved_on.Goals as goal

-- whatever top bits are looked at
product_fits : (x bits : ℕ) → bits ≤ each 128 8 → bit_and x bits / 128 * 246 < 2 ^ 64
unfolding each
product_fits x bits h = omega (arith, and_le_r x bits)

less-is : (x y r : ℕ) → y < 2 ^ 64 → r < 2 ^ 64 → (r + y) % 2 ^ 64 ≡ x → r ≡ less x y
less-is x y r hy hr e = omega arith

pub returns : goal.returns
unfolding turned each
returns c =
    let x = c.wrapping_add_u64-x in
    rw (← x.ensures.value) (less-is x.result _ c.wrapping_sub_u64.result (product_fits x.result _ (omega arith)) (omega arith) c.wrapping_sub_u64.ensures.value)
