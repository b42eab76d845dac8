-- A dial moved on shows the sum. Two dials, 246 in every byte and a carry are added; by induction from the lowest byte,
-- whose digits with the carry are t: where t is below ten the byte is t + 246, its top bit is set and nothing is
-- carried; else it is t - 10, its top bit is clear and one is carried. So what is left above the sum's digits is 246 in
-- each byte whose top bit is set. Assumes nothing.
use mathlib.Core.Path.{◌≡◌, ◌∙◌}
use Prim.Native.Nat.{ℕ, zero, suc, ◌+◌, ◌-◌, ◌*◌, ◌/◌, ◌%◌, ◌^◌, ◌≤◌, ◌<◌}
use native.Mathlib.Nat.{pow-suc, zero-add}
use native.Mathlib.Omega.{arith}
use lib.Bits.{bit_and, and_block, and_zero_r}
use Rattle.truth.proofs.Cases.{by_order}
use Rattle.comma_word.specs.Dial.{dial, each, less, turned}
use Rattle.comma_word.proofs.Dial.{below}

pub fits : (d : ℕ) → dial 8 d + each 246 8 < 2 ^ 64
fits d = below 8 d

-- the top bit of a byte
top_set : (r : ℕ) → r < 128 → bit_and (128 + r) 128 ≡ 128
top_set r h = rw (and_zero_r r) at (and_block 7 1 1 r 0 h (omega arith))

top_clear : (r : ℕ) → r < 128 → bit_and r 128 ≡ 0
top_clear r h = rw (zero-add r, and_zero_r r) at (and_block 7 0 1 r 0 h (omega arith))

-- all that is added
abbrev heap : ℕ → ℕ → ℕ → ℕ → ℕ
heap k n d c = dial k n + dial k d + c + each 246 k

-- what it is: m has a 1 in each byte whose top bit is set
record Heap (k n d c m : ℕ) : Type 0 where
  room : heap k n d c < 256 ^ k
  tops : bit_and (heap k n d c) (each 128 k) ≡ m * 128
  sum : dial k (n + d + c) + m * 246 ≡ heap k n d c

-- one byte more, the lowest, and its top bit
more : (k n d c carry b top m : ℕ)
    → b < 256 → bit_and b 128 ≡ top * 128
    → n % 10 + d % 10 + c + 246 ≡ carry * 256 + b
    → Heap k (n / 10) (d / 10) carry m
    → (n + d + c) / 10 ≡ n / 10 + d / 10 + carry
    → (n + d + c) % 10 + top * 246 ≡ b
    → Heap (suc k) n d c (m * 256 + top)
unfolding dial each
more k n d c carry b top m hb t e h whole digit =
    let lower : heap (suc k) n d c ≡ heap k (n / 10) (d / 10) carry * 256 + b = omega arith in
    record {
      room = rw pow-suc (omega (arith, h.room));
      tops = rw lower (and_block 8 (heap k (n / 10) (d / 10) carry) (each 128 k) b 128 hb (omega arith) ∙ rw (h.tops, t) (omega arith));
      sum = rw whole (omega (arith, h.sum));
    }

-- where the digits and the carry are below ten, with 246 above them: its top bit, 128, and 118; and where they are not
heaps : (k n d c : ℕ) → c ≤ 1 → n + d + c < 10 ^ k → (m : ℕ) × Heap k n d c m
unfolding dial each
heaps zero n d c hc h = (0, record { room = omega arith; tops = and_zero_r (heap 0 n d c); sum = omega arith })
heaps (suc k) n d c hc h =
    let few : n + d + c < 10 ^ k * 10 = rw pow-suc at h in
    let t = n % 10 + d % 10 + c in
    by_order t 10
    (λ l.
    let (m, rest) = heaps k (n / 10) (d / 10) 0 (omega arith) (omega arith) in
    (m * 256 + 1, more k n d c 0 (128 + (t + 118)) 1 m (omega arith) (top_set (t + 118) (omega arith)) (omega arith) rest (omega arith) (omega arith)))
    (λ l.
    let (m, rest) = heaps k (n / 10) (d / 10) 1 (omega arith) (omega arith) in
    (m * 256 + 0, more k n d c 1 (t - 10) 0 m (omega arith) (top_clear (t - 10) (omega arith)) (omega arith) rest (omega arith) (omega arith)))

taken_away : (x y r : ℕ) → r + y ≡ x → x < 2 ^ 64 → less x y ≡ r
taken_away x y r e h = let over : x + (2 ^ 64 - y) ≡ r + 2 ^ 64 = omega arith in rw over (omega arith)

pub moved : (n d : ℕ) → n + d < 10 ^ 8 → turned (dial 8 n) (dial 8 d + each 246 8) ≡ dial 8 (n + d)
unfolding turned
moved n d h =
    let (m, all) = heaps 8 n d 0 (omega arith) (omega arith) in
    let whole : n + d + 0 ≡ n + d = omega arith in
    let added : (dial 8 n + (dial 8 d + each 246 8)) % 2 ^ 64 ≡ heap 8 n d 0 = omega (arith, all.room) in
    let marks : m * 128 / 128 ≡ m = omega arith in
    rw (added, all.tops, marks) (taken_away (heap 8 n d 0) (m * 246) (dial 8 (n + d)) (rw whole at all.sum) all.room)
