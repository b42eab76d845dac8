-- The digits of a number side by side in one number of 64 bits, one a byte, like the wheels of a counter; and the step
-- by which another such number moves them on, all at once. Assumes nothing.
use Rattle.std.specs.Prelude.{ℕ, zero, suc, ◌+◌, ◌-◌, ◌*◌, ◌/◌, ◌%◌, ◌^◌}
use Rattle.std.specs.Int.Bits.{bit_and}

-- the last k digits of n, one a byte, the last lowest
unfoldable pub dial : ℕ → ℕ → ℕ
dial zero n = 0
dial (suc k) n = dial k (n / 10) * 256 + n % 10

-- the same byte k times
unfoldable pub each : ℕ → ℕ → ℕ
each b zero = 0
each b (suc k) = each b k * 256 + b

-- 1 in each byte of a number of eight whose top bit is set
abbrev pub tops : ℕ → ℕ
tops x = bit_and x (each 128 8) / 128

-- x less y, of 64 bits
abbrev pub less : ℕ → ℕ → ℕ
less x y = (x + (2 ^ 64 - y)) % 2 ^ 64

-- one number moved on by another whose bytes stand 246 above its digits. Where two digits make ten or more, their byte
-- passes 256 and the next one is moved on by one; where they do not, the 246 is left in it, its top bit shows that, and
-- it is taken away again.
unfoldable pub turned : ℕ → ℕ → ℕ
turned q d = less ((q + d) % 2 ^ 64) (tops ((q + d) % 2 ^ 64) * 246)
