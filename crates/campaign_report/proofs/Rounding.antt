-- Blocks are N divided by 5 and rounded up: enough for N, and one block fewer is not. Assumes nothing.
use Prim.Native.Nat.{ℕ, ◌*◌, ◌≤◌}
use native.Mathlib.Omega.{arith}
use Rattle.campaign_report.specs.Report.{blocks}

pub blocks_enough : (n : ℕ) → n ≤ 5 * blocks n
blocks_enough n = omega arith

pub blocks_least : (n b : ℕ) → n ≤ 5 * b → blocks n ≤ b
blocks_least n b h = omega arith
