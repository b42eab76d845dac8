-- A list cut in blocks: a block that starts within the list is not empty and ends within it, at most 64 samples on, and
-- the samples from i on are the block from i to e and the samples from e on. Assumes nothing.
use Prim.Native.Nat.{ℕ, ◌+◌, ◌-◌, ◌≤◌, ◌<◌}
use mathlib.Core.Path.{◌≡◌, refl, sym, ap, ◌∙◌}
use mathlib.Core.Bool.{Bool, true, false, cond}
use mathlib.Core.List.{List, ◌++◌}
use native.Mathlib.Omega.{arith}
use lib.ListN.{length, take, drop, take-append-drop, length-drop}
use lib.Seq.{drop-drop, length-take-le}
use lib.Dec.{leb}
use borrow.Author.Tests.{leb-true, leb-false}
use Rattle.sample_block.specs.Block.{block_end}

pub end_within : (i n : ℕ) {e : ℕ} → e ≡ block_end i n → i < n → (i < e) × (e ≤ n)
unfolding block_end
end_within i n {e} d h = rw d (go (leb (i + 64) n) refl)
  where
    go : (b : Bool) → leb (i + 64) n ≡ b → (i < cond b (i + 64) n) × (cond b (i + 64) n ≤ n)
    go true e = (omega arith, leb-true (i + 64) n e)
    go false e = (h, omega arith)

pub end_near : (i n : ℕ) {e : ℕ} → e ≡ block_end i n → e ≤ i + 64
unfolding block_end
end_near i n {e} d = rw d (go (leb (i + 64) n) refl)
  where
    go : (b : Bool) → leb (i + 64) n ≡ b → cond b (i + 64) n ≤ i + 64
    go true e = omega arith
    go false e = omega (arith, leb-false (i + 64) n e)

module _ {A : Type 0} (xs : List A) (i e : ℕ) (h : i ≤ e) (l : e ≤ length xs) where
  pub block_length : length (take (e - i) (drop i xs)) ≡ e - i
  block_length = length-take-le (e - i) (drop i xs) (omega (arith, length-drop i xs))

  pub block_cut : drop i xs ≡ take (e - i) (drop i xs) ++ drop e xs
  block_cut =
      let k : i + (e - i) ≡ e = omega arith in
      sym (take-append-drop (e - i) (drop i xs)) ∙ ap (λ (l : List A). take (e - i) (drop i xs) ++ l) (drop-drop (e - i) i xs ∙ ap (λ (n : ℕ). drop n xs) k)
