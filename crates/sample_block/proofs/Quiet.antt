-- Where no sample is above the level, the first is not, none of the others, and the one at a place is not. Assumes
-- nothing.
use Prim.Native.Nat.{ℕ, zero, suc, ◌+◌, ◌-◌, ◌≤◌, ◌<◌}
use mathlib.Core.Path.{◌≡◌, sym, ap, ◌∙◌}
use mathlib.Core.Bool.{false}
use mathlib.Core.List.{List, [], ◌∷◌}
use native.Mathlib.Omega.{arith}
use lib.ListN.{length, get_or, take, drop}
use lib.Seq.{get_or-take, get_or-drop}
use lib.IntN.{ℤ, pos}
use Rattle.sample_size.specs.Above.{above}
use Rattle.truth.proofs.Laws.{neither}
use Rattle.sample_block.specs.Block.{any_above}
use Rattle.sample_block.proofs.Cut.{block_length}

pub first_quiet : (a : ℕ) (x : ℤ) (xs : List ℤ) → any_above a (x ∷ xs) ≡ false → (above a x ≡ false) × (any_above a xs ≡ false)
unfolding any_above
first_quiet a x xs e = neither (above a x) (any_above a xs) e

each_quiet : (a : ℕ) (xs : List ℤ) (j : ℕ) → any_above a xs ≡ false → j < length xs → above a (get_or xs j (pos 0)) ≡ false
each_quiet a [] j e l = absurd (omega arith)
each_quiet a (x ∷ xs) zero e l = (first_quiet a x xs e).0
each_quiet a (x ∷ xs) (suc j) e l = each_quiet a xs j (first_quiet a x xs e).1 (omega arith)

-- no sample of a quiet block is above
pub quiet_at : (a : ℕ) (xs : List ℤ) (i e k : ℕ) → e ≤ length xs → i ≤ k → k < e → any_above a (take (e - i) (drop i xs)) ≡ false → above a (get_or xs k (pos 0)) ≡ false
quiet_at a xs i e k l h m q =
    let j : k - i < e - i = omega arith in
    let p : i + (k - i) ≡ k = omega arith in
    ap (above a) (sym (get_or-take (e - i) (drop i xs) (k - i) (pos 0) j ∙ get_or-drop i xs (k - i) (pos 0) ∙ ap (λ (n : ℕ). get_or xs n (pos 0)) p))
    ∙ each_quiet a (take (e - i) (drop i xs)) (k - i) q (omega (arith, block_length xs i e (omega arith) l))
