-- The first bad sample of a piece, taken apart and joined. Assumes nothing.
use Prim.Native.Nat.{ℕ, suc, ◌+◌, ◌≤◌, ◌<◌, suc-le-suc}
use mathlib.Core.Path.{◌≡◌, refl, sym, ap, ◌∙◌}
use mathlib.Core.Bool.{Bool, true, false, cond, not, ◌&&◌, ◌||◌}
use mathlib.Core.List.{List, [], ◌∷◌, ◌++◌}
use native.Mathlib.Omega.{arith}
use lib.ListN.{length}
use lib.Dec.{leb, ltb}
use lib.IntN.{ℤ, nat_abs}
use borrow.Author.Tests.{leb-true, leb-false, ltb-false, le-leb, le-ltb, lt-ltb}
use Rattle.truth.proofs.Laws.{true≢false}
use Rattle.std.specs.List.{prefix_len}
use Rattle.sample_block.specs.declared.Ends.{Ends}
use Rattle.sample_block.specs.Block.{lowest, highest, any_above}
use Rattle.sample_block.proofs.Quiet.{first_quiet}
use Rattle.sample_block.proofs.Sides.{ends_say}
use Rattle.sample_range.specs.Range.{sample_limit, sample_in_range, first_bad}

-- the first bad place is how many are in range before it
pub counted : (xs : List ℤ) → first_bad xs ≡ prefix_len sample_in_range xs
unfolding first_bad
counted [] = refl
counted (x ∷ xs) = rw (counted xs) (go (sample_in_range x))
  where
    go : (b : Bool) → cond b (suc (prefix_len sample_in_range xs)) 0 ≡ cond b (1 + prefix_len sample_in_range xs) 0
    go true = omega arith
    go false = refl

-- where no sample is bad, the first is not, and none of the others
pub good_head : (x : ℤ) (xs : List ℤ) → first_bad (x ∷ xs) ≡ suc (length xs) → (sample_in_range x ≡ true) × (first_bad xs ≡ length xs)
unfolding first_bad
good_head x xs = go (sample_in_range x)
  where
    go : (b : Bool) → cond b (suc (first_bad xs)) 0 ≡ suc (length xs) → (b ≡ true) × (first_bad xs ≡ length xs)
    go true e = (refl, omega arith)
    go false e = absurd (omega arith)

pub bad_append : (p q : List ℤ) → first_bad p ≡ length p → first_bad (p ++ q) ≡ length p + first_bad q
unfolding first_bad
bad_append [] q h = omega arith
bad_append (x ∷ p) q h = let g = good_head x p h in rw g.0 (omega (arith, bad_append p q g.1))

pub bad_within : (p : List ℤ) → first_bad p ≤ length p
unfolding first_bad
bad_within [] = omega arith
bad_within (x ∷ p) = go (sample_in_range x) (bad_within p)
  where
    go : (b : Bool) → first_bad p ≤ length p → cond b (suc (first_bad p)) 0 ≤ suc (length p)
    go true h = omega arith
    go false h = omega arith

-- where no sample of two pieces joined is bad, none of the first is
pub good_left : (p q : List ℤ) → first_bad (p ++ q) ≡ length (p ++ q) → first_bad p ≡ length p
unfolding first_bad
good_left [] q h = refl
good_left (x ∷ p) q h = let g = good_head x (p ++ q) h in rw g.0 (ap suc (good_left p q g.1))

-- the first bad sample of two pieces joined is that of the first, where that has one
pub bad_left : (p q : List ℤ) → first_bad p < length p → first_bad (p ++ q) ≡ first_bad p
unfolding first_bad
bad_left [] q h = absurd (omega arith)
bad_left (x ∷ p) q h = go (sample_in_range x) h (bad_left p q)
  where
    go : (b : Bool) → cond b (suc (first_bad p)) 0 < suc (length p) → (first_bad p < length p → first_bad (p ++ q) ≡ first_bad p) → cond b (suc (first_bad (p ++ q))) 0 ≡ cond b (suc (first_bad p)) 0
    go true h i = ap suc (i (omega arith))
    go false h i = refl

-- samples none of which is above the limit are in range, and no others
pub quiet_good : (p : List ℤ) → any_above sample_limit p ≡ false → first_bad p ≡ length p
unfolding first_bad
quiet_good [] h = refl
quiet_good (x ∷ p) h =
    let w = first_quiet sample_limit x p h in
    rw (le-leb (nat_abs x) sample_limit (ltb-false sample_limit (nat_abs x) w.0)) (ap suc (quiet_good p w.1))

pub loud_bad : (p : List ℤ) → any_above sample_limit p ≡ true → first_bad p < length p
unfolding first_bad any_above
loud_bad [] h = absurd (true≢false (sym h))
loud_bad (x ∷ p) h = go (sample_in_range x) refl (loud_bad p)
  where
    go : (b : Bool) → sample_in_range x ≡ b → (any_above sample_limit p ≡ true → first_bad p < length p) → cond b (suc (first_bad p)) 0 < suc (length p)
    go true e i = suc-le-suc (i (rw (le-ltb sample_limit (nat_abs x) (leb-true (nat_abs x) sample_limit e)) at h))
    go false e i = omega arith

-- a block and what follows it: the first bad sample is the block's, where one of the block is above the limit, and else
-- that of what follows
pub loud_first : (p q : List ℤ) → any_above sample_limit p ≡ true → first_bad (p ++ q) ≡ prefix_len sample_in_range p
loud_first p q e = bad_left p q (loud_bad p e) ∙ counted p

pub quiet_passed : (p q : List ℤ) → any_above sample_limit p ≡ false → first_bad (p ++ q) ≡ length p + first_bad q
quiet_passed p q e = bad_append p q (quiet_good p e)

-- the ends of samples say whether one is bad
turned : (n : ℕ) → not (leb n sample_limit) ≡ ltb sample_limit n
turned n = go (leb n sample_limit) refl
  where
    go : (b : Bool) → leb n sample_limit ≡ b → not b ≡ ltb sample_limit n
    go true e = sym (le-ltb sample_limit n (leb-true n sample_limit e))
    go false e = sym (lt-ltb sample_limit n (leb-false n sample_limit e))

neither : (b c : Bool) → not (b && c) ≡ (not b || not c)
neither true c = refl
neither false c = refl

pub ends_bad : (p : List ℤ) → not (sample_in_range (lowest p) && sample_in_range (highest p)) ≡ any_above sample_limit p
ends_bad p = neither (sample_in_range (lowest p)) (sample_in_range (highest p)) ∙ rw (turned (nat_abs (lowest p)), turned (nat_abs (highest p))) (ends_say sample_limit p)

pub ends_tell : (p : List ℤ) (e : Ends) → e.lowest ≡ lowest p → e.highest ≡ highest p → not (sample_in_range e.lowest && sample_in_range e.highest) ≡ any_above sample_limit p
ends_tell p e l h = rw (l, h) (ends_bad p)
