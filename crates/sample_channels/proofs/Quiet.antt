-- Where no sample of either channel is above its level, no moment is; and the ends of both channels' blocks say so.
-- Assumes nothing.
use Prim.Native.Nat.{ℕ, ◌-◌, ◌≤◌, ◌<◌}
use mathlib.Core.Path.{◌≡◌}
use mathlib.Core.Bool.{false, ◌||◌}
use mathlib.Core.List.{List, ◌∷◌}
use native.Mathlib.Omega.{arith}
use lib.ListN.{length, get_or, take, drop}
use lib.IntN.{ℤ}
use Rattle.truth.proofs.Laws.{neither}
use Rattle.sample_block.specs.declared.Ends.{Ends}
use Rattle.sample_block.specs.Block as one-channel
use Rattle.sample_block.proofs.Quiet as one
use Rattle.sample_block.proofs.Sides as sides
use Rattle.sample_channels.specs.declared.Levels.{Levels}
use Rattle.sample_channels.specs.Channels.{moment, still, above, moments, past_ends, any_above}
use Rattle.sample_channels.proofs.Moments.{moments_at}

both_quiet : (a : Levels) (xs ys : List ℤ) → any_above a xs ys ≡ false → (one-channel.any_above a.roll xs ≡ false) × (one-channel.any_above a.acceleration ys ≡ false)
both_quiet a xs ys e = neither (one-channel.any_above a.roll xs) (one-channel.any_above a.acceleration ys) e

pub first_quiet : (a : Levels) (x y : ℤ) (xs ys : List ℤ) → any_above a (x ∷ xs) (y ∷ ys) ≡ false → (above a (moment x y) ≡ false) × (any_above a xs ys ≡ false)
first_quiet a x y xs ys e =
    let q = both_quiet a (x ∷ xs) (y ∷ ys) e in
    let f = one.first_quiet a.roll x xs q.0 in
    let g = one.first_quiet a.acceleration y ys q.1 in
    (rw (f.0, g.0), rw (f.1, g.1))

-- no moment of a quiet block is above
pub quiet_at : (a : Levels) (xs ys : List ℤ) (i e k : ℕ) → e ≤ length xs → e ≤ length ys → i ≤ k → k < e → any_above a (take (e - i) (drop i xs)) (take (e - i) (drop i ys)) ≡ false
    → above a (get_or (moments xs ys) k still) ≡ false
quiet_at a xs ys i e k l m h n q =
    let b = both_quiet a (take (e - i) (drop i xs)) (take (e - i) (drop i ys)) q in
    rw (moments_at xs ys k (omega arith) (omega arith), one.quiet_at a.roll xs i e k l h n b.0, one.quiet_at a.acceleration ys i e k m h n b.1)

pub ends_say : (a : Levels) (xs ys : List ℤ) (e f : Ends) → (e.lowest ≡ one-channel.lowest xs)
    × (e.highest ≡ one-channel.highest xs) → (f.lowest ≡ one-channel.lowest ys)
    × (f.highest ≡ one-channel.highest ys)
    → (past_ends a.roll e || past_ends a.acceleration f) ≡ any_above a xs ys
ends_say a xs ys e f p q = rw (p.0, p.1, q.0, q.1, sides.ends_say a.roll xs, sides.ends_say a.acceleration ys)
