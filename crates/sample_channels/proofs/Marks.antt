-- What is noted of a block's samples (`sample_channels::mark`): all of them, where there is room, and what stands at a
-- place. Assumes nothing.
use Prim.Native.Nat.{ℕ, ◌+◌, ◌≤◌, min}
use mathlib.Core.Path.{◌≡◌, sym, ap, ◌∙◌}
use mathlib.Core.Bool.{Bool, false}
use mathlib.Core.List.{List, map}
use native.Mathlib.Omega.{arith}
use borrow.Author.Tests.{le-ltb}
use lib.IntN.{ℤ}
use lib.ListN.{length, take, drop, get_or, length-map, get_or-map}
use lib.Seq.{paste, take_at, take_all}
use Rattle.sample_channels.specs.declared.Levels.{Levels}
use Rattle.sample_channels.specs.Channels.{above, still, moments}
use Rattle.sample_channels.proofs.Moments.{moments_length}

-- with room for all, the slice starts with what each sample is
pub marks_front :
    (a : Levels) (xs ys : List ℤ) (ups : List Bool)
    → length xs ≡ length ys
    → length xs ≤ length ups
    → take (length xs) (paste ups 0 (map (above a) (moments xs ys)) (min (length ups) (length (moments xs ys)))) ≡ map (above a) (moments xs ys)
marks_front a xs ys ups same l =
    let p = moments xs ys in
    let n = moments_length xs ys same in
    let m : min (length ups) (length p) ≡ length xs = omega (arith, n) in
    let all = take_all (length xs) (map (above a) p) (omega (arith, n, length-map p (above a))) in
    rw (m, all) (take_at (map (above a) p) (drop (0 + length xs) ups) (length xs) (length-map p (above a) ∙ n))

-- as many as samples
pub marks_many : (a : Levels) (xs ys : List ℤ) → length xs ≡ length ys → length (map (above a) (moments xs ys)) ≡ length xs
marks_many a xs ys same = length-map (moments xs ys) (above a) ∙ moments_length xs ys same

-- 0 in both channels is above no level
still_low : (a : Levels) → above a still ≡ false
still_low a = rw (le-ltb a.roll 0 (omega arith), le-ltb a.acceleration 0 (omega arith))

-- at a place, whether the sample there is above
pub marks_at : (a : Levels) (xs ys : List ℤ) (i : ℕ) → get_or (map (above a) (moments xs ys)) i false ≡ above a (get_or (moments xs ys) i still)
marks_at a xs ys i = sym (ap (get_or (map (above a) (moments xs ys)) i) (still_low a)) ∙ get_or-map (above a) (moments xs ys) i still
