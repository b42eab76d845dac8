-- Document 001, 3.2: the time between the peaks handed out is more than the decorrelation time. The samples are in
-- order of time, and what is left of a list in order is in order; a chain ends more than τ before the next one starts.
-- Assumes nothing.
use Prim.Native.Nat.{ℕ, ◌+◌, ◌≤◌}
use mathlib.Core.Bool.{Bool, true, false, cond}
use mathlib.Core.List.{List, [], ◌∷◌}
use native.Mathlib.Omega.{arith}
use lib.ListN.{length, drop}
use lib.Dec.{eqb}
use lib.IntN.{ℤ}
use borrow.Author.Tests.{leb-false}
use Rattle.peak_groups.specs.declared.Peak.{Peak}
use Rattle.peak_groups.specs.Groups.{inner, tops}
use Rattle.peak_groups.specs.Largest.{Spaced}
use Rattle.peak_groups.proofs.Spacing.{earlier, skip, spaced_those, spaced_inner, spaced_tops, in_order}
use Rattle.peak_groups.specs.Runs.{side, points, started, same_side, peaks}
use Rattle.peak_groups.specs.Peaks.{sum, high, alike, kept, close, handed}

spaced_points : (D : ℕ) → 1 ≤ D → (s : Bool) (t : ℕ) (xs : List ℤ) → Spaced 1 t (points D s t xs)
unfolding points
spaced_points D h s t [] = tt
spaced_points D h s t (x ∷ xs) = (omega arith, earlier 1 (omega arith) (points D (side s x) (t + D) xs) (spaced_points D h (side s x) (t + D) xs))

spaced_started : (t : ℕ) (l : List Peak) → Spaced 1 t l → Spaced 1 t (started l)
unfolding started
spaced_started t [] s = tt
spaced_started t (p ∷ l) s = go (eqb p.size 0) (spaced_started t l (skip 1 p l s.0 s.1))
  where
    go : (b : Bool) → Spaced 1 t (started l) → Spaced 1 t (cond b (started l) (p ∷ l))
    go true k = k
    go false k = s

pub handed_apart : (D R τ : ℕ) (xs : List ℤ) → 1 ≤ D → Spaced (τ + 1) 0 (handed D R τ xs)
unfolding peaks
handed_apart D R τ xs h =
    let q = points D false 0 (drop R xs) in
    let l = peaks D (drop R xs) in
    let f = alike (length l) (sum l) in
    let s : Spaced 1 0 l = spaced_inner 0 (tops same_side (started q)) (in_order same_side 0 (started q) (spaced_started 0 q (spaced_points D h false 0 (drop R xs)))) in
    let k : Spaced 1 0 (kept l) = spaced_those (high (length l) (sum l)) 0 (inner (tops f l)) (spaced_inner 0 (tops f l) (in_order f 0 l s)) in
    spaced_tops (τ + 1) (close τ) (λ x y m e. omega (arith, leb-false y.time (x.time + τ) e)) 0 (kept l) k
