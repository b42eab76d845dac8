-- Samples at which no crossing stands, be it that they are at most the level or that the ramp is not over: only n and
-- the last sample move. Assumes nothing.
use Prim.Native.Nat.{suc, ◌+◌, ◌-◌, ◌≤◌, ◌<◌}
use mathlib.Core.Path.{◌≡◌, refl, sym, ap, ◌∙◌}
use mathlib.Core.Bool.{Bool, true, false, not, ◌&&◌}
use mathlib.Core.List.{List, [], ◌∷◌, foldl}
use native.Mathlib.Nat.{add-zero}
use native.Mathlib.Omega.{arith}
use lib.ListN.{length}
use lib.Dec.{ltb}
use lib.IntN.{ℤ}
use borrow.Author.Tests.{le-ltb}
use Rattle.sample_channels.specs.declared.Moment.{Moment}
use Rattle.sample_channels.specs.Channels.{above, moment, moments, any_above}
use Rattle.sample_channels.proofs.Quiet.{first_quiet}
use Rattle.record_state.specs.declared.Record.{Record}
use Rattle.crossing_places.specs.Reading.{sample_at, last_of}
use Rattle.record_step.specs.Step.{crosses, moved, stepped}
use Rattle.record_step.proofs.Steps.{ext}

pub data Still : Record → List Moment → Type 0 where
  none : {r : Record} → Still r []
  more : {r : Record} {x : Moment} {xs : List Moment} → crosses r x ≡ false → Still (moved r 1 x) xs → Still r (x ∷ xs)

and-false : (a b : Bool) → (a && (b && false)) ≡ false
and-false true true = refl
and-false true false = refl
and-false false b = refl

pub quiet_still : (r : Record) (xs ys : List ℤ) → any_above r.items.levels xs ys ≡ false → Still r (moments xs ys)
unfolding moments
quiet_still r [] ys h = none
quiet_still r (x ∷ xs) [] h = none
quiet_still r (x ∷ xs) (y ∷ ys) h =
    let w = first_quiet r.items.levels x y xs ys h in
    more {r = r} {x = moment x y} (rw w.0 (and-false (ltb r.items.ramp r.n) (not (above r.items.levels r.last)))) (quiet_still (moved r 1 (moment x y)) xs ys w.1)

pub ramp_still : (r : Record) (xs : List Moment) → r.n + length xs ≤ r.items.ramp + 1 → Still r xs
ramp_still r [] h = none
ramp_still r (x ∷ xs) h = more {r = r} {x = x} (rw (le-ltb r.items.ramp r.n (omega arith))) (ramp_still (moved r 1 x) xs (omega arith))

stepped_still : (r : Record) (x : Moment) → crosses r x ≡ false → stepped r x ≡ moved r 1 x
unfolding stepped
stepped_still r x h = rw h

still : (r : Record) (xs : List Moment) → Still r xs → foldl stepped r xs ≡ moved r (length xs) (last_of r.last xs)
unfolding last_of
still r [] none = ext r (moved r 0 r.last) refl (sym (add-zero r.n)) refl refl refl refl refl refl refl
still r (x ∷ xs) (more h s) =
    ap (λ (s : Record). foldl stepped s xs) (stepped_still r x h) ∙ still (moved r 1 x) xs s
    ∙ ext (moved (moved r 1 x) (length xs) (last_of x xs)) (moved r (suc (length xs)) (last_of x xs)) refl (omega arith) refl refl refl refl refl refl refl

-- the last sample, by its place
last_at : (d x : Moment) (xs : List Moment) → last_of d (x ∷ xs) ≡ sample_at (x ∷ xs) (length xs)
unfolding last_of
last_at d x [] = refl
last_at d x (y ∷ xs) = last_at x y xs

pub still_run : (r : Record) (xs : List Moment) → Still r xs → 0 < length xs → foldl stepped r xs ≡ moved r (length xs) (sample_at xs (length xs - 1))
still_run r [] s l = absurd (omega arith)
still_run r (x ∷ xs) s l =
    let k : length xs ≡ suc (length xs) - 1 = omega arith in
    still r (x ∷ xs) s ∙ ap (moved r (suc (length xs))) (last_at r.last x xs ∙ ap (sample_at (x ∷ xs)) k)
