-- The times noted one by one are the counted times: from any walk on, what is noted are the moments at which the
-- crossings still to come start a group, from the moment that is due on (`walks`, by induction on the samples). Assumes
-- nothing.
use Prim.Native.Nat.{ℕ, ◌+◌, ◌-◌, ◌*◌}
use mathlib.Core.Path.{◌≡◌, refl, sym, ap, ◌∙◌}
use mathlib.Core.Bool.{Bool, and_assoc, cond, false, not, true, ◌&&◌}
use mathlib.Core.List.{List, [], ◌∷◌, map, foldl}
use native.Mathlib.Numerals.{add-one}
use native.Mathlib.Nat.{add-zero}
use native.Mathlib.Omega.{arith}
use lib.ListN.{length}
use lib.Seq.{sets}
use lib.Dec.{ltb, leb}
use borrow.Author.Tests.{lt-ltb}
use Rattle.sample_channels.specs.declared.Levels.{Levels}
use Rattle.sample_channels.specs.declared.Moment.{Moment}
use Rattle.sample_channels.specs.Channels.{still, above}
use Rattle.crossing_places.specs.Reading.{time_at, rises, crossings, counted_times, unramped}
use Rattle.crossing_places.proofs.Scan.{places_from, places_whole}
use Rattle.crossing_places.proofs.Timed.{from, counted_from}
use Rattle.record_list.specs.declared.Walk.{Walk}
use Rattle.record_list.specs.Walk.{start, stepped, Noting, noting, noted}

-- what a walk leads to: these times more, in the next places
pub record Adds (s : Noting) (w : Walk) (ts times : List ℕ) : Type 0 where
  pub slice : s.times ≡ sets ts w.count times
  pub counted : s.walk.count ≡ w.count + length times

module _ (D : ℕ) (a : Levels) (τ : ℕ) where
  -- a turn: whether the sample crosses the level, and whether a crossing is due
  turn : (w : Walk) (ts : List ℕ) (x : Moment) (s : Noting) (cs : List ℕ) (k : Bool) → (w.below && above a x) ≡ k
      → Adds s (stepped D τ w (above a x)) (noted D a τ (noting w ts) x).times (from τ (stepped D τ w (above a x)).due cs)
      → Adds s w ts (from τ w.due (cond k (w.time ∷ cs) cs))
  unfolding noted stepped from
  turn w ts x s cs k e = go k (leb w.due w.time) e refl
    where
      go : (k d : Bool) → (w.below && above a x) ≡ k → leb w.due w.time ≡ d
          → Adds s (stepped D τ w (above a x)) (noted D a τ (noting w ts) x).times (from τ (stepped D τ w (above a x)).due cs)
          → Adds s w ts (from τ w.due (cond k (w.time ∷ cs) cs))
      go true true h e i =
          let n = rw (h, e) at i.counted in
          rw e (record { slice = rw add-one at (rw (h, e) at i.slice); counted = omega (arith, n) })
      go true false h e i = rw e (record { slice = rw (h, e) at i.slice; counted = rw (h, e) at i.counted })
      go false d h e i = record { slice = rw h at i.slice; counted = rw h at i.counted }

  -- the moment of place j is the walk's time
  placed : (s : Noting) (w : Walk) (ts ps : List ℕ) (j : ℕ) (b : Bool) → time_at D 0 j ≡ w.time
      → Adds s w ts (from τ w.due (cond b (w.time ∷ map (time_at D 0) ps) (map (time_at D 0) ps))) → Adds s w ts (from τ w.due (map (time_at D 0) (cond b (j ∷ ps) ps)))
  placed s w ts ps j true d i = rw d i
  placed s w ts ps j false d i = i

  -- sample j, which follows `before`, is the next
  walks : (j : ℕ) (before : Moment) (w : Walk) (ts : List ℕ) (xs : List Moment) → w.time ≡ j * D → w.below ≡ (ltb 0 j && not (above a before))
      → Adds (foldl (noted D a τ) (noting w ts) xs) w ts (from τ w.due (map (time_at D 0) (places_from 0 a j before xs)))
  unfolding places_from from noted stepped
  walks j before w ts [] t b = record { slice = refl; counted = sym (add-zero w.count) }
  walks j before w ts (x ∷ xs) t b =
      let k : (ltb 0 j && rises a before x) ≡ (w.below && above a x) = sym (ap (λ (c : Bool). c && above a x) b ∙ and_assoc (ltb 0 j) (not (above a before)) (above a x)) in
      let n : j - 0 ≡ j = omega arith in
      let d : time_at D 0 j ≡ w.time = ap (λ (n : ℕ). n * D) n ∙ sym t in
      let s = foldl (noted D a τ) (noting w ts) (x ∷ xs) in
      let ps = places_from 0 a (j + 1) x xs in
      let i = walks (j + 1) x (stepped D τ w (above a x)) (noted D a τ (noting w ts) x).times xs (omega arith) (rw (lt-ltb 0 (j + 1) (omega arith))) in
      rw k (placed s w ts ps j (w.below && above a x) d (turn w ts x s (map (time_at D 0) ps) (w.below && above a x) refl i))

  -- the samples noted from the start on
  pub heard : (xs : List Moment) (ts : List ℕ) → Adds (foldl (noted D a τ) (noting start ts) xs) start ts (counted_times (unramped D a τ) xs)
  heard xs ts =
      rw (counted_from (time_at D 0) τ (crossings 0 a xs), ← places_whole 0 a xs) (walks 0 still start ts xs (omega arith) refl)
