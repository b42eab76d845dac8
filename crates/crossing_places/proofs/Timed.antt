-- Only the timed samples are counted: the counted times of a record are those of its samples from R on, taken as a
-- record without a ramp. Where groups start is told by the crossings' moments alone (`counted_from`), and the
-- crossings' moments are the same (`crossing_times`). Assumes nothing.
use Prim.Native.Nat.{ℕ, zero, suc, ◌+◌, ◌-◌, ◌*◌, ◌≤◌, ◌<◌}
use mathlib.Core.Path.{◌≡◌, refl, sym, ap, ◌∙◌}
use mathlib.Core.Bool.{Bool, true, false, cond, ◌&&◌}
use mathlib.Core.List.{List, [], ◌∷◌, map}
use native.Mathlib.Nat.{zero-add, add-zero}
use native.Mathlib.Omega.{arith}
use lib.ListN.{length, drop, length-drop}
use lib.Dec.{ltb, leb}
use borrow.Author.Tests.{ltb-true, ltb-false, lt-ltb, le-ltb, le-leb}
use Rattle.sample_channels.specs.declared.Levels.{Levels}
use Rattle.sample_channels.specs.declared.Moment.{Moment}
use Rattle.sample_channels.specs.Channels.{still}
use Rattle.sample_items.specs.declared.Items.{Items}
use Rattle.crossing_sets.specs.Walk.{since}
use Rattle.crossing_sets.specs.Groups.{near, groups, firsts}
use Rattle.crossing_sets.proofs.Starts.{starts, begin, firsts_begin}
use Rattle.crossing_places.specs.Reading.{time_at, rises, crosses_at, passing, crossings, counted_times, unramped}
use Rattle.crossing_places.proofs.First.{ramp_none}
use Rattle.crossing_places.proofs.Scan.{places_from, scan, places_whole}

-- those of some moments at which a group starts, if the first of them starts one from the moment `due` on
unfoldable pub from : ℕ → ℕ → List ℕ → List ℕ
from τ due [] = []
from τ due (t ∷ ts) = cond (leb due t) (t ∷ from τ (t + τ) ts) (from τ (t + τ) ts)

module _ (time : ℕ → ℕ) (τ : ℕ) where
  starts_from : (p : ℕ) (cs : List ℕ) → map time (starts time τ p cs) ≡ from τ (time p + τ) (map time cs)
  unfolding starts from
  starts_from p [] = refl
  starts_from p (x ∷ cs) = go (since time τ p x) (starts_from x cs)
    where
      go : (b : Bool) → map time (starts time τ x cs) ≡ from τ (time x + τ) (map time cs)
          → map time (cond b (x ∷ starts time τ x cs) (starts time τ x cs)) ≡ cond b (time x ∷ from τ (time x + τ) (map time cs)) (from τ (time x + τ) (map time cs))
      go true i = ap (λ (l : List ℕ). time x ∷ l) i
      go false i = i

  begin_from : (cs : List ℕ) → map time (begin time τ cs) ≡ from τ 0 (map time cs)
  unfolding begin from
  begin_from [] = refl
  begin_from (x ∷ cs) = rw (le-leb 0 (time x) (omega arith)) (ap (λ (l : List ℕ). time x ∷ l) (starts_from x cs))

  pub counted_from : (cs : List ℕ) → map time (firsts (groups (near time τ) cs)) ≡ from τ 0 (map time cs)
  counted_from cs = ap (map time) (firsts_begin time τ cs) ∙ begin_from cs

-- what does not pass is not among those that pass
pass_by : (f : ℕ → Bool) (k n : ℕ) → f k ≡ false → passing f k (suc n) ≡ passing f (k + 1) n
unfolding passing
pass_by f k n e = rw e

skip : (f : ℕ → Bool) (m k n : ℕ) {all : ℕ} → all ≡ m + n → ((j : ℕ) → j < k + m → f j ≡ false) → passing f k all ≡ passing f (k + m) n
skip f zero k n e h = rw (e ∙ zero-add n) (ap (λ (i : ℕ). passing f i n) (sym (add-zero k)))
skip f (suc m) k n {all} e h =
    let d : all ≡ suc (m + n) = omega arith in
    let i : k + 1 + m ≡ k + suc m = omega arith in
    rw d (pass_by f k (m + n) (h k (omega arith)) ∙ skip f m (k + 1) n refl (λ j l. h j (omega arith)) ∙ ap (λ (i : ℕ). passing f i n) i)

module _ (D R : ℕ) (a : Levels) where
  after_ramp : (j : ℕ) → ltb R (R + j) ≡ ltb 0 j
  after_ramp j = go (ltb 0 j) refl
    where
      go : (b : Bool) → ltb 0 j ≡ b → ltb R (R + j) ≡ b
      go true e = lt-ltb R (R + j) (omega (arith, ltb-true 0 j e))
      go false e = le-ltb R (R + j) (omega (arith, ltb-false 0 j e))

  -- a crossing j samples after the ramp stands at the moment of sample j
  shifted : (j : ℕ) (before : Moment) (ys : List Moment) {i : ℕ} → i ≡ R + j → map (time_at D R) (places_from R a i before ys) ≡ map (time_at D 0) (places_from 0 a j before ys)
  unfolding places_from
  shifted j before [] e = refl
  shifted j before (y ∷ ys) {i} e =
      let d : i - R ≡ j - 0 = omega arith in
      let t : time_at D R i ≡ time_at D 0 j = ap (λ (n : ℕ). n * D) d in
      rw (ap (ltb R) e ∙ after_ramp j) (go (ltb 0 j && rises a before y) t (shifted (j + 1) y ys {i = i + 1} (omega arith)))
    where
      go : (b : Bool) → time_at D R i ≡ time_at D 0 j → map (time_at D R) (places_from R a (i + 1) y ys) ≡ map (time_at D 0) (places_from 0 a (j + 1) y ys)
          → map (time_at D R) (cond b (i ∷ places_from R a (i + 1) y ys) (places_from R a (i + 1) y ys)) ≡ map (time_at D 0) (cond b (j ∷ places_from 0 a (j + 1) y ys) (places_from 0 a (j + 1) y ys))
      go true t r = rw (t, r)
      go false t r = r

  crossing_times : (xs : List Moment) → R ≤ length xs → map (time_at D R) (crossings R a xs) ≡ map (time_at D 0) (crossings 0 a (drop R xs))
  crossing_times xs l =
      let n : length xs ≡ R + length (drop R xs) = omega (arith, length-drop R xs) in
      let s : passing (crosses_at R a xs) (0 + R) (length (drop R xs)) ≡ passing (crosses_at R a xs) R
      (length (drop R xs)) = ap (λ (i : ℕ). passing (crosses_at R a xs) i (length (drop R xs))) (zero-add R) in
      ap (map (time_at D R)) (skip (crosses_at R a xs) R 0 (length (drop R xs)) n (λ j h. ramp_none R a xs j
      (omega arith)) ∙ s ∙ sym (scan R a xs R still (drop R xs) refl (λ t. absurd (omega (arith, ltb-true R R t)))))
      ∙ shifted 0 still (drop R xs) (omega arith)
      ∙ ap (map (time_at D 0)) (places_whole 0 a (drop R xs))

module _ (items : Items) where
  abbrev D : ℕ
  D = items.step

  abbrev R : ℕ
  R = items.ramp

  abbrev a : Levels
  a = items.levels

  abbrev τ : ℕ
  τ = items.decorrelation

  pub timed_only : (xs : List Moment) → R ≤ length xs → counted_times items xs ≡ counted_times (unramped D a τ) (drop R xs)
  timed_only xs l = counted_from (time_at D R) τ (crossings R a xs) ∙ ap (from τ 0) (crossing_times D R a xs l) ∙ sym (counted_from (time_at D 0) τ (crossings 0 a (drop R xs)))
