-- A run found sample by sample (`ahead`) is the first group of the samples: by induction on what is left, while each
-- sample is on the run's side. Its largest is kept as a place, so the same holds for any step D and any start t.
-- Assumes nothing.
use Prim.Native.Nat.{ℕ, suc, ◌+◌, ◌*◌, ◌≤◌, ◌<◌}
use mathlib.Core.Path.{◌≡◌, refl, sym, ap, ◌∙◌}
use mathlib.Core.Bool.{Bool, true, false, cond}
use mathlib.Core.List.{List, [], ◌∷◌, foldl}
use native.Mathlib.Omega.{arith}
use lib.ListN.{length, drop}
use lib.Dec.{ltb, eqb}
use lib.IntN.{ℤ, pos, nat_abs}
use lib.Signed.{lt_z}
use Rattle.truth.proofs.Laws.{true≢false}
use Rattle.peak_groups.specs.declared.Peak.{Peak}
use Rattle.crossing_sets.specs.Groups.{attach, groups}
use Rattle.peak_groups.specs.Groups.{larger, largest}
use Rattle.crossing_sets.proofs.Parting.{opens}
use Rattle.peak_groups.specs.declared.Run.{Run}
use Rattle.peak_groups.specs.Runs.{same, side, point, points, same_side, first, figures, first_run, peak_at}
use Rattle.peak_groups.specs.Step.{opened, longer}

pub same_self : (a : Bool) → same a a ≡ true
same_self true = refl
same_self false = refl

pub same_true : (a b : Bool) → same a b ≡ true → b ≡ a
same_true true b e = e
same_true false true e = sym e
same_true false false e = refl

-- the run r, with the samples xs after it
unfoldable pub ahead : Run → List ℤ → Run
ahead r [] = r
ahead r (x ∷ xs) = cond (same r.below (side r.below x)) (ahead (longer r x) xs) r

module _ (r : Run) (x : ℤ) (xs : List ℤ) where
  pub ahead_on : same r.below (side r.below x) ≡ true → ahead r (x ∷ xs) ≡ ahead (longer r x) xs
  unfolding ahead
  ahead_on k = rw k

  pub ahead_off : same r.below (side r.below x) ≡ false → ahead r (x ∷ xs) ≡ r
  unfolding ahead
  ahead_off k = rw k

-- samples that start with one that is not zero
abbrev pub Starts : List ℤ → Type 0
Starts [] = Unit {0}
Starts (x ∷ xs) = eqb (nat_abs x) 0 ≡ false

-- past a nonzero sample the side before it is forgotten
pub points_any : (D t : ℕ) (s : Bool) (xs : List ℤ) → Starts xs → points D s t xs ≡ points D false t xs
unfolding points
points_any D t s [] h = refl
points_any D t s (x ∷ xs) h = rw h

not-zero : (s : Bool) (y : ℤ) → same s (side s y) ≡ false → eqb (nat_abs y) 0 ≡ false
not-zero s y = go (eqb (nat_abs y) 0)
  where
    go : (b : Bool) → same s (cond b s (lt_z y (pos 0))) ≡ false → b ≡ false
    go true k = absurd (true≢false (sym (same_self s) ∙ k))
    go false k = refl

larger_at : (D t : ℕ) (s : Bool) (r : Run) (x : ℤ) → r.below ≡ s → side s x ≡ s → peak_at D t (longer r x) ≡ larger (peak_at D t r) (point s (t + r.length * D) x)
unfolding larger
larger_at D t s r x h e = rw (e, h) (go (ltb r.size (nat_abs x)))
  where
    go : (b : Bool) → ◌≡◌ {A = Peak} (record {
      below = s;
      size = cond b (nat_abs x) r.size;
      time =
          t + cond b r.length r.place * D;
    }) (cond b (record {
      below = s;
      size = nat_abs x;
      time = t + r.length
          * D;
    }) (record { below = s; size = r.size; time = t + r.place * D }))
    go true = refl
    go false = refl

module _ (D t : ℕ) where
  -- x and the rest of its run, and the later runs
  pub record Apart (s : Bool) (i : ℕ) (x : Peak) (xs : List ℤ) : Type 0 where
    pub group : List Peak
    pub later : List (List Peak)
    pub is : groups same_side (x ∷ points D s (t + i * D) xs) ≡ (x ∷ group) ∷ later
    pub rest : later ≡ groups same_side (points D false (t + (i + length group) * D) (drop (length group) xs))
    pub fits : length group ≤ length xs
    pub long : (r : Run) → r.below ≡ s → r.length ≡ i → (ahead r xs).length ≡ i + length group
    pub peak : (r : Run) → r.below ≡ s → r.length ≡ i → peak_at D t (ahead r xs) ≡ foldl larger (peak_at D t r) group

  -- the next sample belongs to the run
  module _ (s : Bool) (i : ℕ) (x : Peak) (y : ℤ) (ys : List ℤ) (e : x.below ≡ s) where
    abbrev here : Peak
    here = point s (t + i * D) y

    on : same s (side s y) ≡ true → Apart s (i + 1) here ys → Apart s i x (y ∷ ys)
    unfolding points groups attach ahead
    on k a =
        let f : side s y ≡ s = same_true s (side s y) k in
        let u : t + i * D + D ≡ t + (i + 1) * D = omega arith in
        let q : points D s (t + i * D) (y ∷ ys) ≡ here ∷ points D s (t + (i + 1) * D) ys = ap (λ (b : Bool). here ∷ points D b (t + i * D + D) ys) f ∙ ap (λ (v : ℕ). here ∷ points D s v ys) u in
        let j : same_side x here ≡ true = ap (λ (b : Bool). same b (side s y)) e ∙ k in
        let m : i + 1 + length a.group ≡ i + suc (length a.group) = omega arith in
        let w : (r : Run) → r.below ≡ s → ahead r (y ∷ ys) ≡ ahead (longer r y) ys = λ r h. ahead_on r y ys (ap (λ (b : Bool). same b (side b y)) h ∙ k) in
        record {
          group = here ∷ a.group;
          later = a.later;
          is = ap (λ (l : List Peak). attach same_side x (groups same_side l)) q ∙ ap (attach same_side x) a.is ∙ rw j;
          rest = a.rest ∙ ap (λ (v : ℕ). groups same_side (points D false (t + v * D) (drop (length a.group) ys))) m;
          fits = omega (arith, a.fits);
          long = λ r h l. ap (λ (v : Run). v.length) (w r h) ∙ a.long (longer r y) h (omega arith) ∙ m;
          peak = λ r h l. ap (peak_at D t) (w r h) ∙ a.peak (longer r y) h (omega arith) ∙
              ap (λ (b : Peak). foldl larger b a.group) (larger_at D t s r y h f ∙
              ap (λ (v : ℕ). larger (peak_at D t r) (point s (t + v * D) y)) l);
        }

    -- it does not
    off : same s (side s y) ≡ false → Apart s i x (y ∷ ys)
    unfolding points groups attach ahead
    off k =
        let o = opens same_side here (groups same_side (points D (side s y) (t + i * D + D) ys)) in
        let j : same_side x here ≡ false = ap (λ (b : Bool). same b (side s y)) e ∙ k in
        let z = not-zero s y k in
        let m : i ≡ i + 0 = omega arith in
        let w : (r : Run) → r.below ≡ s → ahead r (y ∷ ys) ≡ r = λ r h. ahead_off r y ys (ap (λ (b : Bool). same b (side b y)) h ∙ k) in
        record {
          group = [];
          later = groups same_side (points D s (t + i * D) (y ∷ ys));
          is = ap (attach same_side x) o.2 ∙ rw j (ap (λ (l : List (List Peak)). (x ∷ []) ∷ l) (sym o.2));
          rest = ap (groups same_side) (points_any D (t + i * D) s (y ∷ ys) z) ∙ ap (λ (v : ℕ). groups same_side (points D false (t + v * D) (y ∷ ys))) m;
          fits = omega arith;
          long = λ r h l. ap (λ (v : Run). v.length) (w r h) ∙ l ∙ m;
          peak = λ r h l. ap (peak_at D t) (w r h);
        }

  pub apart : (s : Bool) (i : ℕ) (x : Peak) (xs : List ℤ) → x.below ≡ s → Apart s i x xs
  unfolding points groups attach ahead
  apart s i x [] e = record { group = []; later = []; is = refl; rest = refl; fits = omega arith; long = λ r h l. omega arith; peak = λ r h l. refl }
  apart s i x (y ∷ ys) e = go (same s (side s y)) refl (λ (f : side s y ≡ s). apart s (i + 1) (point s (t + i * D) y) ys f)
    where
      go : (b : Bool) → same s (side s y) ≡ b → (side s y ≡ s → Apart s (i + 1) (point s (t + i * D) y) ys) → Apart s i x (y ∷ ys)
      go true k a = on s i x y ys e k (a (same_true s (side s y) k))
      go false k a = off s i x y ys e k

run_is : (r : Run) (p : Peak) (n : ℕ) → r.length ≡ n → peak_at 1 0 r ≡ p → r ≡ record { below = p.below; length = n; place = p.time; size = p.size }
run_is r p n e f =
    let b : r.below ≡ p.below = ap (λ (q : Peak). q.below) f in
    let z : r.size ≡ p.size = ap (λ (q : Peak). q.size) f in
    let t : r.place ≡ p.time = omega (arith, ap (λ (q : Peak). q.time) f) in
    rw (← e, ← b, ← z, ← t)

-- no samples have no run
pub no_run : (xs : List ℤ) → length xs ≡ 0 → record { below = false; length = 0; place = 0; size = 0 } ≡ first_run xs
unfolding points groups figures first largest
no_run [] e = refl
no_run (x ∷ xs) e = absurd (omega (arith, e))

-- the run found is the first
pub first_ahead : (x : ℤ) (xs : List ℤ) → ahead (opened x) xs ≡ first_run (x ∷ xs)
unfolding points figures first largest
first_ahead x xs =
    let a = apart 1 0 (side false x) 1 (point false 0 x) xs refl in
    let n : 1 + length a.group ≡ suc (length a.group) = omega arith in
    run_is (ahead (opened x) xs) (foldl larger (point false 0 x) a.group) (suc (length a.group)) (a.long (opened x) refl refl ∙ n) (a.peak (opened x) refl refl)
    ∙ ap (λ (l : List (List Peak)). figures (first l)) (sym a.is)

-- the peak is in the run
pub inside : (r : Run) (xs : List ℤ) → r.place < r.length → (ahead r xs).place < (ahead r xs).length
unfolding ahead
inside r [] h = h
inside r (x ∷ xs) h = go (same r.below (side r.below x)) (inside (longer r x) xs (more (ltb r.size (nat_abs x))))
  where
    more : (b : Bool) → cond b r.length r.place < r.length + 1
    more true = omega arith
    more false = omega (arith, h)

    go : (b : Bool) → (ahead (longer r x) xs).place < (ahead (longer r x) xs).length → (cond b (ahead (longer r x) xs) r).place < (cond b (ahead (longer r x) xs) r).length
    go true k = k
    go false k = h
