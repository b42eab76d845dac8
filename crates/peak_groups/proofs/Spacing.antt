-- Members in order of time stay so when some are left out, and the largest of each group stand apart as the groups do.
-- Assumes nothing.
use Prim.Native.Nat.{ℕ, ◌+◌, ◌≤◌, ◌<◌}
use mathlib.Core.Path.{◌≡◌, refl}
use mathlib.Core.Bool.{Bool, true, false, cond}
use mathlib.Core.List.{List, [], ◌∷◌, drop_last}
use native.Mathlib.Omega.{arith}
use lib.Dec.{ltb}
use Rattle.peak_groups.specs.declared.Peak.{Peak}
use Rattle.crossing_sets.specs.Groups.{groups}
use Rattle.peak_groups.specs.Groups.{inner, those, larger, tops}
use Rattle.peak_groups.specs.Largest.{Spaced}
use Rattle.peak_groups.proofs.Groups.{from, tops_from}

pub earlier : (d : ℕ) {t u : ℕ} → t ≤ u → (l : List Peak) → Spaced d u l → Spaced d t l
earlier d h [] s = tt
earlier d h (p ∷ l) s = (omega (arith, s.0), s.1)

-- one may be left out
pub skip : (d : ℕ) {t : ℕ} (p : Peak) (l : List Peak) → t ≤ p.time → Spaced d (p.time + d) l → Spaced d t l
skip d p l h s = earlier d (omega arith) l s

pub spaced_those : (f : Peak → Bool) (t : ℕ) (l : List Peak) → Spaced 1 t l → Spaced 1 t (those f l)
unfolding those
spaced_those f t [] s = tt
spaced_those f t (p ∷ l) s = go (f p) (spaced_those f (p.time + 1) l s.1)
  where
    go : (b : Bool) → Spaced 1 (p.time + 1) (those f l) → Spaced 1 t (cond b (p ∷ those f l) (those f l))
    go true k = (s.0, k)
    go false k = skip 1 p (those f l) s.0 k

spaced_front : (t : ℕ) (l : List Peak) → Spaced 1 t l → Spaced 1 t (drop_last l)
spaced_front t [] s = tt
spaced_front t (p ∷ []) s = tt
spaced_front t (p ∷ q ∷ l) s = (s.0, spaced_front (p.time + 1) (q ∷ l) s.1)

pub spaced_inner : (t : ℕ) (l : List Peak) → Spaced 1 t l → Spaced 1 t (inner l)
spaced_inner t [] s = tt
spaced_inner t (p ∷ l) s = spaced_front t l (skip 1 p l s.0 s.1)

-- the largest of each group, where groups stand at least d apart
module _ (d : ℕ) (joins : Peak → Peak → Bool) (gap : (x y : Peak) → x.time < y.time → joins x y ≡ false → x.time + d ≤ y.time) where
  spaced_from : (t : ℕ) (b x : Peak) (l : List Peak) → t ≤ b.time → b.time ≤ x.time → Spaced 1 (x.time + 1) l → Spaced d t (from joins b x l)
  unfolding from larger
  spaced_from t b x [] h k s = (h, tt)
  spaced_from t b x (y ∷ l) h k s = go (joins x y) refl (ltb b.size y.size) (λ (c : Peak) (m : t ≤ c.time)
      (n : c.time ≤ y.time). spaced_from t c y l m n s.1) (λ (u : ℕ) (m : u ≤ y.time). spaced_from u y y l m
      (omega arith) s.1)
    where
      go : (a : Bool) → joins x y ≡ a → (w : Bool) → ((c : Peak) → t ≤ c.time → c.time ≤ y.time →
          Spaced d t (from joins c y l)) → ((u : ℕ) → u ≤ y.time → Spaced d u (from joins y y l)) →
          Spaced d t (cond a (from joins (cond w y b) y l) (b ∷ from joins y y l))
      go true e true i j = i y (omega (arith, s.0)) (omega arith)
      go true e false i j = i b h (omega (arith, s.0))
      go false e w i j = (h, j (b.time + d) (omega (arith, gap x y (omega (arith, s.0)) e)))

  pub spaced_tops : (t : ℕ) (l : List Peak) → Spaced 1 t l → Spaced d t (tops joins l)
  unfolding tops groups
  spaced_tops t [] s = tt
  spaced_tops t (x ∷ l) s = rw (tops_from joins x l) (spaced_from t x x l s.0 (omega arith) s.1)

-- in order, for any way to join
module _ (joins : Peak → Peak → Bool) where
  pub in_order : (t : ℕ) (l : List Peak) → Spaced 1 t l → Spaced 1 t (tops joins l)
  in_order = spaced_tops 1 joins (λ x y h e. omega arith)
