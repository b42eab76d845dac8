-- The samples are read as they are, zeros at the start belong to no run, and each run starts with a sample that is
-- not zero and has none of the other sign: a zero is on the side of the sample before it, so it never starts a run
-- (`Follows`). Assumes nothing.
use Prim.Native.Nat.{ℕ, ◌+◌}
use mathlib.Core.Path.{◌≡◌, refl, sym, ap, ◌∙◌}
use mathlib.Core.Bool.{Bool, true, false, cond}
use mathlib.Core.List.{List, [], ◌∷◌, ◌++◌}
use borrow.Author.Tests.{eq-eqb, eqb-true, eqb-false, ne_eqb}
use lib.Dec.{eqb}
use lib.IntN.{ℤ, nat_abs}
use Rattle.truth.proofs.Laws.{true≢false}
use Rattle.crossing_sets.specs.Groups.{groups}
use Rattle.crossing_sets.specs.Parting.{Cut, Linked, Runs, last_from, together}
use Rattle.crossing_sets.proofs.Parting.{groups_runs, groups_together}
use Rattle.peak_groups.specs.declared.Peak.{Peak}
use Rattle.peak_groups.specs.Largest.{All}
use Rattle.peak_groups.specs.OneSign.{EachOneSign, IsPoints, WithoutZeros, end, one, run}
use Rattle.peak_groups.specs.Runs.{point, points, same_side, side, started}
use Rattle.peak_groups.proofs.Ahead.{same_self, same_true}

pub read : (D : ℕ) (s : Bool) (t : ℕ) (xs : List ℤ) → IsPoints D s t xs (points D s t xs)
unfolding points
read D s t [] = end
read D s t (x ∷ xs) =
    one {s = s} {t = t} {x = x} {p = point s t x}
    (record { size = refl; time = refl; sign = λ h. rw (ne_eqb (nat_abs x) 0 h); zero = λ h. rw (eq-eqb (nat_abs x) 0 h) })
    (read D (side s x) (t + D) xs)

pub without_zeros : (l : List Peak) → WithoutZeros l (started l)
unfolding started
without_zeros [] = record { zeros = []; is = refl; all_zero = tt; starts = λ p m e. absurd (nothing p m e) }
  where
    nothing : (p : Peak) (m : List Peak) → ◌≡◌ {A = List Peak} [] (p ∷ m) → ⊥
    nothing p m e = let z : true ≡ false = cc in true≢false z
without_zeros (x ∷ l) = go (eqb x.size 0) refl (without_zeros l)
  where
    go : (b : Bool) → eqb x.size 0 ≡ b → WithoutZeros l (started l) → WithoutZeros (x ∷ l) (cond b (started l) (x ∷ l))
    go true e w =
        record {
          zeros = x ∷ w.zeros;
          is = ap (λ (m : List Peak). x ∷ m) w.is;
          all_zero = (eqb-true x.size 0 e, w.all_zero);
          starts = w.starts;
        }
    go false e w =
        record {
          zeros = [];
          is = refl;
          all_zero = tt;
          starts = λ p m h z. let same : x ≡ p = cc in eqb-false x.size 0 e (ap (λ (q : Peak). q.size) same ∙ z);
        }

-- a zero among what comes after p is on the side of the sample before it
abbrev Follows : Peak → List Peak → Type 0
Follows p [] = Unit {0}
Follows p (q ∷ l) = (q.size ≡ 0 → q.below ≡ p.below) × Follows q l

follows : (D : ℕ) (p : Peak) (t : ℕ) (xs : List ℤ) → Follows p (points D p.below t xs)
unfolding points
follows D p t [] = tt
follows D p t (x ∷ xs) = (λ h. rw (eq-eqb (nat_abs x) 0 h), follows D (point p.below t x) (t + D) xs)

abbrev Chained : List Peak → Type 0
Chained [] = Unit {0}
Chained (p ∷ l) = Follows p l

chained : (D : ℕ) (s : Bool) (t : ℕ) (xs : List ℤ) → Chained (points D s t xs)
unfolding points
chained D s t [] = tt
chained D s t (x ∷ xs) = follows D (point s t x) (t + D) xs

next_chained : (p : Peak) (l : List Peak) → Follows p l → Chained l
next_chained p [] f = tt
next_chained p (q ∷ l) f = f.1

-- past the zeros at the start the first is none
abbrev Starting : List Peak → Type 0
Starting [] = Unit {0}
Starting (p ∷ l) = ¬ (p.size ≡ 0) × Follows p l

starting : (l : List Peak) → Chained l → Starting (started l)
unfolding started
starting [] c = tt
starting (p ∷ l) c = go (eqb p.size 0) refl (starting l)
  where
    go : (b : Bool) → eqb p.size 0 ≡ b → (Chained l → Starting (started l)) → Starting (cond b (started l) (p ∷ l))
    go true e i = i (next_chained p l c)
    go false e i = (eqb-false p.size 0 e, c)

-- neighbours in a run are on one side, so all are
linked : (p : Peak) (g : List Peak) → Linked same_side p g → All (λ q. q.below ≡ p.below) g
linked p [] h = tt
linked p (q ∷ g) h = let e = same_true p.below q.below h.0 in (e, rw e at (linked q g h.1))

skip : (p : Peak) (g rest : List Peak) → Follows p (g ++ rest) → Follows (last_from same_side p g) rest
skip p [] rest f = f
skip p (q ∷ g) rest f = skip q g rest f.1

-- the runs after the sample q, which is on the other side than the first of them
after : (q : Peak) (gs : List (List Peak)) → Cut same_side q gs → Runs same_side gs → Follows q (together gs) → EachOneSign gs
after q [] c r f = tt
after q ([] ∷ gs) c r f = absurd c
after q ((p ∷ g) ∷ gs) c r f = (
  run (λ z. true≢false (sym (same_self q.below) ∙ (rw (f.0 z) at c))) (linked p g r.0),
  after (last_from same_side p g) gs r.1 r.2 (skip p g (together gs) f.1),
)

parted : (gs : List (List Peak)) (l : List Peak) → Runs same_side gs → together gs ≡ l → Starting l → EachOneSign gs
parted [] l r e k = tt
parted ([] ∷ gs) l r e k = absurd r
parted ((p ∷ g) ∷ gs) l r e k =
    let (some, f) = go l e k in
    (run some (linked p g r.0), after (last_from same_side p g) gs r.1 r.2 (skip p g (together gs) f))
  where
    go : (l : List Peak) → p ∷ (g ++ together gs) ≡ l → Starting l → ¬ (p.size ≡ 0) × Follows p (g ++ together gs)
    go l e k = rw (← e) at k

pub runs_one_sign : (D : ℕ) (xs : List ℤ) → EachOneSign (groups same_side (started (points D false 0 xs)))
runs_one_sign D xs =
    let l = started (points D false 0 xs) in
    parted (groups same_side l) l (groups_runs same_side l) (groups_together same_side l) (starting (points D false 0 xs) (chained D false 0 xs))
