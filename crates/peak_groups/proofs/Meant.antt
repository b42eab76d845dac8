-- `largest` is the first of the largest, of which there is one; `tops` has that of each group. Assumes nothing.
use Prim.Native.Nat.{ℕ, ◌≤◌, ◌<◌}
use mathlib.Core.Path.{◌≡◌, refl, ap, sym, ◌∙◌}
use mathlib.Core.Bool.{Bool, true, false, cond}
use mathlib.Core.List.{List, [], ◌∷◌, ◌++◌, foldl, map, append_assoc, append-nil}
use native.Mathlib.Omega.{arith}
use lib.Dec.{ltb}
use borrow.Author.Tests.{ltb-true, ltb-false}
use Rattle.peak_groups.specs.declared.Peak.{Peak}
use Rattle.crossing_sets.specs.Groups.{groups}
use Rattle.crossing_sets.specs.Parting.{Runs}
use Rattle.crossing_sets.proofs.Parting.{groups_runs}
use Rattle.peak_groups.specs.Groups.{larger, largest, tops}
use Rattle.peak_groups.specs.Largest.{All, Top, Tops, next, none}

all_append : (P : Peak → Type 0) (a b : List Peak) → All P a → All P b → All P (a ++ b)
all_append P [] b h k = k
all_append P (x ∷ a) b h k = (h.0, all_append P a b h.1 k)

all-below : (m n : ℕ) → m < n → (l : List Peak) → All (λ q. q.size ≤ m) l → All (λ q. q.size < n) l
all-below m n h [] a = tt
all-below m n h (x ∷ l) a = (omega (arith, a.0), all-below m n h l a.1)

all_weaken : (m n : ℕ) → m ≤ n → (l : List Peak) → All (λ q. q.size < m) l → All (λ q. q.size < n) l
all_weaken m n h [] a = tt
all_weaken m n h (x ∷ l) a = (omega (arith, a.0), all_weaken m n h l a.1)

top_next : (p y : Peak) (l : List Peak) → Top p l → Top (larger p y) (l ++ (y ∷ []))
unfolding larger
top_next p y l t = go (ltb p.size y.size) refl
  where
    go : (b : Bool) → ltb p.size y.size ≡ b → Top (cond b y p) (l ++ (y ∷ []))
    go true e =
        let h = ltb-true p.size y.size e in
        record {
          before = l;
          after = [];
          is = refl;
          smaller = rw t.is (all_append (λ q. q.size < y.size) t.before (p ∷ t.after) (all_weaken p.size
              y.size (omega arith) t.before t.smaller) (
                h,
                all-below p.size y.size h t.after
                    t.no_larger,
              ));
          no_larger = tt;
        }
    go false e =
        record {
          before = t.before;
          after = t.after ++ (y ∷ []);
          is = ap (λ (m : List Peak). m ++ (y ∷ [])) t.is ∙ append_assoc t.before (p ∷ t.after) (y ∷ []);
          smaller = t.smaller;
          no_larger = all_append (λ q. q.size ≤ p.size) t.after (y ∷ []) t.no_larger (ltb-false p.size y.size e, tt);
        }

tops_on : (p : Peak) (l m : List Peak) → Top p l → Top (foldl larger p m) (l ++ m)
tops_on p l [] t = rw append-nil t
tops_on p l (y ∷ m) t = rw append_assoc at (tops_on (larger p y) (l ++ (y ∷ [])) m (top_next p y l t))

pub largest_top : (p : Peak) (l : List Peak) → Top (largest (p ∷ l)) (p ∷ l)
unfolding largest
largest_top p l = tops_on p (p ∷ []) l (record { before = []; after = []; is = refl; smaller = tt; no_larger = tt })

-- a member after others is no larger where they are not
last_no_larger : (m : ℕ) (a : List Peak) (q : Peak) (b : List Peak) → All (λ x. x.size ≤ m) (a ++ (q ∷ b)) → q.size ≤ m
last_no_larger m [] q b h = h.0
last_no_larger m (x ∷ a) q b h = last_no_larger m a q b h.1

meet : (p q : Peak) (a b c d : List Peak) → a ++ (p ∷ b) ≡ c ++ (q ∷ d)
    → All (λ x. x.size < p.size) a → All (λ x. x.size ≤ p.size) b
    → All (λ x. x.size < q.size) c → All (λ x. x.size ≤ q.size) d → p ≡ q
meet p q [] b [] d e s l t m = cc
meet p q [] b (y ∷ c) d e s l t m =
    let head : p ≡ y = cc in
    let rest : b ≡ c ++ (q ∷ d) = cc in
    absurd (omega (arith, ap (λ (x : Peak). x.size) head, t.0, last_no_larger p.size c q d (rw rest at l)))
meet p q (x ∷ a) b [] d e s l t m =
    let head : x ≡ q = cc in
    let rest : a ++ (p ∷ b) ≡ d = cc in
    absurd (omega (arith, ap (λ (y : Peak). y.size) head, s.0, last_no_larger q.size a p b (rw (← rest) at m)))
meet p q (x ∷ a) b (y ∷ c) d e s l t m =
    let rest : a ++ (p ∷ b) ≡ c ++ (q ∷ d) = cc in
    meet p q a b c d rest s.1 l t.1 m

-- there is one
pub top_unique : (p q : Peak) (l : List Peak) → Top p l → Top q l → p ≡ q
top_unique p q l x y =
    meet p q x.before x.after y.before y.after (sym x.is ∙ y.is) x.smaller x.no_larger y.smaller y.no_larger

largest_tops : (joins : Peak → Peak → Bool) (gs : List (List Peak)) → Runs joins gs → Tops (map largest gs) gs
largest_tops joins [] r = none
largest_tops joins ([] ∷ gs) r = absurd r
largest_tops joins ((p ∷ g) ∷ gs) r = next (largest_top p g) (largest_tops joins gs r.2)

pub tops_top : (joins : Peak → Peak → Bool) (l : List Peak) → Tops (tops joins l) (groups joins l)
unfolding tops
tops_top joins l = largest_tops joins (groups joins l) (groups_runs joins l)
