-- What is still to come of a reading: the peaks of the runs not yet closed, without the first and the last (`ahead`),
-- and the law of its step. The last member of the open group may be replaced by its largest, since only its side is
-- looked at. Assumes nothing.
use Prim.Native.Nat.{ℕ, ◌+◌, ◌*◌, ◌≤◌, ◌<◌}
use mathlib.Core.Path.{◌≡◌, refl, sym, ap, ◌∙◌}
use mathlib.Core.Bool.{Bool, true, false, cond, ◌&&◌}
use mathlib.Core.List.{List, [], ◌∷◌, drop_last}
use native.Mathlib.Omega.{arith}
use lib.ListN.{drop}
use lib.Dec.{ltb, eqb}
use lib.IntN.{ℤ, nat_abs}
use borrow.Author.Tests.{lt-ltb, le-ltb, eq-eqb, ne_eqb, ltb-true, ltb-false, eqb-true, eqb-false}
use Rattle.peak_groups.specs.declared.Peak.{Peak}
use Rattle.peak_groups.specs.declared.Group.{Group}
use Rattle.peak_groups.specs.Groups.{larger, tops, nothing}
use Rattle.peak_groups.specs.Machine.{turned, gave}
use Rattle.peak_groups.proofs.Groups.{from}
use Rattle.peak_groups.proofs.Left.{turned_next, left, left_next, within, within_next, within_last}
use Rattle.peak_groups.specs.Runs.{same, side, point, points, started, same_side, peaks}
use Rattle.peak_groups.proofs.Ahead.{same_true}
use Rattle.peak_stream.specs.declared.Reading.{Reading}
use Rattle.peak_stream.specs.Reading.{fresh, here, grown, read, closes}

-- only the side of the last member counts
from_side : (b x y : Peak) (l : List Peak) → x.below ≡ y.below → from same_side b x l ≡ from same_side b y l
unfolding from
from_side b x y [] e = refl
from_side b x y (z ∷ l) e = rw e

left_side : (o : ℕ) (b x y : Peak) (l : List Peak) → x.below ≡ y.below → left same_side (record { opened = o; last = x; best = b }) l ≡ left same_side (record { opened = o; last = y; best = b }) l
unfolding left
left_side o b x y l e = ap (λ (m : List Peak). cond (ltb 0 o) m (tops same_side l)) (from_side b x y l e)

within_side : (o : ℕ) (b x y : Peak) (l : List Peak) → x.below ≡ y.below → within same_side (record {
  opened = o;
  last = x;
  best = b;
}) l ≡ within same_side (record { opened = o; last = y; best = b }) l
unfolding within
within_side o b x y l e = ap (λ (m : List Peak). drop_last (cond (ltb 1 o) m (drop 1 m))) (left_side o b x y l e)

-- a reading as a machine of groups
abbrev pub group : ℕ → Peak → Group
group o b = record { opened = o; last = b; best = b }

-- the samples as members of runs, past the zeros where there is no run yet
abbrev pub row : ℕ → ℕ → ℕ → Bool → List ℤ → List Peak
row D t o s xs = cond (ltb 0 o) (points D s t xs) (started (points D false t xs))

unfoldable pub comes : ℕ → ℕ → ℕ → Peak → List ℤ → List Peak
comes D t o b xs = within same_side (group o b) (row D t o b.below xs)

-- ---- a member more
module _ (o : ℕ) (b y : Peak) (l : List Peak) where
  abbrev h : Group
  h = turned (same_side b y) (group o b) y

  member : within same_side (group o b) (y ∷ l) ≡ cond (gave (group o b) h) (b ∷ within same_side h l) (within same_side h l)
  member = within_next same_side (group o b) h (y ∷ l) l (turned_next (same_side b y) (group o b) y) (left_next same_side (group o b) y l)

  joining : 0 < o → same_side b y ≡ true → within same_side (group o b) (y ∷ l) ≡ within same_side (record { opened = o; last = y; best = larger b y }) l
  unfolding turned
  joining z k = member ∙ rw (k, lt-ltb 0 o z, eq-eqb o o refl) (go (ltb 1 o))
    where
      go : (a : Bool) → (let m = within same_side (record { opened = o; last = y; best = larger b y }) l in cond (a && false) (b ∷ m) m ≡ m)
      go true = refl
      go false = refl

  opening : (ltb 0 o && same_side b y) ≡ false → within same_side (group o b) (y ∷ l) ≡ cond (ltb 1 o) (b ∷ within same_side (group (o + 1) y) l) (within same_side (group (o + 1) y) l)
  unfolding turned
  opening k = member ∙ rw (k, ne_eqb o (o + 1) (λ z. omega arith)) (go (ltb 1 o))
    where
      go : (a : Bool) → (let m = within same_side (group (o + 1) y) l in cond (a && true) (b ∷ m) m ≡ cond a (b ∷ m) m)
      go true = refl
      go false = refl

side_large : (b y : Peak) → same b.below y.below ≡ true → (larger b y).below ≡ y.below
unfolding larger
side_large b y k = go (ltb b.size y.size)
  where
    go : (a : Bool) → (cond a y b).below ≡ y.below
    go true = refl
    go false = sym (same_true b.below y.below k)

-- ---- a sample more, case by case
module _ (D t o : ℕ) (b : Peak) (x : ℤ) (xs : List ℤ) where
  abbrev p : Peak
  p = point b.below t x

  comes_waits : o ≡ 0 → eqb (nat_abs x) 0 ≡ true → comes D t o b (x ∷ xs) ≡ comes D (t + D) o b xs
  unfolding comes points started
  comes_waits z e = rw (z, e)

  first_0 : eqb (nat_abs x) 0 ≡ false → comes D t 0 b (x ∷ xs) ≡ comes D (t + D) 1 p xs
  unfolding comes points started
  first_0 e =
      let w : started (points D false t (x ∷ xs)) ≡ point false t x ∷ points D (side false x) (t + D) xs = rw e in
      let s : side false x ≡ side b.below x = rw e in
      ap (within same_side (group 0 b)) w
      ∙ opening 0 b (point false t x) (points D (side false x) (t + D) xs) refl
      ∙ ap (λ (c : Bool). within same_side (group 1 (record { below = c; size = nat_abs x; time = t })) (points D c (t + D) xs)) s

  comes_first : o ≡ 0 → eqb (nat_abs x) 0 ≡ false → comes D t o b (x ∷ xs) ≡ comes D (t + D) (o + 1) p xs
  comes_first z e = rw z (first_0 e)

  comes_on : 0 < o → same b.below (side b.below x) ≡ true → comes D t o b (x ∷ xs) ≡ comes D (t + D) o (larger b p) xs
  unfolding comes points
  comes_on z k =
      let m = points D (side b.below x) (t + D) xs in
      let s = side_large b p k in
      rw (lt-ltb 0 o z) (joining o b p m z k ∙ within_side o (larger b p) p (larger b p) m (sym s) ∙ ap (λ (c : Bool). within same_side (group o (larger b p)) (points D c (t + D) xs)) (sym s))

  comes_off : 0 < o → same b.below (side b.below x) ≡ false → comes D t o b (x ∷ xs) ≡ cond (ltb 1 o) (b ∷ comes D (t + D) (o + 1) p xs) (comes D (t + D) (o + 1) p xs)
  unfolding comes points
  comes_off z k = rw (lt-ltb 0 o z, lt-ltb 0 (o + 1) (omega arith)) (opening o b p (points D (side b.below x) (t + D) xs) (rw (lt-ltb 0 o z) k))

-- ---- the law of a reading
abbrev pub ahead : Reading → List ℤ → List Peak
ahead r xs = comes r.step (r.n * r.step) r.opened r.best xs

later : (r : Reading) (o : ℕ) (b : Peak) (xs : List ℤ) → comes r.step (r.n * r.step + r.step) o b xs ≡ ahead (grown r o b) xs
later r o b xs = ap (λ (t : ℕ). comes r.step t o b xs) (omega arith)

more : (b : Bool) (p : Peak) (l m : List Peak) → l ≡ m → cond b (p ∷ l) l ≡ cond b (p ∷ m) m
more b p l m e = ap (λ (k : List Peak). cond b (p ∷ k) k) e

and_right : (a : Bool) → (a && false) ≡ false
and_right true = refl
and_right false = refl

module _ (r : Reading) (x : ℤ) (xs : List ℤ) where
  abbrev Law : Reading → Type 0
  Law s = ahead r (x ∷ xs) ≡ cond (closes r s) (r.best ∷ ahead s xs) (ahead s xs)

  none_closed : (b : Peak) → ahead r (x ∷ xs) ≡ ahead (grown r r.opened b) xs → Law (grown r r.opened b)
  none_closed b e = e ∙ rw (eq-eqb r.opened r.opened refl, and_right (ltb 1 r.opened))

  one_opened : ahead r (x ∷ xs) ≡ cond (ltb 1 r.opened) (r.best ∷ ahead (grown r (r.opened + 1) (here r x)) xs)
      (ahead (grown r (r.opened + 1) (here r x)) xs) → Law (grown r (r.opened + 1) (here r x))
  one_opened e = e ∙ rw (ne_eqb r.opened (r.opened + 1) (λ z. omega arith)) (go (ltb 1 r.opened))
    where
      go : (a : Bool) → (let m = ahead (grown r (r.opened + 1) (here r x)) xs in cond a (r.best ∷ m) m ≡ cond (a && true) (r.best ∷ m) m)
      go true = refl
      go false = refl

  pub ahead_next : Law (read r x)
  unfolding read
  ahead_next = go (ltb 0 r.opened) (eqb r.opened 0) (eqb (nat_abs x) 0) (same r.best.below (side r.best.below x)) refl refl refl refl
    where
      go : (a z e k : Bool) → ltb 0 r.opened ≡ a → eqb r.opened 0 ≡ z → eqb (nat_abs x) 0 ≡ e → same r.best.below (side r.best.below x) ≡ k
          → Law (cond (z && e) (grown r r.opened r.best) (cond (a && k) (grown r r.opened (larger r.best (here r x))) (grown r (r.opened + 1) (here r x))))
      go true true e k p q u v = absurd (omega (arith, ltb-true 0 r.opened p, eqb-true r.opened 0 q))
      go true false e true p q u v = none_closed (larger r.best (here r x)) (comes_on r.step (r.n * r.step)
          r.opened r.best x xs (ltb-true 0 r.opened p) v ∙ later r r.opened (larger r.best (here r x))
          xs)
      go true false e false p q u v =
          one_opened
          (comes_off r.step (r.n * r.step) r.opened r.best x xs (ltb-true 0 r.opened p) v
          ∙ more (ltb 1 r.opened) r.best (comes r.step (r.n * r.step + r.step) (r.opened + 1) (here r x)
          xs) (ahead (grown r (r.opened + 1) (here r x)) xs) (later r (r.opened + 1) (here r x) xs))
      go false false e k p q u v = absurd (nope r.opened (ltb-false 0 r.opened p) (eqb-false r.opened 0 q))
        where
          nope : (o : ℕ) → o ≤ 0 → (o ≡ 0 → ⊥) → ⊥
          nope o h d = omega arith
      go false true true k p q u v = none_closed r.best (comes_waits r.step (r.n * r.step) r.opened r.best x xs (eqb-true r.opened 0 q) u ∙ later r r.opened r.best xs)
      go false true false k p q u v =
          one_opened
          (comes_first r.step (r.n * r.step) r.opened r.best x xs (eqb-true r.opened 0 q) u
          ∙ later r (r.opened + 1) (here r x) xs
          ∙ rw (le-ltb 1 r.opened (omega (arith, ltb-false 0 r.opened p))))

-- at the end nothing is to come, and before the first sample all peaks are
pub ahead_last : (r : Reading) → ahead r [] ≡ []
unfolding comes points started
ahead_last r = go (ltb 0 r.opened)
  where
    go : (a : Bool) → within same_side (group r.opened r.best) (cond a [] []) ≡ []
    go true = within_last same_side (group r.opened r.best)
    go false = within_last same_side (group r.opened r.best)

all_ahead : (D : ℕ) (xs : List ℤ) → comes D 0 0 nothing xs ≡ peaks D xs
unfolding comes peaks within left
all_ahead D xs = refl

pub ahead_first : (D : ℕ) (xs : List ℤ) → ahead (fresh D) xs ≡ peaks D xs
ahead_first D xs = ap (λ (t : ℕ). comes D t 0 nothing xs) (omega arith) ∙ all_ahead D xs
