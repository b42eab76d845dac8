-- Each peak that `standing` keeps is the first largest of a high stretch with a peak that is not high on both sides:
-- the groups are gone over one by one, each between the last peak before it and the first after it. Assumes nothing.
use Prim.Native.Nat.{ℕ}
use mathlib.Core.Path.{◌≡◌, refl, sym, ap, ◌∙◌, subst}
use mathlib.Core.Bool.{Bool, true, false, cond}
use mathlib.Core.List.{List, [], ◌∷◌, ◌++◌, map, drop_last, append_assoc}
use lib.ListN.{drop}
use Rattle.truth.proofs.Laws.{true≢false}
use Rattle.peak_groups.specs.declared.Peak.{Peak}
use Rattle.crossing_sets.specs.Groups.{attach, groups}
use Rattle.peak_groups.specs.Groups.{those, largest, tops}
use Rattle.peak_groups.specs.Runs.{same}
use Rattle.peak_groups.specs.Peaks.{high, alike, standing}
use Rattle.crossing_sets.specs.Parting.{together, Linked, last_from, Cut, Runs}
use Rattle.peak_groups.specs.Largest.{All, Top, In}
use Rattle.peak_groups.specs.Meaning.{Stands}
use Rattle.crossing_sets.proofs.Parting.{groups_runs, groups_together, opens, first_group}
use Rattle.peak_groups.proofs.Meant.{largest_top}

-- all but the last
abbrev front : Peak → List Peak → List Peak
front x [] = []
front x (y ∷ l) = x ∷ front y l

module _ (n s : ℕ) where
  abbrev H : Peak → Bool
  H = high n s

  abbrev f : Peak → Peak → Bool
  f = alike n s

  same_true : (a b : Bool) → same a b ≡ true → a ≡ b
  same_true true true e = refl
  same_true true false e = sym e
  same_true false true e = e
  same_true false false e = refl

  same_false : (a b : Bool) → same a b ≡ false → b ≡ true → a ≡ false
  same_false true b e h = sym h ∙ e
  same_false false b e h = refl

  same_next : (a b : Bool) → same a b ≡ false → a ≡ true → b ≡ false
  same_next true b e h = e
  same_next false b e h = absurd (true≢false (sym h))

  last_split : (x : Peak) (l r : List Peak) → (x ∷ l) ++ r ≡ front x l ++ (last_from f x l ∷ r)
  last_split x [] r = refl
  last_split x (y ∷ l) r = ap (λ (m : List Peak). x ∷ m) (last_split y l r)

  -- in a stretch all are high or none is
  last_alike : (x : Peak) (l : List Peak) → Linked f x l → H x ≡ H (last_from f x l)
  last_alike x [] k = refl
  last_alike x (y ∷ l) k = same_true (H x) (H y) k.0 ∙ last_alike y l k.1

  all_alike : (b : Bool) (x : Peak) (l : List Peak) → Linked f x l → H x ≡ b → All (λ p. H p ≡ b) (x ∷ l)
  all_alike b x [] k e = (e, tt)
  all_alike b x (y ∷ l) k e = (e, all_alike b y l k.1 (sym (same_true (H x) (H y) k.0) ∙ e))

  all_middle : (P : Peak → Type 0) (a : List Peak) (p : Peak) (b : List Peak) → All P (a ++ (p ∷ b)) → P p
  all_middle P [] p b h = h.0
  all_middle P (x ∷ a) p b h = all_middle P a p b h.1

  -- the largest of a stretch is high only if all are
  largest_alike : (x : Peak) (l : List Peak) → Linked f x l → H (largest (x ∷ l)) ≡ H x
  largest_alike x l k =
      let t = largest_top x l in
      all_middle (λ p. H p ≡ H x) t.before (largest (x ∷ l)) t.after (subst (All (λ p. H p ≡ H x)) t.is (all_alike (H x) x l k refl))

  module _ (l : List Peak) where
    Kept : Peak → Type 0
    Kept p = (g : List Peak) × Stands H l g × Top p g

    walk : (a : List Peak) (x : Peak) (gs : List (List Peak)) → l ≡ a ++ (x ∷ together gs) → Cut f x gs → Runs f gs → All Kept (those H (drop_last (map largest gs)))
    unfolding those Kept
    walk a x [] e c w = tt
    walk a x ([] ∷ gs) e c w = absurd w
    walk a x ((y ∷ g) ∷ []) e c w = tt
    walk a x ((y ∷ g) ∷ ([] ∷ gs)) e c w = absurd w.1
    walk a x ((y ∷ g) ∷ ((z ∷ h) ∷ gs)) e c w =
        let d : l ≡ (a ++ (x ∷ front y g)) ++ (last_from f y g ∷ together ((z ∷ h) ∷ gs)) = e ∙
        ap (λ (m : List Peak). a ++ (x ∷ m)) (last_split y g (together ((z ∷ h) ∷ gs))) ∙
        sym (append_assoc a (x ∷ front y g) (last_from f y g ∷ together ((z ∷ h) ∷ gs))) in
        go (H (largest (y ∷ g))) refl (walk (a ++ (x ∷ front y g)) (last_from f y g) ((z ∷ h) ∷ gs) d w.1 w.2)
      where
        go : (b : Bool) → H (largest (y ∷ g)) ≡ b → All Kept (those H (drop_last (map largest ((z ∷ h) ∷ gs)))) →
            All Kept (cond b (largest (y ∷ g) ∷ those H (drop_last (map largest ((z ∷ h) ∷ gs))))
            (those H (drop_last (map largest ((z ∷ h) ∷ gs)))))
        go true q i =
            let k : H y ≡ true = sym (largest_alike y g w.0) ∙ q in (
              (
                y ∷ g,
                record {
                  before = a;
                  first = x;
                  last = z;
                  after = h ++ together gs;
                  is = e;
                  all_high = all_alike true y g w.0 k;
                  low_before = same_false (H x) (H y) c k;
                  low_after = same_next (H (last_from f y g)) (H z) w.1 (sym (last_alike y g w.0) ∙ k);
                },
                largest_top y g,
              ),
              i,
            )
        go false q i = i

  -- each kept peak is the largest of such a stretch
  pub standing_stands : (l : List Peak) → All (λ p. (g : List Peak) × Stands H l g × Top p g) (standing n s l)
  unfolding tops Kept those
  standing_stands l = start (groups f l) (sym (groups_together f l)) (groups_runs f l)
    where
      start : (gs : List (List Peak)) → l ≡ together gs → Runs f gs → All (Kept l) (those H (drop_last (drop 1 (map largest gs))))
      start [] e w = tt
      start ([] ∷ gs) e w = absurd w
      start ((x ∷ g) ∷ gs) e w = walk l (front x g) (last_from f x g) gs (e ∙ last_split x g (together gs)) w.1 w.2

-- ---- and each such stretch's largest is kept
those_append : (t : Peak → Bool) (a b : List Peak) → those t (a ++ b) ≡ those t a ++ those t b
unfolding those
those_append t [] b = refl
those_append t (x ∷ a) b = go (t x) (those_append t a b)
  where
    go : (k : Bool) → those t (a ++ b) ≡ those t a ++ those t b → cond k (x ∷ those t (a ++ b)) (those t (a ++ b)) ≡ cond k (x ∷ those t a) (those t a) ++ those t b
    go true i = ap (λ (m : List Peak). x ∷ m) i
    go false i = i

front-append : (a : List Peak) (p q : Peak) (b : List Peak) → drop_last (a ++ (p ∷ q ∷ b)) ≡ a ++ (p ∷ drop_last (q ∷ b))
front-append [] p q b = refl
front-append (x ∷ []) p q b = refl
front-append (x ∷ y ∷ a) p q b = ap (λ (m : List Peak). x ∷ m) (front-append (y ∷ a) p q b)

-- a list of groups with g among them, neither first nor last
record Amid (g : List Peak) (gs : List (List Peak)) : Type 0 where
  head : Peak
  heads : List Peak
  earlier : List (List Peak)
  next : List Peak
  later : List (List Peak)
  is : gs ≡ ((head ∷ heads) ∷ earlier) ++ (g ∷ next ∷ later)

module _ (n s : ℕ) where
  amid_attach : (x : Peak) (g : List Peak) (gs : List (List Peak)) → Amid g gs → Amid g (attach (alike n s) x gs)
  unfolding attach
  amid_attach x g gs m = rw m.is (go (alike n s x m.head))
    where
      go : (b : Bool) → Amid g (cond b ((x ∷ m.head ∷ m.heads) ∷ (m.earlier ++ (g ∷ m.next ∷ m.later))) ((x ∷ []) ∷ (m.head ∷ m.heads) ∷ (m.earlier ++ (g ∷ m.next ∷ m.later))))
      go true = record { head = x; heads = m.head ∷ m.heads; earlier = m.earlier; next = m.next; later = m.later; is = refl }
      go false = record { head = x; heads = []; earlier = (m.head ∷ m.heads) ∷ m.earlier; next = m.next; later = m.later; is = refl }

  linked_high : (y : Peak) (g : List Peak) → All (λ p. high n s p ≡ true) (y ∷ g) → Linked (alike n s) y g
  linked_high y [] a = tt
  linked_high y (z ∷ g) a = (rw (a.0, a.1.0), linked_high z g a.1)

  last_high : (y : Peak) (g : List Peak) → All (λ p. high n s p ≡ true) (y ∷ g) → high n s (last_from (alike n s) y g) ≡ true
  last_high y [] a = a.0
  last_high y (z ∷ g) a = last_high z g a.1

  module _ (y : Peak) (g : List Peak) (x z : Peak) (after : List Peak) (a : All (λ p. high n s p ≡ true) (y ∷ g)) (b : high n s x ≡ false) (c : high n s z ≡ false) where
    amid_base : Amid (y ∷ g) (groups (alike n s) (x ∷ ((y ∷ g) ++ (z ∷ after))))
    unfolding groups attach
    amid_base =
        let o = opens (alike n s) z (groups (alike n s) after) in
        let gs = (z ∷ o.0) ∷ o.1 in
        let j : together gs ≡ z ∷ after = sym (ap together o.2) ∙ groups_together (alike n s) (z ∷ after) in
        let cut : Cut (alike n s) (last_from (alike n s) y g) gs = rw (last_high y g a, c) in
        let k : groups (alike n s) (together gs) ≡ gs = ap (groups (alike n s)) j ∙ o.2 in
        let e : groups (alike n s) (y ∷ (g ++ (z ∷ after))) ≡ (y ∷ g) ∷ gs = ap (λ (m : List Peak). groups
        (alike n s) (y ∷ (g ++ m))) (sym j) ∙ first_group (alike n s) y g gs (linked_high y g a) cut k in
        let d : alike n s x y ≡ false = rw (b, a.0) in
        record { head = x; heads = []; earlier = []; next = z ∷ o.0; later = o.1; is = ap (attach (alike n s) x) e ∙ rw d }

    amid_groups : (before : List Peak) → Amid (y ∷ g) (groups (alike n s) (before ++ (x ∷ ((y ∷ g) ++ (z ∷ after)))))
    unfolding groups
    amid_groups [] = amid_base
    amid_groups (u ∷ before) = amid_attach u (y ∷ g) (groups (alike n s) (before ++ (x ∷ ((y ∷ g) ++ (z ∷ after))))) (amid_groups before)

  map-append : (a b : List (List Peak)) → map largest (a ++ b) ≡ map largest a ++ map largest b
  map-append [] b = refl
  map-append (h ∷ a) b = ap (λ (m : List Peak). largest h ∷ m) (map-append a b)

  amid_kept : (g : List Peak) (gs : List (List Peak)) → Amid g gs → high n s (largest g) ≡ true → In (largest g) (those (high n s) (drop_last (drop 1 (map largest gs))))
  unfolding those
  amid_kept g gs m h =
      let e = ap (λ (l : List (List Peak)). those (high n s) (drop_last (drop 1 (map largest l)))) m.is in
      let d = map-append m.earlier (g ∷ m.next ∷ m.later) in
      let q = front-append (map largest m.earlier) (largest g) (largest m.next) (map largest m.later) in
      let t = those_append (high n s) (map largest m.earlier) (largest g ∷ drop_last (largest m.next ∷ map largest m.later)) in
      record {
        before = those (high n s) (map largest m.earlier);
        after = those (high n s) (drop_last (largest m.next ∷ map largest m.later));
        is = e ∙ ap (λ (l : List Peak). those (high n s) (drop_last l)) d ∙ ap (those (high n s)) q ∙ t ∙ rw h;
      }

  pub stands_standing : (l : List Peak) (y : Peak) (g : List Peak) → Stands (high n s) l (y ∷ g) → In (largest (y ∷ g)) (standing n s l)
  unfolding tops
  stands_standing l y g k =
      let m = amid_groups y g k.first k.last k.after k.all_high k.low_before k.low_after k.before in
      let h : high n s (largest (y ∷ g)) ≡ true = largest_alike n s y g (linked_high y g k.all_high) ∙ k.all_high.0 in
      rw k.is (amid_kept (y ∷ g) (groups (alike n s) (k.before ++ (k.first ∷ ((y ∷ g) ++ (k.last ∷ k.after))))) m h)
