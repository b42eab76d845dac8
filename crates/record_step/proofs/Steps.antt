-- What is kept by a step: a sound state is sound after a sample in range, while there is room for it. Assumes nothing.
use Prim.Native.Nat.{ℕ, ◌+◌, ◌-◌, ◌≤◌, ◌<◌}
use mathlib.Core.Path.{◌≡◌, refl, sym}
use mathlib.Core.Bool.{Bool, true, false, cond, not, ◌||◌}
use mathlib.Core.Logic.{◌⊎◌, inl, inr}
use native.Mathlib.Nat.{mul-le-mul_right}
use native.Mathlib.Omega.{arith}
use lib.Dec.{eqb, ltb}
use borrow.Author.Tests.{eqb-true, eqb-false, lt-ltb, ltb-true, leb-true, le-leb}
use Rattle.sample_channels.specs.declared.Moment.{Moment}
use Rattle.sample_channels.specs.Channels.{in_range, above}
use Rattle.crossing_sets.specs.Walk.{since}
use Rattle.record_state.specs.declared.Record.{Record}
use Rattle.sample_items.specs.Limits.{most_samples}
use Rattle.crossing_places.specs.Reading.{time_at, rises}
use Rattle.record_state.specs.State.{sound}
use Rattle.record_step.specs.Step.{moved, counts, crossed, below, crosses, stepped}
use Rattle.truth.proofs.Laws.{and-true, true≢false}
use Rattle.record_state.proofs.Relations.{None, Failure, Kept, kept_from, kept_sound}
use Rattle.record_state.proofs.Bounds.{failure, last_crossing_after, groups_within}

-- states are equal figure by figure
pub ext : (s t : Record) → s.items ≡ t.items → s.n ≡ t.n → s.last ≡ t.last → s.crossings ≡ t.crossings →
    s.largest ≡ t.largest → s.first ≡ t.first → s.last_chosen ≡ t.last_chosen → s.last_crossing
    ≡ t.last_crossing → s.groups ≡ t.groups → s ≡ t
ext s t a e f g h j k l m =
    λ i. record { items = a i; n = e i; last = f i; crossings = g i; largest = h i; first = j i; last_chosen = k i; last_crossing = l i; groups = m i }

pub moved_kept : (r : Record) (k : ℕ) (x : Moment) → Kept r → in_range x ≡ true → 1 ≤ k → r.n + k ≤ most_samples r.items.step r.items.ramp → Kept (moved r k x)
moved_kept r k x s i h l =
    record {
      outside = s.outside;
      range = i;
      fresh = λ z. absurd (omega arith);
      length = l;
      counts = s.counts;
      figures = go s.figures;
    }
  where
    go : None r ⊎ Failure r → None (moved r k x) ⊎ Failure (moved r k x)
    go (inl n) =
        inl (record { first = n.first; crossings = n.crossings; largest = n.largest; last_chosen = n.last_chosen; last_crossing = n.last_crossing; groups = n.groups })
    go (inr f) =
        inr
        (record {
          largest = f.largest;
          crossings = omega (arith, f.crossings);
          above = f.above;
          ordered = f.ordered;
          below = omega (arith, f.below);
          last_crossing = f.last_crossing;
          last_crossing_below = omega (arith, f.last_crossing_below);
          groups = f.groups;
          within = f.within;
        })

-- `crossed`, over its three tests
abbrev pub marked : Record → Moment → Bool → Bool → Bool → Record
marked r x first counts starts =
    record {
      items = r.items;
      n = r.n + 1;
      last = x;
      crossings = r.crossings + 1;
      largest = cond counts (r.largest + 1) r.largest;
      first = cond first r.n r.first;
      last_chosen = cond counts r.n r.last_chosen;
      last_crossing = r.n;
      groups = cond starts (r.groups + 1) r.groups;
    }

module _ (r : Record) (x : Moment) (s : Kept r) (h : r.items.ramp < r.n) where
  -- a crossing far from the last one is far from the largest set's last, which is not after it
  wider : since (time_at r.items.step r.items.ramp) r.items.decorrelation r.last_crossing r.n
      ≡ true → since (time_at r.items.step r.items.ramp) r.items.decorrelation r.last_chosen r.n
      ≡ true
  wider e =
      let t = mul-le-mul_right {m = r.last_chosen - r.items.ramp} {n = r.last_crossing - r.items.ramp} r.items.step (omega (arith, last_crossing_after s)) in
      le-leb (time_at r.items.step r.items.ramp r.last_chosen + r.items.decorrelation)
      (time_at r.items.step r.items.ramp r.n) (omega (
        arith,
        t,
        leb-true (time_at r.items.step
            r.items.ramp r.last_crossing + r.items.decorrelation) (time_at r.items.step r.items.ramp
            r.n) e,
      ))

  -- so one near the largest set's last is near the last one, and not the first
  pub near_both : counts r ≡ false
      → (eqb r.crossings 0 ≡ false) × (since (time_at r.items.step r.items.ramp) r.items.decorrelation
      r.last_chosen r.n ≡ false) × (since (time_at r.items.step r.items.ramp)
      r.items.decorrelation r.last_crossing r.n ≡ false)
  near_both e = go (eqb r.crossings 0) (since (time_at r.items.step r.items.ramp)
      r.items.decorrelation r.last_chosen r.n) (since (time_at r.items.step r.items.ramp)
      r.items.decorrelation r.last_crossing r.n) e wider
    where
      go : (z b g : Bool) → (z || b) ≡ false → (g ≡ true → b ≡ true) → (z ≡ false) × (b ≡ false) × (g ≡ false)
      go true b g e i = absurd (true≢false e)
      go false true g e i = absurd (true≢false e)
      go false false true e i = absurd (true≢false (sym (i refl)))
      go false false false e i = (refl, refl, refl)

  marked_figures : (z b g : Bool) → eqb r.crossings 0 ≡ z → (g ≡ true → b ≡ true) → Failure (marked r x z (z || b) (z || g))
  marked_figures true b g e i =
      let c : r.crossings ≡ 0 = eqb-true _ _ e in
      record {
        largest = omega arith;
        crossings = omega arith;
        above = h;
        ordered = omega arith;
        below = omega arith;
        last_crossing = omega arith;
        last_crossing_below = omega arith;
        groups = omega arith;
        within = omega (arith, groups_within s);
      }
  marked_figures false true g e i =
      let f = failure s (eqb-false _ _ e) in
      record {
        largest = omega arith;
        crossings = omega (arith, f.crossings);
        above = f.above;
        ordered = omega (arith, f.ordered, f.below);
        below = omega arith;
        last_crossing = omega arith;
        last_crossing_below = omega arith;
        groups = more g f.groups;
        within = most g f.within;
      }
    where
      more : (g : Bool) → 1 ≤ r.groups → 1 ≤ cond g (r.groups + 1) r.groups
      more true l = omega arith
      more false l = l

      most : (g : Bool) → r.groups ≤ r.largest → cond g (r.groups + 1) r.groups ≤ r.largest + 1
      most true l = omega arith
      most false l = omega arith
  marked_figures false false true e i = absurd (true≢false (sym (i refl)))
  marked_figures false false false e i =
      let f = failure s (eqb-false _ _ e) in
      record {
        largest = f.largest;
        crossings = omega (arith, f.crossings);
        above = f.above;
        ordered = f.ordered;
        below = omega (arith, f.below);
        last_crossing = omega (arith, f.below);
        last_crossing_below = omega arith;
        groups = f.groups;
        within = f.within;
      }

  counts_more : (b : Bool) → cond b (r.largest + 1) r.largest ≤ r.crossings + 1
  counts_more true = omega (arith, s.counts)
  counts_more false = omega (arith, s.counts)

  pub crossed_kept : in_range x ≡ true → r.n < most_samples r.items.step r.items.ramp → Kept (crossed r x)
  crossed_kept i l =
      record {
        outside = s.outside;
        range = i;
        fresh = λ z. absurd (omega arith);
        length = omega arith;
        counts = counts_more (counts r);
        figures =
            inr
            (marked_figures
            (eqb r.crossings 0)
            (since (time_at r.items.step r.items.ramp) r.items.decorrelation r.last_chosen r.n)
            (since (time_at r.items.step r.items.ramp) r.items.decorrelation r.last_crossing r.n)
            refl
            wider);
      }

-- a crossing is after the ramp
pub crosses_after : (r : Record) (x : Moment) → crosses r x ≡ true → r.items.ramp < r.n
crosses_after r x e = ltb-true r.items.ramp r.n (and-true (ltb r.items.ramp r.n) (rises r.items.levels r.last x) e).0

pub stepped_sound : (r : Record) (x : Moment) → sound r ≡ true → in_range x ≡ true → r.n < most_samples r.items.step r.items.ramp → sound (stepped r x) ≡ true
unfolding stepped
stepped_sound r x e i l = kept_sound (stepped r x) (go (crosses r x) refl)
  where
    k : Kept r
    k = kept_from r e

    go : (b : Bool) → crosses r x ≡ b → Kept (cond b (crossed r x) (moved r 1 x))
    go true c = crossed_kept r x k (crosses_after r x c) i l
    go false c = moved_kept r 1 x k i (omega arith) (omega arith)

pub stepped_n : (r : Record) (x : Moment) → (stepped r x).n ≡ r.n + 1
unfolding stepped
stepped_n r x = go (crosses r x)
  where
    go : (b : Bool) → (cond b (crossed r x) (moved r 1 x)).n ≡ r.n + 1
    go true = refl
    go false = refl

-- the items, and so the bound on n, stay
pub stepped_most : (r : Record) (x : Moment) → most_samples (stepped r x).items.step (stepped r x).items.ramp ≡ most_samples r.items.step r.items.ramp
unfolding stepped
stepped_most r x = go (crosses r x)
  where
    go : (b : Bool) → most_samples (cond b (crossed r x) (moved r 1 x)).items.step (cond b (crossed r x) (moved r 1 x)).items.ramp ≡ most_samples r.items.step r.items.ramp
    go true = refl
    go false = refl

-- after a timed sample the next one is timed
pub stepped_levels : (r : Record) (x : Moment) → (stepped r x).items.levels ≡ r.items.levels
unfolding stepped
stepped_levels r x = go (crosses r x)
  where
    go : (b : Bool) → (cond b (crossed r x) (moved r 1 x)).items.levels ≡ r.items.levels
    go true = refl
    go false = refl

pub stepped_timed : (r : Record) (x : Moment) → r.items.ramp < r.n → (stepped r x).items.ramp < (stepped r x).n
unfolding stepped
stepped_timed r x h = go (crosses r x)
  where
    go : (b : Bool) → (cond b (crossed r x) (moved r 1 x)).items.ramp < (cond b (crossed r x) (moved r 1 x)).n
    go true = omega arith
    go false = omega arith

-- and a crossing may follow it where it is at most the level
pub stepped_low : (r : Record) (x : Moment) → (stepped r x).items.ramp < (stepped r x).n → below (stepped r x) ≡ not (above r.items.levels x)
unfolding stepped
stepped_low r x = go (crosses r x)
  where
    go : (b : Bool) → (cond b (crossed r x) (moved r 1 x)).items.ramp < (cond b (crossed r x) (moved r 1 x)).n → below (cond b (crossed r x) (moved r 1 x)) ≡ not (above r.items.levels x)
    go true h = rw (lt-ltb _ _ h)
    go false h = rw (lt-ltb _ _ h)
