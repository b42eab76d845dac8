-- The relations of a sound state as facts about numbers, and back. Assumes nothing.
use Prim.Native.Nat.{ℕ, ◌-◌, ◌≤◌, ◌<◌}
use mathlib.Core.Path.{◌≡◌, refl}
use mathlib.Core.Bool.{Bool, true, false, cond, not, ◌&&◌, ◌||◌}
use mathlib.Core.Logic.{◌⊎◌, inl, inr}
use native.Mathlib.Omega.{arith}
use lib.Dec.{eqb, leb, ltb}
use borrow.Author.Tests.{leb-true, ltb-true, eqb-true, le-leb, lt-ltb, eq-eqb, ne_eqb}
use Rattle.record_state.specs.declared.Record.{Record}
use Rattle.sample_channels.specs.Channels.{in_range}
use Rattle.sample_items.specs.Limits.{item_outside, most_samples}
use Rattle.record_state.specs.State.{sound, is_still, items_kept, last_kept, length_kept, counts_kept, figures_kept, failure_kept, groups_kept, none_kept, no_groups}
use Rattle.truth.proofs.Laws.{and-true, both_true}

pub record None (r : Record) : Type 0 where
  pub first : r.first ≡ 0
  pub crossings : r.crossings ≡ 0
  pub largest : r.largest ≡ 0
  pub last_chosen : r.last_chosen ≡ 0
  pub last_crossing : r.last_crossing ≡ 0
  pub groups : r.groups ≡ 0

pub record Failure (r : Record) : Type 0 where
  pub largest : 1 ≤ r.largest
  pub crossings : r.crossings ≤ r.n - 1 - r.items.ramp
  pub above : r.items.ramp < r.first
  pub ordered : r.first ≤ r.last_chosen
  pub below : r.last_chosen < r.n
  pub last_crossing : r.last_chosen ≤ r.last_crossing
  pub last_crossing_below : r.last_crossing < r.n
  pub groups : 1 ≤ r.groups
  pub within : r.groups ≤ r.largest

-- the relations, as facts
pub record Kept (r : Record) : Type 0 where
  pub outside : item_outside r.items ≡ 0
  pub range : in_range r.last ≡ true
  pub fresh : r.n ≡ 0 → is_still r.last ≡ true
  pub length : r.n ≤ most_samples r.items.step r.items.ramp
  pub counts : r.largest ≤ r.crossings
  pub figures : None r ⊎ Failure r

implied : (n : ℕ) (s : Bool) → (not (eqb n 0) || s) ≡ true → n ≡ 0 → s ≡ true
implied n s e z = rw (eq-eqb n 0 z) at e

imply : (n : ℕ) (s b : Bool) → eqb n 0 ≡ b → (n ≡ 0 → s ≡ true) → (not b || s) ≡ true
imply n s true e f = f (eqb-true n 0 e)
imply n s false e f = refl

module _ (r : Record) where
  none_from : eqb r.first 0 ≡ true → none_kept r ≡ true → no_groups r ≡ true → None r
  none_from z e f =
      let c = and-true (eqb r.crossings 0) (eqb r.largest 0 && eqb r.last_chosen 0) e in
      let d = and-true (eqb r.largest 0) (eqb r.last_chosen 0) c.1 in
      let g = and-true (eqb r.last_crossing 0) (eqb r.groups 0) f in
      record {
        first = eqb-true r.first 0 z;
        crossings = eqb-true r.crossings 0 c.0;
        largest = eqb-true r.largest 0 d.0;
        last_chosen = eqb-true r.last_chosen 0 d.1;
        last_crossing = eqb-true r.last_crossing 0 g.0;
        groups = eqb-true r.groups 0 g.1;
      }

  failure_from : failure_kept r ≡ true → groups_kept r ≡ true → Failure r
  failure_from e f =
      let p = ltb r.last_chosen r.n in
      let q = leb r.first r.last_chosen in
      let s = ltb r.items.ramp r.first in
      let t = leb r.crossings (r.n - 1 - r.items.ramp) in
      let e₁ = and-true (leb 1 r.largest) (t && (s && (q && p))) e in
      let e₂ = and-true t (s && (q && p)) e₁.1 in
      let e₃ = and-true s (q && p) e₂.1 in
      let e₄ = and-true q p e₃.1 in
      let v = leb r.groups r.largest in
      let w = ltb r.last_crossing r.n in
      let f₁ = and-true (leb r.last_chosen r.last_crossing) (w && (leb 1 r.groups && v)) f in
      let f₂ = and-true w (leb 1 r.groups && v) f₁.1 in
      let f₃ = and-true (leb 1 r.groups) v f₂.1 in
      record {
        largest = leb-true 1 r.largest e₁.0;
        crossings = leb-true r.crossings (r.n - 1 - r.items.ramp) e₂.0;
        above = ltb-true r.items.ramp r.first e₃.0;
        ordered = leb-true r.first r.last_chosen e₄.0;
        below = ltb-true r.last_chosen r.n e₄.1;
        last_crossing = leb-true r.last_chosen r.last_crossing f₁.0;
        last_crossing_below = ltb-true r.last_crossing r.n f₂.0;
        groups = leb-true 1 r.groups f₃.0;
        within = leb-true r.groups r.largest f₃.1;
      }

  figures_from : (b : Bool) → eqb r.first 0 ≡ b → cond (not b) (failure_kept r && groups_kept r) (none_kept r && no_groups r) ≡ true → None r ⊎ Failure r
  figures_from true z e = let p = and-true (none_kept r) (no_groups r) e in inl (none_from z p.0 p.1)
  figures_from false z e = let p = and-true (failure_kept r) (groups_kept r) e in inr (failure_from p.0 p.1)

  pub kept_from : sound r ≡ true → Kept r
  unfolding sound
  kept_from e =
      let e₁ = and-true (items_kept r) (last_kept r && (length_kept r && (counts_kept r && figures_kept r))) e in
      let e₂ = and-true (last_kept r) (length_kept r && (counts_kept r && figures_kept r)) e₁.1 in
      let e₃ = and-true (length_kept r) (counts_kept r && figures_kept r) e₂.1 in
      let e₄ = and-true (counts_kept r) (figures_kept r) e₃.1 in
      let l = and-true (in_range r.last) (not (eqb r.n 0) || is_still r.last) e₂.0 in
      record {
        outside = eqb-true _ 0 e₁.0;
        range = l.0;
        fresh = implied r.n (is_still r.last) l.1;
        length = leb-true _ _ e₃.0;
        counts = leb-true _ _ e₄.0;
        figures = figures_from (eqb r.first 0) refl e₄.1;
      }

  figures_kept_lem : None r ⊎ Failure r → figures_kept r ≡ true
  figures_kept_lem (inl n) =
      rw (eq-eqb r.first 0 n.first)
      (both_true
      (both_true (eq-eqb r.crossings 0 n.crossings) (both_true (eq-eqb r.largest 0 n.largest) (eq-eqb r.last_chosen 0 n.last_chosen)))
      (both_true (eq-eqb r.last_crossing 0 n.last_crossing) (eq-eqb r.groups 0 n.groups)))
  figures_kept_lem (inr f) =
      rw (ne_eqb r.first 0 (λ z. omega (arith, f.above)))
      (both_true
      (both_true (le-leb 1 r.largest f.largest)
      (both_true (le-leb r.crossings (r.n - 1 - r.items.ramp) f.crossings)
      (both_true (lt-ltb r.items.ramp r.first f.above) (both_true (le-leb r.first r.last_chosen f.ordered) (lt-ltb r.last_chosen r.n f.below)))))
      (both_true (le-leb r.last_chosen r.last_crossing f.last_crossing)
      (both_true (lt-ltb r.last_crossing r.n f.last_crossing_below)
      (both_true (le-leb 1 r.groups f.groups) (le-leb r.groups r.largest f.within)))))

  pub kept_sound : Kept r → sound r ≡ true
  unfolding sound
  kept_sound k =
      both_true (eq-eqb _ 0 k.outside)
      (both_true (both_true k.range (imply r.n (is_still r.last) (eqb r.n 0) refl k.fresh))
      (both_true (le-leb r.n (most_samples r.items.step r.items.ramp) k.length) (both_true (le-leb r.largest r.crossings k.counts) (figures_kept_lem k.figures))))
