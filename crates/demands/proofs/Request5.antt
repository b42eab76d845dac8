-- Document 02, [5]: a record keeps its last crossing's place and its groups, and refusal 8 asks about them what the
-- request says, in addition to document 01's relations; whatever is handed out keeps them. Demand 2 has what groups
-- are, that they never exceed the largest set, and how they are listed. Assumes nothing.
use Prim.Native.Nat.{◌≤◌, ◌<◌}
use mathlib.Core.Path.{◌≡◌, refl, ◌∙◌}
use mathlib.Core.Bool.{Bool, cond, false, not, true, ◌&&◌}
use mathlib.Core.List.{List}
use mathlib.Core.Logic.{◌⊎◌, inl, inr}
use native.Mathlib.Omega.{arith}
use borrow.Author.Tests.{leb-true, ne_eqb}
use lib.Dec.{eqb, leb}
use lib.IntN.{ℤ}
use Rattle.truth.proofs.Laws.{and-true}
use Rattle.refusal.specs.declared.Refusal.TheVariants.{BrokenState}
use Rattle.record_state.specs.Answers.{opened}
use Rattle.sample_items.specs.declared.Items.{Items}
use Rattle.record_feed.specs.Answers.{fed}
use Rattle.record_state.specs.State.{counts_kept, failed, failure_kept, groups_kept, items_kept, last_kept, length_kept, no_groups, none_kept, sound}
use Rattle.record_state.specs.declared.Record.{Record}
use Rattle.record_feed.proofs.Fed.{fed_broken}
use Rattle.record_state.proofs.Relations.{Failure, None, kept_from}
use Rattle.record_state.proofs.Bounds.{failure}
use Rattle.record_state.proofs.Opening.{opened_sound}
use Rattle.record_feed.proofs.Theorems.{fed_sound}
use Rattle.std.specs.Prelude.{Ok, Err}

-- ---- the statement
-- document 01's relations
abbrev before : Record → Bool
before r = items_kept r && (last_kept r && (length_kept r && (counts_kept r && cond (failed r) (failure_kept r) (none_kept r))))

-- what the request adds, with any crossing
pub record Grouped (r : Record) : Type 0 where
  pub not-before : r.last_chosen ≤ r.last_crossing
  pub below : r.last_crossing < r.n
  pub some : 1 ≤ r.groups
  pub within : r.groups ≤ r.largest

-- there is any crossing
abbrev pub any_crossing : Record → Bool
any_crossing r = not (eqb r.crossings 0)

pub record Request5 : Type 0 where
  -- the relations are document 01's and these, no other: "with any crossing .. else"
  pub exactly : (r : Record) → sound r ≡ (before r && cond (any_crossing r) (groups_kept r) (no_groups r))
  -- in a state that keeps document 01's relations there is a crossing exactly if there is a first failure, of which the
  -- definition speaks
  pub same : (r : Record) → before r ≡ true → any_crossing r ≡ failed r
  pub crossed : (r : Record) → sound r ≡ true → ¬ (r.crossings ≡ 0) → Grouped r
  pub none : (r : Record) → sound r ≡ true → r.crossings ≡ 0 → (r.last_crossing ≡ 0) × (r.groups ≡ 0)
  -- a state without them is refused by 8, whatever piece comes with it
  pub refused : (r : Record) (xs ys : List ℤ) → sound r ≡ false → fed r xs ys ≡ Err BrokenState
  -- what is handed out keeps them
  pub fresh : (items : Items) (s : Record) → opened items ≡ Ok s → sound s ≡ true
  pub handed : (r : Record) (xs ys : List ℤ) (t : Record) → fed r xs ys ≡ Ok t → sound t ≡ true

-- ---- the proof
parted : (a b c d f x y g h : Bool) → (a && (b && (c && (d && cond f (x && g) (y && h))))) ≡ ((a && (b && (c && (d && cond f x y)))) && cond f g h)
parted false b c d f x y g h = refl
parted true false c d f x y g h = refl
parted true true false d f x y g h = refl
parted true true true false f x y g h = refl
parted true true true true true x y g h = refl
parted true true true true false x y g h = refl

by_failure : (r : Record) → sound r ≡ (before r && cond (failed r) (groups_kept r) (no_groups r))
unfolding sound
by_failure r = parted (items_kept r) (last_kept r) (length_kept r) (counts_kept r) (failed r) (failure_kept r) (none_kept r) (groups_kept r) (no_groups r)

-- a first failure has a largest set of 1 at least, within the crossings; without one there is no crossing
counts : (r : Record) (f : Bool) → counts_kept r ≡ true → cond f (failure_kept r) (none_kept r) ≡ true → any_crossing r ≡ f
counts r true c e =
    let l = leb-true 1 r.largest (and-true (leb 1 r.largest) _ e).0 in
    rw (ne_eqb r.crossings 0 (λ z. omega (arith, l, leb-true r.largest r.crossings c)))
counts r false c e = rw (and-true (eqb r.crossings 0) _ e).0

same : (r : Record) → before r ≡ true → any_crossing r ≡ failed r
same r e =
    let e₁ = and-true (items_kept r) _ e in
    let e₂ = and-true (last_kept r) _ e₁.1 in
    let e₃ = and-true (length_kept r) _ e₂.1 in
    let e₄ = and-true (counts_kept r) _ e₃.1 in
    counts r (failed r) e₄.0 e₄.1

alike : (b c d g h : Bool) → (b ≡ true → c ≡ d) → (b && cond d g h) ≡ (b && cond c g h)
alike false c d g h e = refl
alike true c d g h e = rw (e refl)

relations : (r : Record) → sound r ≡ (before r && cond (any_crossing r) (groups_kept r) (no_groups r))
relations r = by_failure r ∙ alike (before r) (any_crossing r) (failed r) (groups_kept r) (no_groups r) (same r)

grouped : (r : Record) → sound r ≡ true → ¬ (r.crossings ≡ 0) → Grouped r
grouped r s h =
    let f = failure (kept_from r s) h in
    record { not-before = f.last_crossing; below = f.last_crossing_below; some = f.groups; within = f.within }

empty : (r : Record) → sound r ≡ true → r.crossings ≡ 0 → (r.last_crossing ≡ 0) × (r.groups ≡ 0)
empty r s e = let k = kept_from r s in go k.figures k.counts
  where
    go : None r ⊎ Failure r → r.largest ≤ r.crossings → (r.last_crossing ≡ 0) × (r.groups ≡ 0)
    go (inl n) l = (n.last_crossing, n.groups)
    go (inr f) l = absurd (omega (arith, f.largest))

pub request_5 : Request5
request_5 =
    record {
      exactly = relations;
      same = same;
      crossed = grouped;
      none = empty;
      refused = fed_broken;
      fresh = opened_sound;
      handed = fed_sound;
    }
