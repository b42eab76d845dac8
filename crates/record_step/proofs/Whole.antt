-- The state that the samples lead to one by one is the state of the whole list. From any state r, the samples ys with
-- the crossings cs among them lead to `finish r ys cs` (`whole`, by induction on ys). Assumes nothing.
use Prim.Native.Nat.{ℕ, ◌+◌, ◌-◌}
use mathlib.Core.Path.{◌≡◌, refl, sym, ap, ◌∙◌}
use mathlib.Core.Bool.{Bool, true, false, cond, ◌||◌}
use mathlib.Core.List.{List, [], ◌∷◌, foldl}
use native.Mathlib.Nat.{zero-add, add-zero}
use native.Mathlib.Omega.{arith}
use lib.ListN.{length}
use lib.Dec.{eqb}
use borrow.Author.Tests.{ne_eqb}
use Rattle.sample_items.specs.declared.Items.{Items}
use Rattle.sample_channels.specs.declared.Moment.{Moment}
use Rattle.crossing_sets.specs.Walk.{since, later, walk}
use Rattle.crossing_sets.specs.Groups as grouping
use Rattle.crossing_sets.proofs.Parting.{as_many}
use Rattle.crossing_sets.proofs.Starts as start
use Rattle.record_state.specs.declared.Record.{Record}
use Rattle.crossing_places.specs.Reading.{time_at, passing, crossings, first_of, last_of}
use Rattle.record_state.specs.State.{state_of}
use Rattle.record_step.specs.Step.{moved, counts, starts, crossed, crosses, stepped}
use Rattle.truth.proofs.Laws.{true≢false}
use Rattle.crossing_places.proofs.Scan.{places_from, places_whole}
use Rattle.record_step.proofs.Steps.{ext, marked}

-- those of the crossings cs that join the largest set after the state r
unfoldable rest : Record → List ℕ → List ℕ
rest r cs =
    cond (eqb r.crossings 0)
    (walk (time_at r.items.step r.items.ramp) r.items.decorrelation cs)
    (later (time_at r.items.step r.items.ramp) r.items.decorrelation r.last_chosen cs)

-- those of them that start a group after it
unfoldable begun : Record → List ℕ → List ℕ
begun r cs =
    cond (eqb r.crossings 0)
    (start.begin (time_at r.items.step r.items.ramp) r.items.decorrelation cs)
    (start.starts (time_at r.items.step r.items.ramp) r.items.decorrelation r.last_crossing cs)

-- the state r and then the samples ys with the crossings cs among them
finish : Record → List Moment → List ℕ → Record
finish r ys cs =
    record {
      items = r.items;
      n = r.n + length ys;
      last = last_of r.last ys;
      crossings = r.crossings + length cs;
      largest = r.largest + length (rest r cs);
      first = cond (eqb r.crossings 0) (first_of r.first cs) r.first;
      last_chosen = last_of r.last_chosen (rest r cs);
      last_crossing = last_of r.last_crossing cs;
      groups = r.groups + length (begun r cs);
    }

same : {A : Type 0} (b : Bool) (x : A) → cond b x x ≡ x
same true x = refl
same false x = refl

rest_nil : (r : Record) → rest r [] ≡ []
unfolding rest walk later
rest_nil r = same (eqb r.crossings 0) []

begun_nil : (r : Record) → begun r [] ≡ []
unfolding begun start.begin start.starts
begun_nil r = same (eqb r.crossings 0) []

finish_nil : (r : Record) → r ≡ finish r [] []
unfolding finish last_of first_of
finish_nil r =
    let e = rest_nil r in
    ext r (finish r [] []) refl (sym (add-zero r.n)) refl (sym (add-zero r.crossings))
    (sym (ap (λ (l : List ℕ). r.largest + length l) e ∙ add-zero r.largest))
    (sym (same (eqb r.crossings 0) r.first))
    (sym (ap (last_of r.last_chosen) e))
    refl
    (sym (ap (λ (l : List ℕ). r.groups + length l) (begun_nil r) ∙ add-zero r.groups))

-- a crossing that is far enough is the next, and one that is not is passed over
far : {A : Type 0} (a b : Bool) (x y : A) → (a || b) ≡ true → cond a x (cond b x y) ≡ x
far true b x y e = refl
far false true x y e = refl
far false false x y e = absurd (true≢false (sym e))

near : {A : Type 0} (a b : Bool) (w x y : A) → (a || b) ≡ false → cond a x (cond b x y) ≡ cond a w y
near true b w x y e = absurd (true≢false e)
near false true w x y e = absurd (true≢false e)
near false false w x y e = refl

not-zero : (n : ℕ) → eqb (n + 1) 0 ≡ false
not-zero n = ne_eqb (n + 1) 0 (λ e. omega arith)

-- one more, or none
number : (b : Bool) (m x : ℕ) (l : List ℕ) → cond b (m + 1) m + length l ≡ m + length (cond b (x ∷ l) l)
number true m x l = omega arith
number false m x l = refl

newest : (b : Bool) (x d : ℕ) (l : List ℕ) → last_of (cond b x d) l ≡ last_of d (cond b (x ∷ l) l)
unfolding last_of
newest true x d l = refl
newest false x d l = refl

module _ (r : Record) (y : Moment) (cs : List ℕ) where
  abbrev next : Bool → Bool → Record
  next b g = marked r y (eqb r.crossings 0) b g

  -- the largest set goes on from a crossing that joins it, or else from its last
  rest_turn : (b g : Bool) → counts r ≡ b → cond b (r.n ∷ rest (next b g) cs) (rest (next b g) cs) ≡ rest r (r.n ∷ cs)
  unfolding rest walk later
  rest_turn true g e =
      rw not-zero (sym (far (eqb r.crossings 0) (since (time_at r.items.step r.items.ramp) r.items.decorrelation r.last_chosen r.n) _ _ e))
  rest_turn false g e =
      rw not-zero (sym (near (eqb r.crossings 0) (since (time_at r.items.step r.items.ramp) r.items.decorrelation r.last_chosen r.n) _ _ _ e ∙ same (eqb r.crossings 0) _))

  -- where groups start goes on from the crossing in any case
  begun_turn : (b g : Bool) → starts r ≡ g → cond g (r.n ∷ begun (next b g) cs) (begun (next b g) cs) ≡ begun r (r.n ∷ cs)
  unfolding begun start.begin start.starts
  begun_turn b true e =
      rw not-zero (sym (far (eqb r.crossings 0) (since (time_at r.items.step r.items.ramp) r.items.decorrelation r.last_crossing r.n) _ _ e))
  begun_turn b false e =
      rw not-zero (sym (near (eqb r.crossings 0) (since (time_at r.items.step r.items.ramp) r.items.decorrelation r.last_crossing r.n) _ _ _ e ∙ same (eqb r.crossings 0) _))

  turn_marked : (ys : List Moment) (b g : Bool) → counts r ≡ b → starts r ≡ g → finish (next b g) ys cs ≡ finish r (y ∷ ys) (r.n ∷ cs)
  unfolding finish last_of first_of
  turn_marked ys b g e f =
      ext (finish (next b g) ys cs) (finish r (y ∷ ys) (r.n ∷ cs)) refl (omega arith) refl (omega arith)
      (number b r.largest r.n (rest (next b g) cs) ∙ ap (λ (l : List ℕ). r.largest + length l) (rest_turn b g e))
      (rw not-zero)
      (newest b r.n r.last_chosen (rest (next b g) cs) ∙ ap (last_of r.last_chosen) (rest_turn b g e))
      refl
      (number g r.groups r.n (begun (next b g) cs) ∙ ap (λ (l : List ℕ). r.groups + length l) (begun_turn b g f))

turn : (r : Record) (y : Moment) (ys : List Moment) (cs : List ℕ) → finish (stepped r y) ys cs ≡ finish r (y ∷ ys) (cond (crosses r y) (r.n ∷ cs) cs)
unfolding stepped finish rest begun last_of
turn r y ys cs = go (crosses r y)
  where
    go : (b : Bool) → finish (cond b (crossed r y) (moved r 1 y)) ys cs ≡ finish r (y ∷ ys) (cond b (r.n ∷ cs) cs)
    go true = turn_marked r y cs ys (counts r) (starts r) refl refl
    go false = ext _ _ refl (omega arith) refl refl refl refl refl refl refl

-- a step leaves the ramp and the level, and the next sample is compared with this one
next_places : (r : Record) (y : Moment) (ys : List Moment) → places_from (stepped r y).items.ramp
    (stepped r y).items.levels (stepped r y).n (stepped r y).last ys ≡ places_from r.items.ramp
    r.items.levels (r.n + 1) y ys
unfolding stepped
next_places r y ys = go (crosses r y)
  where
    go : (b : Bool) → (let s = cond b (crossed r y) (moved r 1 y) in places_from s.items.ramp s.items.levels
        s.n s.last ys) ≡ places_from r.items.ramp r.items.levels (r.n + 1) y ys
    go true = refl
    go false = refl

whole : (r : Record) (ys : List Moment) → foldl stepped r ys ≡ finish r ys (places_from r.items.ramp r.items.levels r.n r.last ys)
unfolding places_from
whole r [] = finish_nil r
whole r (y ∷ ys) =
    whole (stepped r y) ys ∙ ap (finish (stepped r y) ys) (next_places r y ys) ∙ turn r y ys (places_from r.items.ramp r.items.levels (r.n + 1) y ys)

-- the samples one by one from a fresh record lead to the state of the list
pub state : (items : Items) (xs : List Moment) → foldl stepped (state_of items []) xs ≡ state_of items xs
unfolding state_of finish rest begun passing first_of last_of walk grouping.groups
state items xs =
    whole (state_of items []) xs
    ∙ ap (finish (state_of items []) xs) (places_whole items.ramp items.levels xs)
    ∙ ext (finish (state_of items []) xs (crossings items.ramp items.levels xs)) (state_of items xs) refl (zero-add _) refl (zero-add _) (zero-add _) refl refl refl
    (zero-add _ ∙ sym (ap length (start.firsts_begin (time_at items.step items.ramp) items.decorrelation
    (crossings items.ramp items.levels xs))) ∙ as_many (grouping.near (time_at items.step items.ramp)
    items.decorrelation) (crossings items.ramp items.levels xs))
