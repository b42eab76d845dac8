-- A fresh record: what opening it met, and that it keeps the relations. Assumes nothing.
use Prim.Native.Nat.{ℕ}
use mathlib.Core.Path.{◌≡◌, refl}
use mathlib.Core.Bool.{Bool, true, false, cond}
use mathlib.Core.List.{[]}
use mathlib.Core.Logic.{inl}
use native.Mathlib.Omega.{arith}
use lib.Dec.{eqb}
use borrow.Author.Tests.{eqb-true}
use Rattle.truth.proofs.Laws.{impossible}
use Rattle.refusal.specs.declared.Refusal.TheVariants.{Item}
use Rattle.crossing_sets.specs.Walk.{walk}
use Rattle.crossing_sets.specs.Groups.{groups}
use Rattle.sample_items.specs.declared.Items.{Items}
use Rattle.record_state.specs.declared.Record.{Record}
use Rattle.sample_items.specs.Limits.{item_outside}
use Rattle.crossing_places.specs.Reading.{passing, first_of, last_of}
use Rattle.record_state.specs.State.{state_of, sound}
use Rattle.record_state.specs.Answers.{opened}
use Rattle.record_state.proofs.Relations.{kept_sound}
use Rattle.std.specs.Prelude.{Ok, Err}

only_taken : (b : Bool) (i : ℕ) (r s : Record) → cond b (Ok r) (Err (Item i)) ≡ Ok s → (b ≡ true) × (r ≡ s)
only_taken true i r s e = (refl, cc)
only_taken false i r s e = impossible (cc)

pub opened_taken : (items : Items) (s : Record) → opened items ≡ Ok s → (item_outside items ≡ 0) × (state_of items [] ≡ s)
unfolding opened
opened_taken items s e =
    let o = only_taken (eqb (item_outside items) 0) (item_outside items) (state_of items []) s e in
    (eqb-true _ 0 o.0, o.1)

fresh_sound : (items : Items) → item_outside items ≡ 0 → sound (state_of items []) ≡ true
unfolding state_of passing first_of last_of walk groups
fresh_sound items e =
    kept_sound (state_of items [])
    (record {
      outside = e;
      range = refl;
      fresh = λ z. refl;
      length = omega arith;
      counts = omega arith;
      figures = inl (record { first = refl; crossings = refl; largest = refl; last_chosen = refl; last_crossing = refl; groups = refl });
    })

pub opened_sound : (items : Items) (s : Record) → opened items ≡ Ok s → sound s ≡ true
opened_sound items s e = let o = opened_taken items s e in rw (← o.1) (fresh_sound items o.0)
