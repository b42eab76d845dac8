-- The answers to a piece, one law for each, and back from the answer to what held. Assumes nothing.
use Prim.Native.Nat.{ℕ, ◌+◌, ◌≤◌, ◌<◌}
use mathlib.Core.Path.{◌≡◌, refl}
use mathlib.Core.Bool.{Bool, true, false, cond, not}
use mathlib.Core.List.{List, foldl}
use lib.ListN.{length}
use lib.Dec.{eqb, leb, ltb}
use lib.IntN.{ℤ}
use borrow.Author.Tests.{eqb-true, eq-eqb, ne_eqb, ltb-false, lt-ltb, le-ltb}
use Rattle.truth.proofs.Laws.{impossible}
use Rattle.refusal.specs.declared.Refusal.{Refusal}
use Rattle.refusal.specs.declared.Refusal.TheVariants.{Sample, TooLong, BrokenState, Unequal, Acceleration}
use Rattle.sample_channels.specs.Channels.{moments, any_bad, bad_sample}
use Rattle.sample_channels.proofs.Range.{none_bad, all_good}
use Rattle.record_state.specs.declared.Record.{Record}
use Rattle.sample_items.specs.Limits.{most_samples}
use Rattle.record_state.specs.State.{sound}
use Rattle.record_step.specs.Step.{stepped}
use Rattle.sample_range.specs.Range.{first_bad}
use Rattle.record_feed.specs.Answers.{fed}
use Rattle.truth.proofs.Answers.{same_err}
use Rattle.std.specs.Prelude.{Ok, Err}

module _ (r : Record) (xs ys : List ℤ) where
  pub fed_broken : sound r ≡ false → fed r xs ys ≡ Err BrokenState
  unfolding fed
  fed_broken s = rw s

  module _ (s : sound r ≡ true) where
    pub fed_unequal : (length xs ≡ length ys → ⊥) → fed r xs ys ≡ Err Unequal
    unfolding fed
    fed_unequal h = rw (s, ne_eqb (length xs) (length ys) h)

    module _ (e : length xs ≡ length ys) where
      pub fed_bad : any_bad xs ys ≡ true → fed r xs ys ≡ Err (bad_sample (first_bad xs) (first_bad ys))
      unfolding fed
      fed_bad h = rw (s, eq-eqb (length xs) (length ys) e, h)

      -- without room it is its length, unless a sample is bad
      pub fed_full : most_samples r.items.step r.items.ramp < r.n + length xs → fed r xs ys ≡ cond (any_bad xs ys) (Err (bad_sample (first_bad xs) (first_bad ys))) (Err TooLong)
      unfolding fed
      fed_full l = rw (s, eq-eqb (length xs) (length ys) e, lt-ltb _ _ l)

      pub fed_taken : first_bad xs ≡ length xs → first_bad ys ≡ length ys → r.n + length xs ≤ most_samples r.items.step r.items.ramp → fed r xs ys ≡ Ok (foldl stepped r (moments xs ys))
      unfolding fed
      fed_taken g h l = rw (s, eq-eqb (length xs) (length ys) e, all_good xs ys g h, le-ltb _ _ l)

-- what a piece that is taken meets, and where it ends
pub record Meets (r : Record) (xs ys : List ℤ) (t : Record) : Type 0 where
  pub state : sound r ≡ true
  pub equal : length xs ≡ length ys
  pub roll : first_bad xs ≡ length xs
  pub acceleration : first_bad ys ≡ length ys
  pub room : r.n + length xs ≤ most_samples r.items.step r.items.ramp
  pub end : foldl stepped r (moments xs ys) ≡ t

only_taken : (a d b c : Bool) (f : Refusal) (s t : Record) → cond (not a) (Err BrokenState) (cond (not d) (Err Unequal) (cond b (Err f) (cond c (Err TooLong) (Ok s)))) ≡ Ok t
    → (a ≡ true) × (d ≡ true) × (b ≡ false) × (c ≡ false) × (s ≡ t)
only_taken true true false false f s t e = (refl, refl, refl, refl, cc)
only_taken true true false true f s t e = impossible (cc)
only_taken true true true c f s t e = impossible (cc)
only_taken true false b c f s t e = impossible (cc)
only_taken false d b c f s t e = impossible (cc)

pub taken : (r : Record) (xs ys : List ℤ) (t : Record) → fed r xs ys ≡ Ok t → Meets r xs ys t
unfolding fed
taken r xs ys t e =
    let o = only_taken (sound r) (eqb (length xs) (length ys)) (any_bad xs ys) (ltb (most_samples r.items.step
    r.items.ramp) (r.n + length xs)) (bad_sample (first_bad xs) (first_bad ys)) (foldl stepped r
    (moments xs ys)) t e in
    let g = none_bad xs ys o.2 in
    record {
      state = o.0;
      equal = eqb-true (length xs) (length ys) o.1;
      roll = g.0;
      acceleration = g.1;
      room = ltb-false (most_samples r.items.step r.items.ramp) (r.n + length xs) o.3;
      end = o.4;
    }

-- a sound state is never answered by refusal 8: the bad sample that is named is no broken state
named : (b : Bool) (p q : ℕ) → cond b (Sample p) (Acceleration q) ≡ BrokenState → ⊥
named true p q e = impossible (cc)
named false p q e = impossible (cc)

never : (d b c k : Bool) (p q : ℕ) (s : Record) → cond (not d) (Err Unequal) (cond b (Err (cond k (Sample p) (Acceleration q))) (cond c (Err TooLong) (Ok s))) ≡ Err BrokenState → ⊥
never false b c k p q s e = impossible (cc)
never true true c k p q s e = named k p q (same_err e)
never true false true k p q s e = impossible (cc)
never true false false k p q s e = impossible (cc)

pub not_broken : (r : Record) (xs ys : List ℤ) → sound r ≡ true → fed r xs ys ≡ Err BrokenState → ⊥
unfolding fed
not_broken r xs ys s e =
    never (eqb (length xs) (length ys)) (any_bad xs ys) (ltb (most_samples r.items.step r.items.ramp)
    (r.n + length xs)) (leb (first_bad xs) (first_bad ys)) (first_bad xs) (first_bad ys) (foldl stepped r
    (moments xs ys)) (rw s at e)
