-- Document 02, [8]: roll and acceleration watched together. What a crossing is, of the two slices; that a one-channel
-- job, of roll or of acceleration, which lends zeros for the other, is read as document 01 reads it; what refusal 8
-- asks of a record's levels and last samples; which sample refusal 2 names; that pieces which are all taken are cut at
-- the same places in both channels. The order of the refusals is `Demand1.feed`, `.list` and `.open_record`; what
-- pieces come to is `Demand2`. a are the two levels, xs the samples of the roll, ys those of the acceleration. Assumes
-- nothing.
use Prim.Native.Nat.{ℕ, zero, suc, ◌-◌, ◌≤◌, ◌<◌, min}
use mathlib.Core.Path.{◌≡◌, refl, sym}
use mathlib.Core.Bool.{Bool, cond, false, not, or-false, true, ◌&&◌, ◌||◌}
use mathlib.Core.List.{List, [], ◌∷◌, map}
use mathlib.Core.Logic.{◌⊎◌, inl, inr}
use native.Mathlib.Omega.{arith}
use borrow.Author.Tests.{eqb-true, leb-true, leb-false, le-leb, lt-leb, lt-ltb, ltb-true, le-ltb}
use lib.Dec.{eqb, leb, ltb}
use lib.IntN.{ℤ, nat_abs, pos}
use lib.ListN.{get_or, length}
use Rattle.truth.proofs.Laws.{and-true, true≢false}
use Rattle.refusal.specs.declared.Refusal.TheVariants.{Acceleration, Sample}
use Rattle.refusal.specs.Numbers.{channel_of, value_of}
use Rattle.sample_size.specs.Above.{above}
use Rattle.sample_range.specs.Range.{sample_in_range}
use Rattle.sample_channels.specs.declared.Levels.{Levels}
use Rattle.sample_channels.specs.Channels as channels
use Rattle.sample_channels.specs.Channels.{bad_sample, moment, moments}
use Rattle.sample_items.specs.declared.Items.{Items}
use Rattle.sample_channels.proofs.Moments.{moments_at}
use Rattle.sample_items.specs.Limits.{decorrelation_in_range, item_outside, level_in_range, ramp_in_range, step_in_range}
use Rattle.crossing_places.specs.Reading.{crosses_at, sample_at}
use Rattle.record_state.specs.declared.Record.{Record}
use Rattle.record_state.specs.State.{sound}
use Rattle.record_state.proofs.Relations.{kept_from}
use Rattle.record_feed.specs.Pieces.{AllTaken, Even, Piece, end, more, none, piece}
use Rattle.record_feed.proofs.Fed.{taken}

-- ---- the statement
-- a sample of one channel
abbrev at : List ℤ → ℕ → ℤ
at xs i = get_or xs i (pos 0)

-- a crossing stands at sample i: it is past the first timed sample, the sample before is above in neither channel, and
-- it is above in one
pub record Crossing (R : ℕ) (a : Levels) (xs ys : List ℤ) (i : ℕ) : Type 0 where
  pub timed : R < i
  pub roll_before : above a.roll (at xs (i - 1)) ≡ false
  pub acceleration_before : above a.acceleration (at ys (i - 1)) ≡ false
  pub one : (above a.roll (at xs i) ≡ true) ⊎ (above a.acceleration (at ys i) ≡ true)

-- a one-channel job lends zeros for the other
abbrev pub zeros : List ℤ → List ℤ
zeros xs = map (λ (x : ℤ). pos 0) xs

-- what refusal 8 asks of both channels
pub record Both (r : Record) : Type 0 where
  pub roll_level : level_in_range r.items.levels.roll ≡ true
  pub acceleration_level : level_in_range r.items.levels.acceleration ≡ true
  pub roll : sample_in_range r.last.roll ≡ true
  pub acceleration : sample_in_range r.last.acceleration ≡ true
  pub fresh : r.n ≡ 0 → (nat_abs r.last.roll ≡ 0) × (nat_abs r.last.acceleration ≡ 0)

pub record Request8 : Type 0 where
  -- a crossing of the record is a crossing of the two slices, and no other
  pub crosses : (R : ℕ) (a : Levels) (xs ys : List ℤ) (i : ℕ) → i < length xs → i < length ys → crosses_at R a (moments xs ys) i ≡ true → Crossing R a xs ys i
  pub crossing : (R : ℕ) (a : Levels) (xs ys : List ℤ) (i : ℕ) → i < length xs → i < length ys → Crossing R a xs ys i → crosses_at R a (moments xs ys) i ≡ true
  -- with zeros for the acceleration, a crossing is document 01's, of the roll alone
  pub alone : (R : ℕ) (a : Levels) (xs : List ℤ) (i : ℕ) → crosses_at R a (moments xs (zeros xs)) i ≡ (ltb R i && (not (above a.roll (at xs (i - 1))) && above a.roll (at xs i)))
  -- with zeros for the roll it is document 01's too, of the acceleration alone
  pub alone_acceleration :
      (R : ℕ) (a : Levels) (ys : List ℤ) (i : ℕ)
      → crosses_at R a (moments (zeros ys) ys) i
      ≡ (ltb R i && (not (above a.acceleration (at ys (i - 1))) && above a.acceleration (at ys i)))
  -- both levels and both last samples are in range in a state that is taken, and before the first sample both last
  -- samples are 0
  pub both : (r : Record) → sound r ≡ true → Both r
  -- refusal 2 names the lower place and its channel, roll first on a tie
  pub lower : (p q : ℕ) → value_of (bad_sample p q) ≡ min p q
  pub roll_first : (p q : ℕ) → p ≤ q → channel_of (bad_sample p q) ≡ 1
  pub then_acceleration : (p q : ℕ) → q < p → channel_of (bad_sample p q) ≡ 2
  -- pieces that are all taken are cut at the same places
  pub even : (r t : Record) (ps : List Piece) → AllTaken r ps t → Even ps

-- ---- the proof
neither : (b c : Bool) → not (b || c) ≡ true → (b ≡ false) × (c ≡ false)
neither true c e = absurd (true≢false (sym e))
neither false true e = absurd (true≢false (sym e))
neither false false e = (refl, refl)

one_of : (b c : Bool) → (b || c) ≡ true → (b ≡ true) ⊎ (c ≡ true)
one_of true c e = inl refl
one_of false c e = inr e

or-true : (b c : Bool) → (b ≡ true) ⊎ (c ≡ true) → (b || c) ≡ true
or-true b c (inl e) = rw e
or-true true c (inr e) = refl
or-true false c (inr e) = e

module _ (R : ℕ) (a : Levels) (xs ys : List ℤ) (i : ℕ) (l : i < length xs) (m : i < length ys) where
  sample : (k : ℕ) → k ≤ i → sample_at (moments xs ys) k ≡ moment (at xs k) (at ys k)
  sample k h = moments_at xs ys k (omega arith) (omega arith)

  crosses : crosses_at R a (moments xs ys) i ≡ true → Crossing R a xs ys i
  crosses e =
      let t = and-true (ltb R i) (not (channels.above a (sample_at (moments xs ys) (i - 1))) && channels.above a (sample_at (moments xs ys) i)) e in
      let u = and-true (not (channels.above a (sample_at (moments xs ys) (i - 1)))) (channels.above a (sample_at (moments xs ys) i)) t.1 in
      let n = neither (above a.roll (at xs (i - 1))) (above a.acceleration (at ys (i - 1))) (rw (sample (i - 1) (omega arith)) at u.0) in
      record {
        timed = ltb-true R i t.0;
        roll_before = n.0;
        acceleration_before = n.1;
        one = one_of (above a.roll (at xs i)) (above a.acceleration (at ys i)) (rw (sample i (omega arith)) at u.1);
      }

  crossing : Crossing R a xs ys i → crosses_at R a (moments xs ys) i ≡ true
  crossing c =
      rw (lt-ltb R i c.timed, sample (i - 1) (omega arith), sample i (omega arith), c.roll_before, c.acceleration_before)
      (or-true (above a.roll (at xs i)) (above a.acceleration (at ys i)) c.one)

quiet : (a : Levels) (xs : List ℤ) (k : ℕ) → channels.above a (sample_at (moments xs (zeros xs)) k) ≡ above a.roll (at xs k)
unfolding moments
quiet a [] k = rw (le-ltb a.acceleration 0 (omega arith)) (or-false (above a.roll (pos 0)))
quiet a (x ∷ xs) zero = rw (le-ltb a.acceleration 0 (omega arith)) (or-false (above a.roll x))
quiet a (x ∷ xs) (suc k) = quiet a xs k

quiet_roll : (a : Levels) (ys : List ℤ) (k : ℕ)
    → channels.above a (sample_at (moments (zeros ys) ys) k) ≡ above a.acceleration (at ys k)
unfolding moments
quiet_roll a [] k = rw (le-ltb a.roll 0 (omega arith))
quiet_roll a (y ∷ ys) zero = rw (le-ltb a.roll 0 (omega arith))
quiet_roll a (y ∷ ys) (suc k) = quiet_roll a ys k

levels : (items : Items) → item_outside items ≡ 0
    → (level_in_range items.levels.roll ≡ true) × (level_in_range items.levels.acceleration ≡ true)
unfolding item_outside
levels items = go (step_in_range items.step) (ramp_in_range items.ramp) (level_in_range items.levels.roll)
    (decorrelation_in_range items.decorrelation) (level_in_range items.levels.acceleration)
  where
    go : (b c d e f : Bool) → ◌≡◌ {A = ℕ} (cond (not b) 1 (cond (not c) 2 (cond (not d) 3 (cond (not e) 4 (cond (not f) 6 0))))) 0 → (d ≡ true) × (f ≡ true)
    go false c d e f z = absurd (omega (arith, z))
    go true false d e f z = absurd (omega (arith, z))
    go true true false e f z = absurd (omega (arith, z))
    go true true true false f z = absurd (omega (arith, z))
    go true true true true false z = absurd (omega (arith, z))
    go true true true true true z = (refl, refl)

both : (r : Record) → sound r ≡ true → Both r
both r s =
    let k = kept_from r s in
    let l = levels r.items k.outside in
    let g = and-true (sample_in_range r.last.roll) (sample_in_range r.last.acceleration) k.range in
    record {
      roll_level = l.0;
      acceleration_level = l.1;
      roll = g.0;
      acceleration = g.1;
      fresh = λ z.
          let f = and-true (eqb (nat_abs r.last.roll) 0) (eqb (nat_abs r.last.acceleration) 0) (k.fresh z) in
          (eqb-true _ 0 f.0, eqb-true _ 0 f.1);
    }

lower : (p q : ℕ) → value_of (bad_sample p q) ≡ min p q
lower p q = go (leb p q) refl
  where
    go : (b : Bool) → leb p q ≡ b → value_of (cond b (Sample p) (Acceleration q)) ≡ min p q
    go true e = omega (arith, leb-true p q e)
    go false e = omega (arith, leb-false p q e)

even : (r t : Record) (ps : List Piece) → AllTaken r ps t → Even ps
even r t [] end = none
even r t (p ∷ ps) (piece {s = s} e f) = more (taken r p.roll p.acceleration s e).equal (even s t ps f)

pub request_8 : Request8
request_8 =
    record {
      crosses = crosses;
      crossing = crossing;
      alone = λ R a xs i. rw (quiet a xs (i - 1), quiet a xs i);
      alone_acceleration = λ R a ys i. rw (quiet_roll a ys (i - 1), quiet_roll a ys i);
      both = both;
      lower = lower;
      roll_first = λ p q h. rw (le-leb p q h);
      then_acceleration = λ p q h. rw (lt-leb p q h);
      even = even;
    }
