-- Two channels without a bad sample are in range moment by moment; the parts of such a list are; the ends of two blocks
-- say whether one has a bad sample; and what a look says. Assumes nothing.
use mathlib.Core.Path.{◌≡◌, refl, sym}
use mathlib.Core.Bool.{Bool, true, false, cond, not, ◌||◌}
use mathlib.Core.List.{List, [], ◌∷◌, ◌++◌}
use native.Mathlib.Omega.{arith}
use lib.Dec.{ltb}
use lib.IntN.{ℤ}
use lib.ListN.{length}
use borrow.Author.Tests.{lt-ltb, le-ltb, ltb-true, ltb-false, le-leb, lt-leb}
use Rattle.refusal.specs.declared.Refusal.{Refusal}
use Rattle.refusal.specs.declared.Refusal.TheVariants.{Sample, Acceleration}
use Rattle.truth.proofs.Laws.{both_true, impossible, neither, true≢false}
use Rattle.sample_block.specs.declared.Ends.{Ends}
use Rattle.sample_block.specs.Block as one-channel
use Rattle.sample_range.specs.Range.{sample_limit, first_bad}
use Rattle.sample_range.proofs.Bad.{good_head, bad_within, quiet_good, loud_bad, ends_bad}
use Rattle.sample_channels.specs.declared.Moment.{Moment}
use Rattle.sample_channels.specs.Channels.{moments, AllInRange, outside_ends, has_bad, any_bad, bad_sample, bad_of, looked}
use Rattle.std.specs.Prelude.{Ok, Err}

pub all_in : (xs ys : List ℤ) → first_bad xs ≡ length xs → first_bad ys ≡ length ys → AllInRange (moments xs ys)
unfolding moments AllInRange
all_in [] ys e f = tt
all_in (x ∷ xs) [] e f = tt
all_in (x ∷ xs) (y ∷ ys) e f =
    let g = good_head x xs e in
    let h = good_head y ys f in
    (both_true g.0 h.0, all_in xs ys g.1 h.1)

pub all_left : (p q : List Moment) → AllInRange (p ++ q) → AllInRange p
unfolding AllInRange
all_left [] q h = tt
all_left (x ∷ p) q h = (h.0, all_left p q h.1)

pub all_right : (p q : List Moment) → AllInRange (p ++ q) → AllInRange q
unfolding AllInRange
all_right [] q h = h
all_right (x ∷ p) q h = all_right p q h.1

-- no sample is bad
pub none_bad : (xs ys : List ℤ) → any_bad xs ys ≡ false → (first_bad xs ≡ length xs) × (first_bad ys ≡ length ys)
none_bad xs ys e =
    let n = neither (ltb (first_bad xs) (length xs)) (ltb (first_bad ys) (length ys)) e in
    (omega (arith, bad_within xs, ltb-false (first_bad xs) (length xs) n.0), omega (arith, bad_within ys, ltb-false (first_bad ys) (length ys) n.1))

pub all_good : (xs ys : List ℤ) → first_bad xs ≡ length xs → first_bad ys ≡ length ys → any_bad xs ys ≡ false
all_good xs ys e f = rw (le-ltb (first_bad xs) (length xs) (omega arith), le-ltb (first_bad ys) (length ys) (omega arith))

over_bad : (xs : List ℤ) → one-channel.any_above sample_limit xs ≡ ltb (first_bad xs) (length xs)
over_bad xs = go (one-channel.any_above sample_limit xs) refl
  where
    go : (b : Bool) → one-channel.any_above sample_limit xs ≡ b → b ≡ ltb (first_bad xs) (length xs)
    go true e = sym (lt-ltb (first_bad xs) (length xs) (loud_bad xs e))
    go false e = sym (le-ltb (first_bad xs) (length xs) (omega (arith, quiet_good xs e)))

pub ends_tell : (xs ys : List ℤ) (e f : Ends) → (e.lowest ≡ one-channel.lowest xs)
    × (e.highest ≡ one-channel.highest xs) → (f.lowest ≡ one-channel.lowest ys)
    × (f.highest ≡ one-channel.highest ys)
    → (outside_ends e || outside_ends f) ≡ any_bad xs ys
ends_tell xs ys e f p q = rw (p.0, p.1, q.0, q.1, ends_bad xs, ends_bad ys, over_bad xs, over_bad ys)

-- back from what a look says
module _ (xs ys : List ℤ) where
  pub looked_bad : (f : Refusal) → looked xs ys ≡ Err f → (any_bad xs ys ≡ true) × (bad_of xs ys ≡ f)
  unfolding looked
  looked_bad f = go (any_bad xs ys)
    where
      go : (b : Bool) → cond b (Err (bad_of xs ys)) (Ok (tt {0})) ≡ Err f → (b ≡ true) × (bad_of xs ys ≡ f)
      go true e = (refl, cc)
      go false e = impossible (cc)

  pub looked_good : looked xs ys ≡ (Ok (tt {0})) → any_bad xs ys ≡ false
  unfolding looked
  looked_good = go (any_bad xs ys)
    where
      go : (b : Bool) → cond b (Err (bad_of xs ys)) (Ok (tt {0})) ≡ (Ok (tt {0})) → b ≡ false
      go true e = impossible (cc)
      go false e = refl

  -- the one at the lower of the two first bad places
  abbrev pub lowest : Refusal
  lowest = bad_sample (first_bad xs) (first_bad ys)

  -- slices of one length: where a channel has no bad sample, its first bad place is past those of the other
  pub equally_long : length xs ≡ length ys → any_bad xs ys ≡ true → bad_of xs ys ≡ lowest
  equally_long same = go (has_bad xs) refl (has_bad ys) refl
    where
      go : (b : Bool) → has_bad xs ≡ b → (c : Bool) → has_bad ys ≡ c → (b || c) ≡ true
          → cond (not c) (Sample (first_bad xs)) (cond (not b) (Acceleration (first_bad ys)) lowest) ≡ lowest
      go true e true f h = refl
      go true e false f h =
          let l = ltb-true (first_bad xs) (length xs) e in
          rw (le-leb (first_bad xs) (first_bad ys) (omega (arith, ltb-false (first_bad ys) (length ys) f)))
      go false e true f h =
          let l = ltb-true (first_bad ys) (length ys) f in
          rw (lt-leb (first_bad xs) (first_bad ys) (omega (arith, ltb-false (first_bad xs) (length xs) e)))
      go false e false f h = absurd (true≢false (sym h))
