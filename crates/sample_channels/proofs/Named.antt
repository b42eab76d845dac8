-- The sample that a look names is there and is out of range, in slices of any two lengths: no bad sample of either
-- channel stands before it, and an acceleration is named only where no bad roll stands at its place either. `first_bad`
-- is past the end of a channel without a bad sample, and such a place is never named. Assumes nothing.
use Prim.Native.Nat.{ℕ, zero, suc, ◌≤◌, ◌<◌}
use mathlib.Core.Path.{◌≡◌, refl, sym, ◌∙◌}
use mathlib.Core.Bool.{Bool, true, false, cond, not, ◌||◌}
use mathlib.Core.List.{List, [], ◌∷◌}
use native.Mathlib.Omega.{arith}
use lib.Dec.{leb}
use lib.IntN.{ℤ, pos}
use lib.ListN.{length, get_or}
use borrow.Author.Tests.{ltb-true, ltb-false, leb-true, leb-false}
use Rattle.refusal.specs.declared.Refusal.{Refusal}
use Rattle.refusal.specs.declared.Refusal.TheVariants.{Sample, Acceleration}
use Rattle.truth.proofs.Laws.{true≢false}
use Rattle.sample_range.specs.Range.{sample_in_range, first_bad}
use Rattle.sample_channels.specs.Channels.{has_bad, bad_sample, looked}
use Rattle.sample_channels.proofs.Range.{looked_bad}
use Rattle.std.specs.Prelude.{Err}

-- a sample stands at i, and it is out of range
pub record BadAt (xs : List ℤ) (i : ℕ) : Type 0 where
  pub there : i < length xs
  pub out : sample_in_range (get_or xs i (pos 0)) ≡ false

-- document 02, [8]: refusal 2 names the bad sample at the lower place and its channel, roll first on a tie
pub data Names (xs ys : List ℤ) : Refusal → Type 0 where
  roll :
      {i : ℕ} → BadAt xs i → ((k : ℕ) → k < i → BadAt xs k → ⊥) → ((k : ℕ) → k < i → BadAt ys k → ⊥)
      → Names xs ys (Sample i)
  acceleration :
      {i : ℕ} → BadAt ys i → ((k : ℕ) → k ≤ i → BadAt xs k → ⊥) → ((k : ℕ) → k < i → BadAt ys k → ⊥)
      → Names xs ys (Acceleration i)

-- ---- the proof
out : (xs : List ℤ) → first_bad xs < length xs → sample_in_range (get_or xs (first_bad xs) (pos 0)) ≡ false
unfolding first_bad
out [] l = absurd (omega arith)
out (x ∷ xs) l = go (sample_in_range x) refl (out xs) l
  where
    go :
        (b : Bool)
        → sample_in_range x ≡ b
        → (first_bad xs < length xs → sample_in_range (get_or xs (first_bad xs) (pos 0)) ≡ false)
        → cond b (suc (first_bad xs)) 0 < suc (length xs)
        → sample_in_range (get_or (x ∷ xs) (cond b (suc (first_bad xs)) 0) (pos 0)) ≡ false
    go true e i l = i (omega arith)
    go false e i l = e

in_range : (xs : List ℤ) (k : ℕ) → k < first_bad xs → sample_in_range (get_or xs k (pos 0)) ≡ true
unfolding first_bad
in_range [] k l = absurd (omega arith)
in_range (x ∷ xs) zero l = go (sample_in_range x) refl l
  where
    go : (b : Bool) → sample_in_range x ≡ b → 0 < cond b (suc (first_bad xs)) 0 → sample_in_range x ≡ true
    go true e l = e
    go false e l = absurd (omega arith)
in_range (x ∷ xs) (suc k) l = in_range xs k (go (sample_in_range x) l)
  where
    go : (b : Bool) → suc k < cond b (suc (first_bad xs)) 0 → k < first_bad xs
    go true l = omega arith
    go false l = absurd (omega arith)

-- the first bad sample is one, and none stands before it
first-is : (xs : List ℤ) → has_bad xs ≡ true → BadAt xs (first_bad xs)
first-is xs e = let l = ltb-true (first_bad xs) (length xs) e in record { there = l; out = out xs l }

none_before : (xs : List ℤ) (i : ℕ) → i ≤ first_bad xs → (k : ℕ) → k < i → BadAt xs k → ⊥
none_before xs i h k l b = true≢false (sym (in_range xs k (omega arith)) ∙ b.out)

before_first : (xs : List ℤ) (k : ℕ) → k < first_bad xs → BadAt xs k → ⊥
before_first xs = none_before xs (first_bad xs) (omega arith)

-- none at all, where the first is past the end
none_there : (xs : List ℤ) → has_bad xs ≡ false → (k : ℕ) → BadAt xs k → ⊥
none_there xs e k b = none_before xs (length xs) (ltb-false (first_bad xs) (length xs) e) k b.there b

module _ (xs ys : List ℤ) where
  lower : has_bad xs ≡ true → has_bad ys ≡ true → Names xs ys (bad_sample (first_bad xs) (first_bad ys))
  lower e f = go (leb (first_bad xs) (first_bad ys)) refl
    where
      go :
          (b : Bool)
          → leb (first_bad xs) (first_bad ys) ≡ b
          → Names xs ys (cond b (Sample (first_bad xs)) (Acceleration (first_bad ys)))
      go true h =
          let l = leb-true (first_bad xs) (first_bad ys) h in
          roll (first-is xs e) (before_first xs) (none_before ys (first_bad xs) l)
      go false h =
          let l = leb-false (first_bad xs) (first_bad ys) h in
          acceleration (first-is ys f) (λ k m. before_first xs k (omega arith)) (before_first ys)

  pub named : (f : Refusal) → looked xs ys ≡ Err f → Names xs ys f
  named f e = let b = looked_bad xs ys f e in rw (sym b.1) (go (has_bad xs) refl (has_bad ys) refl b.0)
    where
      both : Refusal
      both = bad_sample (first_bad xs) (first_bad ys)

      go : (b : Bool) → has_bad xs ≡ b → (c : Bool) → has_bad ys ≡ c → (b || c) ≡ true
          → Names xs ys (cond (not c) (Sample (first_bad xs)) (cond (not b) (Acceleration (first_bad ys)) both))
      go true p true q h = lower p q
      go true p false q h = roll (first-is xs p) (before_first xs) (λ k l. none_there ys q k)
      go false p true q h = acceleration (first-is ys q) (λ k l. none_there xs p k) (before_first ys)
      go false p false q h = absurd (true≢false (sym h))

-- a roll of one sample, which is good, and a bad acceleration beyond it; and the other way round
pub past_the_roll : looked (pos 0 ∷ []) (pos 0 ∷ pos 0 ∷ pos 2000000 ∷ []) ≡ Err (Acceleration 2)
unfolding looked first_bad
past_the_roll = refl

pub past_the_acceleration : looked (pos 0 ∷ pos 0 ∷ pos 2000000 ∷ []) (pos 0 ∷ []) ≡ Err (Sample 2)
unfolding looked first_bad
past_the_acceleration = refl
