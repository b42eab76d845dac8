-- The first number that passes a test, and the first crossing. Assumes nothing.
use Prim.Native.Nat.{ℕ, zero, suc, ◌+◌, ◌-◌, ◌≤◌, ◌<◌}
use mathlib.Core.Path.{◌≡◌, refl, sym, ap, ◌∙◌}
use mathlib.Core.Bool.{Bool, true, false, cond, not}
use mathlib.Core.List.{List, [], ◌∷◌}
use native.Mathlib.Omega.{arith}
use lib.ListN.{length}
use lib.Dec.{ltb, eqb}
use borrow.Author.Tests.{ltb-true, ltb-false, le-ltb, eqb-true, not-false}
use Rattle.sample_channels.specs.declared.Levels.{Levels}
use Rattle.sample_channels.specs.declared.Moment.{Moment}
use Rattle.crossing_places.specs.Reading.{sample_at, rises, crosses_at, passing, crossings, first_of}
use Rattle.truth.proofs.Laws.{and-true, impossible, true≢false}

-- no crossing stands in the ramp, nor at its first timed sample
pub ramp_none : (R : ℕ) (a : Levels) (xs : List Moment) (k : ℕ) → k ≤ R → crosses_at R a xs k ≡ false
ramp_none R a xs k h = rw (le-ltb R k h)

after : (k i : ℕ) → k ≤ i → (k ≡ i → ⊥) → k + 1 ≤ i
after k i l h = go (ltb k i) refl
  where
    go : (b : Bool) → ltb k i ≡ b → k + 1 ≤ i
    go true t = omega (arith, ltb-true k i t)
    go false t = absurd (h (omega (arith, ltb-false k i t)))

module _ (f : ℕ → Bool) where
  none_from : (d k n : ℕ) → ((j : ℕ) → j < k + n → f j ≡ false) → first_of d (passing f k n) ≡ d
  unfolding first_of passing
  none_from d k zero h = refl
  none_from d k (suc n) h = rw (h k (omega arith)) (none_from d (k + 1) n (λ j l. h j (omega arith)))

  -- no number below n passes: the first is the default
  pub first-none : (d n : ℕ) → ((k : ℕ) → k < n → f k ≡ false) → first_of d (passing f 0 n) ≡ d
  first-none d n h = none_from d 0 n (λ j l. h j (omega arith))

  reached : (k i : ℕ) → k ≤ i → ((j : ℕ) → j < i → f j ≡ false) → f k ≡ true → k ≡ i
  reached k i l h e = go (ltb k i) refl
    where
      go : (b : Bool) → ltb k i ≡ b → k ≡ i
      go true t = absurd (true≢false (sym e ∙ h k (ltb-true k i t)))
      go false t = omega (arith, ltb-false k i t)

  at_from : (d k n i : ℕ) → k ≤ i → i < k + n → ((j : ℕ) → j < i → f j ≡ false) → f i ≡ true → first_of d (passing f k n) ≡ i
  unfolding first_of passing
  at_from d k zero i l m h t = absurd (omega arith)
  at_from d k (suc n) i l m h t = go (f k) refl (λ z. at_from d (k + 1) n i z (omega arith) h t)
    where
      go : (b : Bool) → f k ≡ b → (k + 1 ≤ i → first_of d (passing f (k + 1) n) ≡ i) → first_of d (cond b (k ∷ passing f (k + 1) n) (passing f (k + 1) n)) ≡ i
      go true e r = reached k i l h e
      go false e r = r (after k i l (λ z. true≢false (sym t ∙ ap f (sym z) ∙ e)))

  -- i passes and none before it: the first is i
  pub first-at : (d i n : ℕ) → i < n → ((k : ℕ) → k < i → f k ≡ false) → f i ≡ true → first_of d (passing f 0 n) ≡ i
  first-at d i n l = at_from d 0 n i (omega arith) (omega arith)

  -- the first of the numbers from k on that pass is one that passes
  pub head_passes : (k n c : ℕ) (cs : List ℕ) → passing f k n ≡ c ∷ cs → (f c ≡ true) × (c < k + n)
  unfolding passing
  head_passes k zero c cs e = impossible (cc)
  head_passes k (suc n) c cs e = go (f k) refl e (head_passes (k + 1) n c cs)
    where
      go : (b : Bool) → f k ≡ b → cond b (k ∷ passing f (k + 1) n) (passing f (k + 1) n) ≡ c ∷ cs → (passing f (k + 1) n ≡ c ∷ cs → (f c ≡ true) × (c < k + 1 + n)) → (f c ≡ true) × (c < k + suc n)
      go true t e i = let z : k ≡ c = cc in (ap f (sym z) ∙ t, omega arith)
      go false t e i = let j = i e in (j.0, omega (arith, j.1))

-- where there is a crossing, the default does not matter, and 0, which is no place of a crossing, says that there is
-- none
module _ (R : ℕ) (a : Levels) (xs : List Moment) where
  abbrev Searched : List ℕ → Type 0
  Searched cs = (not (eqb (first_of 0 cs) 0) ≡ true → (first_of (length xs) cs ≡ first_of 0 cs) × (first_of 0 cs < length xs)) × (not (eqb (first_of 0 cs) 0) ≡ false → first_of (length xs) cs ≡ length xs)

  pub searched : Searched (crossings R a xs)
  unfolding first_of
  searched = go (crossings R a xs) refl
    where
      go : (cs : List ℕ) → crossings R a xs ≡ cs → Searched cs
      go [] e = (λ z. absurd (true≢false (sym z)), λ z. refl)
      go (c ∷ cs) e =
          let h = head_passes (crosses_at R a xs) 0 (length xs) c cs e in
          let l : R < c = ltb-true R c (and-true (ltb R c) (rises a (sample_at xs (c - 1)) (sample_at xs c)) h.0).0 in
          (λ z. (refl, omega (arith, h.1)), λ z. absurd (omega (arith, eqb-true c 0 (not-false _ z))))
