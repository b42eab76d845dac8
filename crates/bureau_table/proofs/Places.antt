-- Laws of a list of places: what a store does to the relations and to the count of jobs, and what the lowest free place
-- is. Each by induction along the list. Assumes nothing.
use mathlib.Core.Path.{◌≡◌, refl, sym}
use mathlib.Core.Bool.{Bool, cond, false, true, ◌&&◌, ◌||◌}
use mathlib.Core.List.{List, [], ◌∷◌, ◌++◌}
use Prim.Native.Nat.{ℕ, zero, suc, ◌+◌, ◌≤◌, ◌<◌}
use native.Mathlib.Omega.{arith}
use lib.Dec.{eqb}
use lib.ListN.{length, set}
use borrow.Author.Tests.{eq-eqb, eqb-false, eqb-true, ne_eqb}
use Rattle.truth.proofs.Cases.{by_test}
use Rattle.truth.proofs.Laws.{and-true, both_true, true≢false}
use Rattle.bureau_table.specs.declared.Place.{Place}
use Rattle.bureau_table.specs.Table.{all_kept, at, jobs, lowest_free, one, place_kept}

-- ---- a place of bureau b counts 1, another 0
pub one_own : (b : ℕ) (p : Place) → p.owner ≡ b → one b p ≡ 1
one_own b p e = rw (eq-eqb p.owner b e)

pub one_other : (b : ℕ) (p : Place) → ¬ (p.owner ≡ b) → one b p ≡ 0
one_other b p n = rw (ne_eqb p.owner b n)

-- ---- every place
pub all-at : (t : List Place) (i : ℕ) → all_kept t ≡ true → place_kept (at t i) ≡ true
unfolding all_kept
all-at [] i e = refl
all-at (p ∷ ps) zero e = (and-true (place_kept p) (all_kept ps) e).0
all-at (p ∷ ps) (suc i) e = all-at ps i (and-true (place_kept p) (all_kept ps) e).1

pub all_set : (t : List Place) (i : ℕ) (p : Place) → all_kept t ≡ true → place_kept p ≡ true → all_kept (set t i p) ≡ true
unfolding all_kept
all_set [] i p e k = refl
all_set (o ∷ ps) zero p e k = both_true k (and-true (place_kept o) (all_kept ps) e).1
all_set (o ∷ ps) (suc i) p e k = let a = and-true (place_kept o) (all_kept ps) e in both_true a.0 (all_set ps i p a.1 k)

-- ---- the count of a bureau's jobs
pub jobs_set : (b : ℕ) (t : List Place) (i : ℕ) (p : Place) → i < length t → jobs b (set t i p) + one b (at t i) ≡ jobs b t + one b p
unfolding jobs
jobs_set b [] i p l = absurd (omega arith)
jobs_set b (o ∷ ps) zero p l = omega arith
jobs_set b (o ∷ ps) (suc i) p l = omega (arith, jobs_set b ps i p (omega arith))

pub jobs_more : (b : ℕ) (t : List Place) (p : Place) → jobs b (t ++ (p ∷ [])) ≡ jobs b t + one b p
unfolding jobs
jobs_more b [] p = omega arith
jobs_more b (o ∷ ps) p = omega (arith, jobs_more b ps p)

-- a place is free, bureau 1's or bureau 2's
one_of_three : (n : ℕ) (z s : Bool) → cond (eqb n 0) z ((eqb n 1 || eqb n 2) && s) ≡ true → cond (eqb n 0) 1 0 + (cond (eqb n 1) 1 0 + cond (eqb n 2) 1 0) ≡ 1
one_of_three n z s e =
    by_test (eqb n 0) (λ h. rw (eqb-true n 0 h))
    (λ h. by_test (eqb n 1) (λ h₁. rw (eqb-true n 1 h₁))
    (λ h₁. by_test (eqb n 2) (λ h₂. rw (eqb-true n 2 h₂))
    (λ h₂. let f : false ≡ true = rw (h, h₁, h₂) at e in absurd (true≢false (sym f)))))

pub counts : (t : List Place) → all_kept t ≡ true → jobs 0 t + (jobs 1 t + jobs 2 t) ≡ length t
unfolding all_kept jobs
counts [] e = refl
counts (p ∷ ps) e =
    let a = and-true (place_kept p) (all_kept ps) e in
    omega (arith, counts ps a.1, one_of_three p.owner _ _ a.0)

-- ---- the lowest free place
pub lowest_is : (t : List Place) → 1 ≤ jobs 0 t → lowest_free t < length t
unfolding jobs lowest_free
lowest_is [] l = absurd (omega arith)
lowest_is (p ∷ ps) l =
    by_test (eqb p.owner 0) (λ h. rw h (omega arith))
    (λ h. let m : 1 ≤ 0 + jobs 0 ps = rw h at l in rw h (omega (arith, lowest_is ps (omega arith))))

pub lowest_free_lem : (t : List Place) → (at t (lowest_free t)).owner ≡ 0
unfolding lowest_free
lowest_free_lem [] = refl
lowest_free_lem (p ∷ ps) = by_test (eqb p.owner 0) (λ h. rw h (eqb-true _ _ h)) (λ h. rw h (lowest_free_lem ps))

pub none_lower : (t : List Place) (j : ℕ) → j < lowest_free t → ¬ ((at t j).owner ≡ 0)
unfolding lowest_free
none_lower [] j l = absurd (omega arith)
none_lower (p ∷ ps) zero l = by_test (eqb p.owner 0) (λ h. let m : 0 < 0 = rw h at l in absurd (omega arith)) (λ h. eqb-false _ _ h)
none_lower (p ∷ ps) (suc j) l =
    by_test (eqb p.owner 0) (λ h. let m : suc j < 0 = rw h at l in absurd (omega arith))
    (λ h. let m : suc j < suc (lowest_free ps) = rw h at l in none_lower ps j (omega arith))
