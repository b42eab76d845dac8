-- Any table that keeps its relations has a book of a bureau's jobs: their places, lowest first (`own_booked`). By
-- induction along the table; what stands at the entries is shown for any way r of reading places, from place i on.
-- Assumes nothing.
use mathlib.Core.Path.{◌≡◌, refl, sym, ap, ◌∙◌}
use mathlib.Core.Bool.{true}
use mathlib.Core.List.{List, [], ◌∷◌}
use Prim.Native.Nat.{ℕ, zero, suc, ◌+◌, ◌≤◌, ◌<◌}
use native.Mathlib.Nat.{add-suc, add-zero, suc-add, zero-add}
use native.Mathlib.Omega.{arith}
use lib.Dec.{eqb}
use lib.ListN.{get_or-eq_default, get_or, length}
use borrow.Author.Tests.{eqb-true}
use Rattle.truth.proofs.Cases.{by_order, by_test}
use Rattle.bureau_table.specs.declared.Place.{Place}
use Rattle.bureau_table.specs.Table.{at, free, jobs, kept}
use Rattle.bureau_table.specs.History.{book_place, own_jobs, own_places}
use Rattle.bureau_table.proofs.Relations.{kept_from}
use Rattle.bureau_table.proofs.Books.{Booked}

module _ (b : ℕ) where
  same_length : (i : ℕ) (ps : List Place) → length (own_places b i ps) ≡ length (own_jobs b ps)
  unfolding own_places own_jobs
  same_length i [] = refl
  same_length i (p ∷ ps) = by_test (eqb p.owner b) (λ h. rw h (ap suc (same_length (suc i) ps))) (λ h. rw h (same_length (suc i) ps))

  same_count : (ps : List Place) → jobs b ps ≡ jobs b (own_jobs b ps)
  unfolding jobs own_jobs
  same_count [] = refl
  same_count (p ∷ ps) = by_test (eqb p.owner b) (λ h. rw h (rw h (omega (arith, same_count ps)))) (λ h. rw h (omega (arith, same_count ps)))

  all_own : (ps : List Place) (k : ℕ) → k < length (own_jobs b ps) → (at (own_jobs b ps) k).owner ≡ b
  unfolding own_jobs
  all_own [] k l = absurd (omega arith)
  all_own (p ∷ ps) zero l = by_test (eqb p.owner b) (λ h. rw h (eqb-true _ _ h)) (λ h. rw h (all_own ps zero (rw h at l)))
  all_own (p ∷ ps) (suc k) l =
      by_test (eqb p.owner b) (λ h. let m : suc k < suc (length (own_jobs b ps)) = rw h at l in rw h (all_own ps k (omega arith))) (λ h. rw h (all_own ps (suc k) (rw h at l)))

  -- what r reads from place i on, read from place i + 1 on
  next : (r : ℕ → Place) (i : ℕ) (p : Place) (ps : List Place) → ((j : ℕ) → r (i + j) ≡ at (p ∷ ps) j) → (j : ℕ) → r (suc i + j) ≡ at ps j
  next r i p ps f j = ap r (suc-add i j ∙ sym (add-suc i j)) ∙ f (suc j)

  stands : (r : ℕ → Place) (n i : ℕ) (ps : List Place) (k : ℕ) → ((j : ℕ) → r (i + j) ≡ at ps j) → r (get_or (own_places b i ps) k n) ≡ get_or (own_jobs b ps) k (r n)
  unfolding own_places own_jobs
  stands r n i [] k f = refl
  stands r n i (p ∷ ps) zero f =
      by_test (eqb p.owner b) (λ h. rw h (ap r (sym (add-zero i)) ∙ f 0)) (λ h. rw h (stands r n (suc i) ps zero (next r i p ps f)))
  stands r n i (p ∷ ps) (suc k) f =
      by_test (eqb p.owner b) (λ h. rw h (stands r n (suc i) ps k (next r i p ps f))) (λ h. rw h (stands r n (suc i) ps (suc k) (next r i p ps f)))

  low : (i : ℕ) (ps : List Place) (k : ℕ) → i + length ps ≤ 32 → i ≤ book_place (own_places b i ps) k
  unfolding own_places
  low i [] k l = omega arith
  low i (p ∷ ps) zero l =
      by_test (eqb p.owner b) (λ h. rw h (omega arith)) (λ h. rw h (omega (arith, low (suc i) ps zero (omega arith))))
  low i (p ∷ ps) (suc k) l =
      by_test (eqb p.owner b) (λ h. rw h (omega (arith, low (suc i) ps k (omega arith)))) (λ h. rw h (omega (arith, low (suc i) ps (suc k) (omega arith))))

  apart : (i : ℕ) (ps : List Place) (j k : ℕ) → i + length ps ≤ 32 → book_place (own_places b i ps) j < 32 → book_place (own_places b i ps) j ≡ book_place (own_places b i ps) k → j ≡ k
  unfolding own_places
  apart i [] j k l m e = absurd (let z : 32 < 32 = m in omega arith)
  apart i (p ∷ ps) zero zero l m e = refl
  apart i (p ∷ ps) zero (suc k) l m e =
      by_test (eqb p.owner b)
      (λ h. let z : i ≡ book_place (own_places b (suc i) ps) k = rw h at e in absurd (omega (arith, low (suc i) ps k (omega arith))))
      (λ h. apart (suc i) ps zero (suc k) (omega arith) (rw h at m) (rw h at e))
  apart i (p ∷ ps) (suc j) zero l m e =
      by_test (eqb p.owner b)
      (λ h. let z : book_place (own_places b (suc i) ps) j ≡ i = rw h at e in absurd (omega (arith, low (suc i) ps j (omega arith))))
      (λ h. apart (suc i) ps (suc j) zero (omega arith) (rw h at m) (rw h at e))
  apart i (p ∷ ps) (suc j) (suc k) l m e =
      by_test (eqb p.owner b)
      (λ h. ap suc (apart (suc i) ps j k (omega arith) (rw h at m) (rw h at e)))
      (λ h. apart (suc i) ps (suc j) (suc k) (omega arith) (rw h at m) (rw h at e))

  pub own_booked : (t : List Place) → kept t ≡ true → Booked b t (own_places b 0 t) (own_jobs b t)
  own_booked t k =
      let n = (kept_from t k).long in
      let none : at t 32 ≡ free = get_or-eq_default t free {n = 32} (omega arith) in
      record {
        kept = k;
        long = same_length 0 t;
        shows = λ j. stands (at t) 32 0 t j (λ m. ap (at t) (zero-add m)) ∙ ap (get_or (own_jobs b t) j) none;
        mine =
            λ j m. all_own t j
            (by_order j (length (own_jobs b t)) (λ h. h)
            (λ h. let z : book_place (own_places b 0 t) j ≡ 32 = get_or-eq_default (own_places b 0 t) 32 (rw (same_length 0 t) h) in absurd (omega arith)));
        apart = λ i j. apart 0 t i j (omega arith);
        count = same_count t;
      }
