-- What was seen of a whole table are the figures of its relations: the test of every place, how many places each bureau
-- has, and the lowest free one. Each by induction along the table, for any start. Assumes nothing.
use mathlib.Core.Path.{◌≡◌, refl, sym, ap, ◌∙◌}
use mathlib.Core.Bool.{Bool, and_assoc, cond, false, true, ◌&&◌}
use mathlib.Core.List.{List, [], ◌∷◌}
use Prim.Native.Nat.{ℕ, suc, ◌+◌, ◌≤◌, ◌<◌}
use native.Mathlib.Nat.{add-suc, add-zero, suc-add, zero-add}
use native.Mathlib.Omega.{arith}
use lib.Dec.{eqb, leb}
use lib.ListN.{length}
use borrow.Author.Tests.{le-ltb, lt-leb, lt-ltb}
use Rattle.truth.proofs.Cases.{by_order, by_test}
use Rattle.bureau_table.specs.declared.Place.{Place}
use Rattle.bureau_table.specs.Table.{all_kept, is_bureau, jobs, kept, lowest_free, one, place_kept}
use Rattle.bureau_table.proofs.Relations.{bureau_is, kept_from}
use Rattle.bureau_survey.specs.declared.Seen.{Seen}
use Rattle.bureau_survey.specs.Survey.{counted, looked, surveyed, unseen}

capped : ℕ → ℕ → List Place → ℕ
capped b c [] = c
capped b c (p ∷ ps) = capped b (counted c b p) ps

and-true : (a : Bool) → (a && true) ≡ a
and-true true = refl
and-true false = refl

looked_whole : (s : Seen) (i : ℕ) (ps : List Place) → (looked s i ps).whole ≡ (s.whole && all_kept ps)
unfolding looked all_kept
looked_whole s i [] = sym (and-true s.whole)
looked_whole s i (p ∷ ps) = looked_whole (surveyed s i p) (suc i) ps ∙ and_assoc s.whole (place_kept p) (all_kept ps)

looked_first : (s : Seen) (i : ℕ) (ps : List Place) → (looked s i ps).first ≡ capped 1 s.first ps
unfolding looked capped
looked_first s i [] = refl
looked_first s i (p ∷ ps) = looked_first (surveyed s i p) (suc i) ps

looked_second : (s : Seen) (i : ℕ) (ps : List Place) → (looked s i ps).second ≡ capped 2 s.second ps
unfolding looked capped
looked_second s i [] = refl
looked_second s i (p ∷ ps) = looked_second (surveyed s i p) (suc i) ps

looked_found : (s : Seen) (i : ℕ) (ps : List Place) → s.found ≡ true → (looked s i ps).lowest ≡ s.lowest
unfolding looked
looked_found s i [] e = refl
looked_found s i (p ∷ ps) e = looked_found (surveyed s i p) (suc i) ps (rw e) ∙ by_test (eqb p.owner 0) (λ h. rw (e, h)) (λ h. rw h)

looked_lowest : (s : Seen) (i : ℕ) (ps : List Place) → s.found ≡ false → lowest_free ps < length ps → (looked s i ps).lowest ≡ i + lowest_free ps
unfolding looked lowest_free
looked_lowest s i [] e l = absurd (omega arith)
looked_lowest s i (p ∷ ps) e l =
    by_test (eqb p.owner 0)
    (λ h. looked_found (surveyed s i p) (suc i) ps (rw (e, h)) ∙ rw (e, h) (sym (add-zero i)))
    (λ h. let m : suc (lowest_free ps) < suc (length ps) = rw h at l in
    rw h (looked_lowest (surveyed s i p) (suc i) ps (rw (e, h)) (omega arith) ∙ (suc-add i (lowest_free ps) ∙ sym (add-suc i (lowest_free ps)))))

-- a count up to 17 tests, and up to 16 is, the number of jobs
record Counts (b c : ℕ) (ps : List Place) : Type 0 where
  test : leb (capped b c ps) 16 ≡ leb (c + jobs b ps) 16
  number : c + jobs b ps ≤ 16 → capped b c ps ≡ c + jobs b ps

counts : (b : ℕ) (ps : List Place) (c : ℕ) → Counts b c ps
unfolding capped jobs
counts b [] c = record { test = ap (λ (n : ℕ). leb n 16) (sym (add-zero c)); number = λ l. sym (add-zero c) }
counts b (p ∷ ps) c =
    by_order 16 c
    (λ h. let r = counts b ps c in
    let e : counted c b p ≡ c = by_test (eqb p.owner b) (λ o. rw (o, lt-ltb 16 c h)) (λ o. rw o) in
    record {
      test = ap (λ (n : ℕ). leb (capped b n ps) 16) e ∙ r.test ∙ lt-leb (c + jobs b ps) 16 (omega arith) ∙ sym (lt-leb (c + (one b p + jobs b ps)) 16 (omega arith));
      number = λ l. absurd (omega arith);
    })
    (λ h. by_test (eqb p.owner b)
    (λ o. let r = counts b ps (c + 1) in
    let e : counted c b p ≡ c + 1 = rw (o, le-ltb 16 c h) in
    let z : (c + 1) + jobs b ps ≡ c + (1 + jobs b ps) = omega arith in
    record {
      test = ap (λ (n : ℕ). leb (capped b n ps) 16) e ∙ r.test ∙ rw o (ap (λ (n : ℕ). leb n 16) z);
      number = λ l. let m : c + (1 + jobs b ps) ≤ 16 = rw o at l in ap (λ (n : ℕ). capped b n ps) e ∙ r.number (omega arith) ∙ rw o z;
    })
    (λ o. let r = counts b ps c in
    let e : counted c b p ≡ c = rw o in
    let z : c + jobs b ps ≡ c + (0 + jobs b ps) = omega arith in
    record {
      test = ap (λ (n : ℕ). leb (capped b n ps) 16) e ∙ r.test ∙ rw o (ap (λ (n : ℕ). leb n 16) z);
      number = λ l. let m : c + (0 + jobs b ps) ≤ 16 = rw o at l in ap (λ (n : ℕ). capped b n ps) e ∙ r.number (omega arith) ∙ rw o z;
    }))

module _ (t : List Place) where
  abbrev found : Seen
  found = looked unseen 0 t

  first : kept t ≡ true → found.first ≡ jobs 1 t
  first k = let f = kept_from t k in looked_first unseen 0 t ∙ (counts 1 t 0).number (rw zero-add f.first) ∙ zero-add (jobs 1 t)

  second : kept t ≡ true → found.second ≡ jobs 2 t
  second k = let f = kept_from t k in looked_second unseen 0 t ∙ (counts 2 t 0).number (rw zero-add f.second) ∙ zero-add (jobs 2 t)

  -- the relations' test of n places, over what was seen
  pub tested : (eqb (length t) 32 && ((looked unseen 0 t).whole && (leb (looked unseen 0 t).first 16 && leb (looked unseen 0 t).second 16))) ≡ kept t
  unfolding kept
  tested = rw (looked_whole unseen 0 t, looked_first unseen 0 t, looked_second unseen 0 t, (counts 1 t 0).test, (counts 2 t 0).test, zero-add (jobs 1 t), zero-add (jobs 2 t))

  pub count : (b : ℕ) → kept t ≡ true → is_bureau b ≡ true → cond (eqb b 1) found.first found.second ≡ jobs b t
  count b k e = bureau_is b e (λ h. rw h (first k)) (λ h. rw h (second k))

  pub low : lowest_free t < length t → found.lowest ≡ lowest_free t
  low l = looked_lowest unseen 0 t refl l ∙ zero-add (lowest_free t)
