-- Every call keeps the table's relations; a refusal, a verdict and rates leave the table as it was; and no call changes
-- a place of another bureau.  By the five cases of a call. A job is placed only where the bureau has fewer than 16, so
-- the count stays in bounds; and there is a free place for it, since the others have at most 16 and 15 + 16 is less
-- than 32. Assumes nothing.
use mathlib.Core.Path.{◌≡◌, refl, sym, ap, ◌∙◌}
use mathlib.Core.Bool.{true}
use mathlib.Core.List.{List}
use Prim.Native.Nat.{ℕ, ◌+◌, ◌≤◌, ◌<◌}
use native.Mathlib.Omega.{arith}
use lib.Dec.{eqb}
use lib.ListN.{length}
use lib.Seq.{get_or-set_other}
use borrow.Author.Tests.{eqb-true}
use Rattle.refusal.specs.declared.Refusal.{Refusal}
use Rattle.truth.proofs.Cases.{by_test}
use Rattle.truth.proofs.Laws.{impossible, is_true}
use Rattle.campaign_state.specs.declared.Campaign.{Campaign}
use Rattle.campaign_state.specs.Answers.{opened}
use Rattle.campaign_state.specs.State.{empty, sound, standard_in_range}
use Rattle.campaign_state.proofs.Keeping.{entering_sound, opened_sound}
use Rattle.bureau_table.specs.declared.Ask.{Ask}
use Rattle.bureau_table.specs.declared.Ask.TheVariants.{On}
use Rattle.bureau_table.specs.declared.Place.{Place}
use Rattle.bureau_table.specs.declared.Work.TheVariants.{Judge, Rate}
use Rattle.bureau_table.specs.Table.{all_kept, at, bare, free, is_bureau, jobs, kept, lowest_free, one, owned}
use Rattle.bureau_table.specs.Calls.{Done, called}
use Rattle.bureau_table.proofs.Places.{counts, lowest_free_lem, lowest_is}
use Rattle.bureau_table.proofs.Relations.{Kept, bureau_is, kept_from, kept_to, not_none, owned_kept, set_kept}
use Rattle.bureau_table.proofs.Cases.{Made, called_made, enters, frees, places, reads, refuses}
use Rattle.std.specs.Prelude.{Ok, Err}

-- ---- a bureau under 16 jobs finds a free place
pub place_found : (t : List Place) (b : ℕ) → Kept t → is_bureau b ≡ true → jobs b t < 16 → lowest_free t < length t
place_found t b k e u =
    bureau_is b e
    (λ h. let u₁ : jobs 1 t < 16 = rw h at u in lowest_is t (omega (arith, counts t k.all)))
    (λ h. let u₂ : jobs 2 t < 16 = rw h at u in lowest_is t (omega (arith, counts t k.all)))

pub opened_is : (q : ℕ) → standard_in_range q ≡ true → opened q ≡ Ok (empty q)
opened_is q s = rw s

pub empty_sound : (q : ℕ) → standard_in_range q ≡ true → sound (empty q) ≡ true
empty_sound q s = is_true _ (opened_sound q (empty q) (opened_is q s))

module _ (t : List Place) (b : ℕ) where
  -- one more job of bureau b, in the count of bureau n
  one_more : (n : ℕ) (c : Campaign) → jobs b t < 16 → jobs n t ≤ 16 → jobs n t + one n (owned b c) ≤ 16
  one_more n c u k =
      by_test (eqb b n) (λ h. let e = eqb-true b n h in let v : jobs n t < 16 = rw e at u in rw h (omega arith)) (λ h. rw h (omega arith))

  -- a place that changes hands in no count
  same_count : (n i : ℕ) (d : Campaign) → (at t i).owner ≡ b → one n (owned b d) ≡ one n (at t i)
  same_count n i d o = rw o

  keeps : {a : Ask} {d : Done} → kept t ≡ true → Made t b a d → kept d.table ≡ true
  keeps k (refuses a r) = k
  keeps k (places q m) =
      let f = kept_from t k in
      kept_to _
      (set_kept t (lowest_free t) (owned b (empty q)) f (place_found t b f m.bureau m.under) (owned_kept b (empty q) m.bureau (empty_sound q m.standard))
      (omega (arith, one_more 1 (empty q) m.under f.first))
      (omega (arith, one_more 2 (empty q) m.under f.second)))
  keeps k (reads i w x r o) = k
  keeps k (enters i f d o e) =
      let g = kept_from t k in
      kept_to _
      (set_kept t i (owned b d) g o.inside (owned_kept b d o.bureau (is_true _ (entering_sound (at t i).campaign f d e)))
      (omega (arith, same_count 1 i d o.owner, g.first))
      (omega (arith, same_count 2 i d o.owner, g.second)))
  keeps k (frees i o) =
      let g = kept_from t k in
      kept_to _ (set_kept t i free g o.inside refl (omega (arith, g.first)) (omega (arith, g.second)))

leaves : {t : List Place} {b : ℕ} {a : Ask} {d : Done} (r : Refusal) → d.answer ≡ Err r → Made t b a d → d.table ≡ t
leaves r e (refuses a s) = refl
leaves r e (places q m) = impossible (cc)
leaves r e (reads i w x s o) = refl
leaves r e (enters i f d o s) = impossible (cc)
leaves r e (frees i o) = impossible (cc)

module _ {t : List Place} {b : ℕ} (j : ℕ) (n : ¬ ((at t j).owner ≡ b)) (n₀ : ¬ ((at t j).owner ≡ 0)) where
  others : {a : Ask} {d : Done} → Made t b a d → at d.table j ≡ at t j
  others (refuses a r) = refl
  others (places q m) = get_or-set_other t (lowest_free t) j _ free (λ e. n₀ (ap (λ (i : ℕ). (at t i).owner) e ∙ lowest_free_lem t))
  others (reads i w x s o) = refl
  others (enters i f d o s) = get_or-set_other t i j _ free (λ e. n (ap (λ (i : ℕ). (at t i).owner) e ∙ o.owner))
  others (frees i o) = get_or-set_other t i j _ free (λ e. n (ap (λ (i : ℕ). (at t i).owner) e ∙ o.owner))

-- ---- the theorems
pub bare_kept : kept bare ≡ true
unfolding kept all_kept jobs
bare_kept = refl

pub calls_keep : (t : List Place) (b : ℕ) (a : Ask) → kept t ≡ true → kept (called t b a).table ≡ true
calls_keep t b a k = keeps t b k (called_made t b a)

pub refusal_leaves : (t : List Place) (b : ℕ) (a : Ask) (r : Refusal) → (called t b a).answer ≡ Err r → (called t b a).table ≡ t
refusal_leaves t b a r e = leaves r e (called_made t b a)

reading_leaves : {t : List Place} {b i : ℕ} {d : Done} → Made t b (On i Judge) d → d.table ≡ t
reading_leaves (refuses a s) = refl
reading_leaves (reads i w x s o) = refl

rating_leaves : {t : List Place} {b i : ℕ} {d : Done} → Made t b (On i Rate) d → d.table ≡ t
rating_leaves (refuses a s) = refl
rating_leaves (reads i w x s o) = refl

pub verdict_leaves : (t : List Place) (b i : ℕ) → (called t b (On i Judge)).table ≡ t
verdict_leaves t b i = reading_leaves (called_made t b (On i Judge))

pub rates_leave : (t : List Place) (b i : ℕ) → (called t b (On i Rate)).table ≡ t
rates_leave t b i = rating_leaves (called_made t b (On i Rate))

-- a place of bureau c, whatever another bureau asks
pub others_kept : (t : List Place) (b c : ℕ) (a : Ask) (j : ℕ) → is_bureau c ≡ true → (at t j).owner ≡ c → ¬ (c ≡ b) → at (called t b a).table j ≡ at t j
others_kept t b c a j e o n = others {t = t} {b = b} j (λ z. n (sym o ∙ z)) (λ z. not_none c e (sym o ∙ z)) (called_made t b a)
