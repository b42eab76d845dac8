-- The survey and the clerk's steps come to what a call is said to answer and leave (bench: Calls): the choice and the
-- work are the call's tests in their order, by what the survey has found. Assumes nothing.
use mathlib.Core.Path.{◌≡◌, refl, ap, ◌∙◌}
use mathlib.Core.Bool.{Bool, cond, false, true}
use mathlib.Core.List.{List}
use Prim.Native.Nat.{ℕ, ◌<◌}
use native.Mathlib.Nat.{le_refl}
use lib.Dec.{eqb, leb, ltb}
use lib.ListN.{length}
use lib.Seq.{set-get_or}
use borrow.Author.Tests.{le-ltb, leb-false, lt-ltb}
use Rattle.truth.proofs.Cases.{by_test}
use Rattle.refusal.specs.declared.Refusal.{Refusal}
use Rattle.refusal.specs.declared.Refusal.TheVariants.{BrokenState, BureauFull, NoBureau, NotItsOwn}
use Rattle.campaign_state.specs.Answers.{opened}
use Rattle.bureau_table.specs.declared.Ask.{Ask}
use Rattle.bureau_table.specs.declared.Ask.TheVariants.{On, Take}
use Rattle.bureau_table.specs.declared.Call.{Call}
use Rattle.bureau_table.specs.declared.Place.{Place}
use Rattle.bureau_table.specs.Table.{at, free, is_bureau, jobs, kept, lowest_free}
use Rattle.bureau_table.specs.Calls.{asked, called, placed, refused}
use Rattle.bureau_table.proofs.Relations.{kept_from}
use Rattle.bureau_table.proofs.Keeping.{place_found}
use Rattle.bureau_survey.specs.Survey.{looked, unseen}
use Rattle.bureau_survey.proofs.Found.{count, low, tested}
use Rattle.bureau_choice.specs.Steps.{acted, choosing, chosen, opening, refusing, served, worked_on}
use Rattle.campaign_state.specs.declared.Campaign.{Campaign}
use Rattle.std.specs.Prelude.{Result, Ok, Err}

-- ---- the choice and the work
pick_yes : {A : Type 0} (b : Bool) (x y : A) → b ≡ true → cond b x y ≡ x
pick_yes b x y e = rw e

pick_no : {A : Type 0} (b : Bool) (x y : A) → b ≡ false → cond b x y ≡ y
pick_no b x y e = rw e

module _ (t : List Place) (b : ℕ) where
  -- no place of the table: the table stays
  stops : (a : Ask) (r : Refusal) → worked_on t (record { bureau = b; ask = a }) (refusing (length t) r) ≡ refused t r
  stops a r = pick_no (ltb (length t) (length t)) _ _ (le-ltb (length t) (length t) (le_refl (length t)))

  takes : (q : ℕ) → lowest_free t < length t → worked_on t (record { bureau = b; ask = Take q }) (opening (looked unseen 0 t) (length t) (opened q)) ≡ placed t b (opened q)
  unfolding acted
  takes q l = go (opened q) refl
    where
      go : (o : Result Campaign Refusal) → opened q ≡ o → worked_on t (record { bureau = b; ask = Take q }) (opening (looked unseen 0 t) (length t) o) ≡ placed t b o
      go (Ok c) e = rw (low t l) (pick_yes (ltb (lowest_free t) (length t)) _ _ (lt-ltb (lowest_free t) (length t) l) ∙ rw e)
      go (Err r) e = stops (Take q) r

  chooses : (a : Ask) → kept t ≡ true → is_bureau b ≡ true → worked_on t (record { bureau = b; ask = a }) (choosing (looked unseen 0 t) (length t) b a) ≡ asked t b a
  unfolding acted
  chooses (Take q) k e =
      rw (count t b k e)
      (by_test (leb 16 (jobs b t)) (λ h. rw h (stops (Take q) BureauFull))
      (λ h. rw h (takes q (place_found t b (kept_from t k) e (leb-false 16 (jobs b t) h)))))
  chooses (On j w) k e =
      by_test (ltb j (length t))
      (λ l. by_test (eqb (at t j).owner b)
      (λ o. rw (l, o))
      (λ o. rw (l, o) (ap (λ (u : List Place). refused u NotItsOwn) (set-get_or t j free))))
      (λ l. rw l)

-- ---- the theorem
pub serves : (t : List Place) (c : Call) → served t c ≡ called t c.bureau c.ask
unfolding served chosen called
serves t c =
    rw (tested t)
    (by_test (kept t)
    (λ k. rw k (by_test (is_bureau c.bureau) (λ e. rw e (chooses t c.bureau c.ask k e)) (λ e. rw e (stops t c.bureau c.ask NoBureau))))
    (λ k. rw k (stops t c.bureau c.ask BrokenState)))
