-- A call does one of five things: it refuses, places a job, reads, enters a record, or frees a place (`called_made`).
-- What is proved of calls goes through these cases. The proof follows the tests of `called` in their order; a place
-- that is stored as it was leaves the table as it was. Assumes nothing.
use mathlib.Core.Path.{◌≡◌, refl, sym, ap, ◌∙◌}
use mathlib.Core.Bool.{Bool, true}
use mathlib.Core.List.{List}
use Prim.Native.Nat.{ℕ, ◌<◌}
use lib.Dec.{eqb, leb, ltb}
use lib.ListN.{length, set}
use lib.Seq.{set-get_or}
use borrow.Author.Tests.{eqb-true, leb-false, ltb-true}
use Rattle.refusal.specs.declared.Refusal.{Refusal}
use Rattle.refusal.specs.declared.Refusal.TheVariants.{BrokenState, BureauFull, Item, NoBureau, NotItsOwn}
use Rattle.truth.proofs.Cases.{by_test}
use Rattle.record_end.specs.declared.Outcome.{Outcome}
use Rattle.campaign_state.specs.declared.Campaign.{Campaign}
use Rattle.campaign_verdict.specs.declared.Rates.{Rates}
use Rattle.campaign_verdict.specs.declared.Verdict.{Verdict}
use Rattle.campaign_state.specs.Answers.{entering}
use Rattle.campaign_verdict.specs.Answers.{judging, rating}
use Rattle.campaign_state.specs.State.{empty, standard_in_range}
use Rattle.bureau_table.specs.declared.Ask.{Ask}
use Rattle.bureau_table.specs.declared.Ask.TheVariants.{On, Take}
use Rattle.bureau_table.specs.declared.Place.{Place}
use Rattle.bureau_table.specs.declared.Work.{Work}
use Rattle.bureau_table.specs.declared.Work.TheVariants.{Enter, GiveBack, Judge, Rate}
use Rattle.bureau_table.specs.Table.{at, free, is_bureau, jobs, kept, lowest_free, owned}
use Rattle.bureau_table.specs.Calls.{Done, asked, called, entry, rates_answer, refused, stored, verdict_answer, worked}
use Rattle.bureau_table.specs.Taken.{Room}
use Rattle.bureau_table.specs.declared.Reply.TheVariants.{Entered, Freed, Judged, Placed, Rated}
use Rattle.bureau_table.specs.declared.Reply.{Reply}
use Rattle.std.specs.Prelude.{Option, Some, None, Result, Ok, Err}

-- a verdict or rates
pub data Reading : Result Reply Refusal → Type 0 where
  verdict : (v : Verdict) → Reading (Ok (Judged v))
  rates : (r : Option Rates) → Reading (Ok (Rated r))

-- no test before the place's own refused: the table keeps its relations, b is a bureau, place i is its own
pub record Own (t : List Place) (b i : ℕ) : Type 0 where
  pub kept : kept t ≡ true
  pub bureau : is_bureau b ≡ true
  pub inside : i < length t
  pub owner : (at t i).owner ≡ b

pub data Made (t : List Place) (b : ℕ) : Ask → Done → Type 0 where
  refuses : (a : Ask) (r : Refusal) → Made t b a (refused t r)
  places : (q : ℕ) → Room t b q → Made t b (Take q) (record { answer = Ok (Placed (lowest_free t)); table = set t (lowest_free t) (owned b (empty q)) })
  reads : (i : ℕ) (w : Work) (x : Result Reply Refusal) → Reading x → Own t b i → Made t b (On i w) (record { answer = x; table = t })
  enters :
      (i : ℕ) (x : Outcome) (d : Campaign)
      → Own t b i
      → entering (at t i).campaign x ≡ Ok d
      → Made t b (On i (Enter x)) (record { answer = (Ok Entered); table = set t i (owned b d) })
  frees : (i : ℕ) → Own t b i → Made t b (On i GiveBack) (record { answer = (Ok Freed); table = set t i free })

module _ (t : List Place) (b : ℕ) where
  -- its own place, stored as it was
  same : (i : ℕ) → Own t b i → set t i (owned b (at t i).campaign) ≡ t
  same i o = ap (λ (n : ℕ). set t i (owned n (at t i).campaign)) (sym o.owner) ∙ set-get_or t i free

  work_made : (i : ℕ) (w : Work) → Own t b i → Made t b (On i w) (stored t i (worked b (at t i).campaign w))
  work_made i (Enter x) o = go (entering (at t i).campaign x) refl
    where
      go : (a : Result Campaign Refusal) → entering (at t i).campaign x ≡ a → Made t b (On i (Enter x)) (stored t i (entry b (at t i).campaign a))
      go (Ok d) e = enters i x d o e
      go (Err r) e = rw (same i o) (refuses _ r)
  work_made i Judge o = go (judging (at t i).campaign)
    where
      go : (a : Result Verdict Refusal) → Made t b (On i Judge) (record { answer = verdict_answer a; table = set t i (owned b (at t i).campaign) })
      go (Ok v) = rw (same i o) (reads i Judge _ (verdict v) o)
      go (Err r) = rw (same i o) (refuses _ r)
  work_made i Rate o = go (rating (at t i).campaign)
    where
      go : (a : Result (Option Rates) Refusal) → Made t b (On i Rate) (record { answer = rates_answer a; table = set t i (owned b (at t i).campaign) })
      go (Ok r) = rw (same i o) (reads i Rate _ (rates r) o)
      go (Err r) = rw (same i o) (refuses _ r)
  work_made i GiveBack o = frees i o

  asked_made : (a : Ask) → kept t ≡ true → is_bureau b ≡ true → Made t b a (asked t b a)
  asked_made (Take q) k e =
      by_test (leb 16 (jobs b t)) (λ h. rw h (refuses _ BureauFull))
      (λ h. rw h
      (by_test (standard_in_range q) (λ s. rw s (places q (record { kept = k; bureau = e; under = leb-false _ _ h; standard = s })))
      (λ s. rw s (refuses _ (Item 5)))))
  asked_made (On i w) k e =
      by_test (ltb i (length t))
      (λ l. by_test (eqb (at t i).owner b)
      (λ o. rw (l, o) (work_made i w (record { kept = k; bureau = e; inside = ltb-true _ _ l; owner = eqb-true _ _ o })))
      (λ o. rw (l, o) (refuses _ NotItsOwn)))
      (λ l. rw l (refuses _ NotItsOwn))

  pub called_made : (a : Ask) → Made t b a (called t b a)
  unfolding called
  called_made a =
      by_test (kept t)
      (λ k. rw k (by_test (is_bureau b) (λ e. rw e (asked_made a k e)) (λ e. rw e (refuses a NoBureau))))
      (λ k. rw k (refuses a BrokenState))
