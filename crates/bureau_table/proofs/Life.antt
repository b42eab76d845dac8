-- From its taking to its return, the campaign in a place is the one that its own entries make, whatever else happens at
-- the table; so demands 2 and 3 hold of it.  Follows the calls one by one. A call of another bureau, or at another
-- place, leaves the place as it was; the owner's entry, where it is taken, does what `entering` does, and is the list's
-- next record; that a list of records makes the campaign of document 000 is the crate `campaign_state`'s. Assumes
-- nothing.
use mathlib.Core.Path.{◌≡◌, refl, sym, ap, ◌∙◌}
use mathlib.Core.Bool.{Bool, false, not, true, ◌||◌}
use mathlib.Core.List.{List, [], ◌∷◌, ◌++◌, append_assoc, append-nil}
use Prim.Native.Nat.{ℕ}
use lib.Dec.{eqb}
use lib.ListN.{length, set}
use lib.Seq.{get_or-set_other, get_or-set_same}
use borrow.Author.Tests.{eqb-false, eqb-true}
use Rattle.refusal.specs.declared.Refusal.{Refusal}
use Rattle.truth.proofs.Cases.{by_test}
use Rattle.truth.proofs.Laws.{neither, true≢false}
use Rattle.record_end.specs.declared.Outcome.{Outcome}
use Rattle.campaign_state.specs.declared.Campaign.{Campaign}
use Rattle.campaign_state.specs.Answers.{entering}
use Rattle.campaign_verdict.specs.Answers.{judging, rating}
use Rattle.campaign_verdict.specs.Figures.{rates_of, verdict_of}
use Rattle.campaign_state.specs.Records.{AllEntered, campaign_of, censored_in, none, one}
use Rattle.campaign_state.specs.State.{censored, empty, sound, standard_in_range}
use Rattle.campaign_state.proofs.Records.{censored_grown, grown_by_entering}
use Rattle.bureau_table.specs.declared.Ask.{Ask}
use Rattle.bureau_table.specs.declared.Ask.TheVariants.{On, Take}
use Rattle.bureau_table.specs.declared.Place.{Place}
use Rattle.bureau_table.specs.declared.Work.{Work}
use Rattle.bureau_table.specs.declared.Work.TheVariants.{Enter, GiveBack, Judge, Rate}
use Rattle.bureau_table.specs.Table.{at, free, is_bureau, kept, owned}
use Rattle.bureau_table.specs.Calls.{Done, called}
use Rattle.bureau_table.specs.declared.Call.{Call}
use Rattle.bureau_table.specs.History.{after, enters, entries_at, freed_at, frees, made, work_enters}
use Rattle.bureau_table.proofs.Places.{all-at, lowest_free_lem}
use Rattle.bureau_table.proofs.Relations.{kept_from, not_none, own_inside, owned_sound}
use Rattle.bureau_table.proofs.Cases.{Made, Own, Reading, called_made, places, rates, reads, refuses, verdict}
use Rattle.bureau_table.proofs.Cases as cases
use Rattle.bureau_table.proofs.Keeping.{calls_keep, opened_is}
use Rattle.bureau_table.proofs.Taking.{owner_called, taken_at}
use Rattle.bureau_table.specs.declared.Reply.TheVariants.{Judged, Placed, Rated}
use Rattle.bureau_table.specs.declared.Reply.{Reply}
use Rattle.std.specs.Prelude.{cond, Some, None, Result, Ok, Err}

-- ---- the statement
-- place i of the table is bureau b's, its records at the standard q are os, and what it is told of them is document
-- 000's and 01's over that list
pub record Reads (t : List Place) (b q i : ℕ) (os : List Outcome) : Type 0 where
  pub stands : at t i ≡ owned b (campaign_of q os)
  pub censored : censored (at t i).campaign ≡ censored_in os
  pub verdict : (called t b (On i Judge)).answer ≡ Ok (Judged (verdict_of (campaign_of q os)))
  pub rates : (called t b (On i Rate)).answer ≡ Ok (Rated (cond (not (eqb (length os) 0)) (Some (rates_of (campaign_of q os))) None))
  pub sound : sound (campaign_of q os) ≡ true

-- ---- the proof
-- one more record, at the end
one_later : {c d e : Campaign} {os : List Outcome} (x : Outcome) → AllEntered c os d → entering d x ≡ Ok e → AllEntered c (os ++ (x ∷ [])) e
one_later x none e = one e none
one_later x (one t a) e = one t (one_later x a e)

-- what enters none

work_refused : (w : Work) (r : Refusal) → work_enters w (Err r) ≡ []
work_refused (Enter x) r = refl
work_refused Judge r = refl
work_refused Rate r = refl
work_refused GiveBack r = refl

work_read : (w : Work) {x : (Result Reply Refusal)} → Reading x → work_enters w x ≡ []
work_read (Enter y) (verdict v) = refl
work_read (Enter y) (rates r) = refl
work_read Judge r = refl
work_read Rate r = refl
work_read GiveBack r = refl

module _ (i b q : ℕ) (bureau : is_bureau b ≡ true) where
  record Holds (t : List Place) (os : List Outcome) : Type 0 where
    campaign : Campaign
    kept : kept t ≡ true
    stands : at t i ≡ owned b campaign
    entered : AllEntered (empty q) os campaign

  none_entered : (j : ℕ) (w : Work) (x : Result Reply Refusal) → work_enters w x ≡ [] → enters i (On j w) x ≡ []
  none_entered j w x e = by_test (eqb j i) (λ h. rw (h, e)) (λ h. rw h)

  not_entered : (a : Ask) (r : Refusal) → enters i a (Err r) ≡ []
  not_entered (Take q) r = refl
  not_entered (On j w) r = none_entered j w (Err r) (work_refused w r)

  module _ {t : List Place} {os : List Outcome} (s : Holds t os) where
    owner : (at t i).owner ≡ b
    owner = ap (λ (p : Place). p.owner) s.stands

    -- a call that enters nothing in the place and leaves it
    stays : {u : List Place} {l : List Outcome} → kept u ≡ true → at u i ≡ at t i → l ≡ [] → Holds u (os ++ l)
    stays k e n = record { campaign = s.campaign; kept = k; stands = e ∙ s.stands; entered = rw (n, append-nil) s.entered }

    elsewhere : (j : ℕ) (p : Place) → ¬ (j ≡ i) → at (set t j p) i ≡ at t i
    elsewhere j p n = get_or-set_other t j i p free (λ e. n (sym e))

    step : {c : ℕ} {a : Ask} {d : Done} → Made t c a d → kept d.table ≡ true → frees i a d.answer ≡ false → Holds d.table (os ++ enters i a d.answer)
    step (refuses a r) k f = stays k refl (not_entered a r)
    step (places q m) k f = stays k (elsewhere _ _ (λ e. not_none b bureau (sym owner ∙ ap (λ (j : ℕ). (at t j).owner) (sym e) ∙ lowest_free_lem t))) refl
    step (reads j w x r o) k f = stays k refl (none_entered j w x (work_read w r))
    step {c} (cases.enters j x d o e) k f =
        by_test (eqb j i)
        (λ h.
        let z = eqb-true j i h in
        let same : c ≡ b = sym o.owner ∙ ap (λ (n : ℕ). (at t n).owner) z ∙ owner in
        let is : (at t j).campaign ≡ s.campaign = ap (λ (n : ℕ). (at t n).campaign) z ∙ ap (λ (p : Place). p.campaign) s.stands in
        rw h
        (record {
          campaign = d;
          kept = k;
          stands = ap (λ (n : ℕ). at (set t j (owned c d)) n) (sym z) ∙ get_or-set_same t j (owned c d) free o.inside ∙ ap (λ (n : ℕ). owned n d) same;
          entered = one_later x s.entered (rw is at e);
        }))
        (λ h. rw h (stays k (elsewhere j _ (eqb-false j i h)) refl))
    step (cases.frees j o) k f =
        by_test (eqb j i)
        (λ h. let z : true ≡ false = rw h at f in absurd (true≢false z))
        (λ h. rw h (stays k (elsewhere j _ (eqb-false j i h)) refl))

  lives : (cs : List Call) (t : List Place) (os : List Outcome) → Holds t os → freed_at i t cs ≡ false → Holds (after t cs) (os ++ entries_at i t cs)
  unfolding after entries_at freed_at
  lives [] t os s f = rw append-nil s
  lives (c ∷ cs) t os s f =
      let n = neither _ _ f in
      rw (← append_assoc os (enters i c.ask (made t c).answer) (entries_at i (made t c).table cs))
      (lives cs (made t c).table _ (step s (called_made t c.bureau c.ask) (calls_keep t c.bureau c.ask s.kept) n.0) n.1)

  -- what the owner is then told
  module _ (standard : standard_in_range q ≡ true) {t : List Place} {os : List Outcome} (s : Holds t os) where
    is : at t i ≡ owned b (campaign_of q os)
    is = s.stands ∙ ap (owned b) (grown_by_entering q (empty q) s.campaign os (opened_is q standard) s.entered)

    own : Own t b i
    own = record { kept = s.kept; bureau = bureau; inside = own_inside t b i bureau (owner s); owner = owner s }

    kept_campaign : sound (campaign_of q os) ≡ true
    kept_campaign = rw is at (owned_sound (at t i) b bureau (owner s) (all-at t i (kept_from t s.kept).all))

    told_verdict : (called t b (On i Judge)).answer ≡ Ok (Judged (verdict_of (campaign_of q os)))
    unfolding judging
    told_verdict = rw (owner_called t b i Judge own, is, kept_campaign)

    told_rates : (called t b (On i Rate)).answer ≡ Ok (Rated (cond (not (eqb (campaign_of q os).records 0)) (Some (rates_of (campaign_of q os))) None))
    unfolding rating
    told_rates = rw (owner_called t b i Rate own, is, kept_campaign)

    told : Reads t b q i os
    unfolding campaign_of
    told =
        record {
          stands = is;
          censored = ap (λ (p : Place). censored p.campaign) is ∙ censored_grown q os;
          verdict = told_verdict;
          rates = told_rates;
          sound = kept_campaign;
        }

-- ---- the theorem
pub from_taking_to_return :
    (t : List Place) (b q i : ℕ) (cs : List Call)
    → (called t b (Take q)).answer ≡ Ok (Placed i)
    → freed_at i (called t b (Take q)).table cs ≡ false
    → Reads (after (called t b (Take q)).table cs) b q i (entries_at i (called t b (Take q)).table cs)
from_taking_to_return t b q i cs e f =
    let u = (called t b (Take q)).table in
    let g = taken_at t b q i e in
    let m = g.room in
    let at_first : Holds i b q m.bureau u [] =
    record {
      campaign = empty q;
      kept = calls_keep t b (Take q) m.kept;
      stands = ap (λ (l : List Place). at l i) g.fresh ∙ get_or-set_same t i (owned b (empty q)) free g.inside;
      entered = none;
    }
    in
    told i b q m.bureau m.standard (lives i b q m.bureau cs u [] at_first f)
