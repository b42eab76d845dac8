-- Document 02, [9]: a second bureau at the same bench. Read the definitions first: bench's specs, Table (the table and
-- its relations), Calls (what a call answers and leaves) and History (calls of both bureaus one after the other). The
-- statement has four parts: of each call (order of refusals, what it leaves), of taking and giving back, of a bureau's
-- script whatever the other does, and of a place from its taking to its return.  The order of refusals goes by the
-- cases of the tests, as in demand 1; a campaign in a table that keeps its relations keeps document 01's, so that the
-- tests after 15 have no broken campaign among them. The rest is the crate bench's. Assumes nothing.
use mathlib.Core.Path.{◌≡◌, refl}
use mathlib.Core.Bool.{Bool, cond, false, not, true, ◌&&◌}
use mathlib.Core.List.{List, [], ◌∷◌}
use Prim.Native.Nat.{ℕ, ◌≤◌, ◌<◌}
use lib.Dec.{eqb, leb, ltb}
use lib.ListN.{length, set}
use borrow.Author.Tests.{eqb-true}
use Rattle.truth.proofs.Laws.{impossible}
use Rattle.refusal.specs.declared.Refusal.{Refusal}
use Rattle.refusal.specs.declared.Refusal.TheVariants.{BrokenState, BureauFull, CampaignFull, Item, NoBureau, NotItsOwn, RowsUsedUp}
use Rattle.poisson.specs.Rows.{rows}
use Rattle.truth.proofs.Cases.{by_test}
use Rattle.record_end.specs.declared.Outcome.{Outcome}
use Rattle.campaign_state.specs.declared.Campaign.{Campaign}
use Rattle.campaign_state.specs.Answers.{entering, outcome_kept}
use Rattle.campaign_state.specs.Records.{campaign_of, censored_in}
use Rattle.campaign_state.specs.State.{censored, most_records, sound, standard_in_range}
use Rattle.campaign_verdict.specs.Answers.{judging, rating}
use Rattle.campaign_verdict.specs.Figures.{rates_of, verdict_of}
use Rattle.bureau_table.specs.declared.Ask.{Ask}
use Rattle.bureau_table.specs.declared.Ask.TheVariants.{On, Take}
use Rattle.bureau_table.specs.declared.Call.{Call}
use Rattle.bureau_table.specs.declared.Place.{Place}
use Rattle.bureau_table.specs.declared.Work.{Work}
use Rattle.bureau_table.specs.declared.Work.TheVariants.{Enter, GiveBack, Judge, Rate}
use Rattle.bureau_table.specs.Table.{at, bare, free, is_bureau, jobs, kept, lowest_free, most_jobs, owned}
use Rattle.bureau_table.specs.Calls.{called, entry, worked}
use Rattle.bureau_table.specs.Taken.{TakenAt}
use Rattle.bureau_table.specs.History.{Move, after, alone, answers_from, desk_answers, entries_at, freed_at, own_jobs, script}
use Rattle.bureau_table.proofs.Places.{all-at}
use Rattle.bureau_table.proofs.Relations.{kept_from, owned_sound}
use Rattle.bureau_table.proofs.Keeping.{bare_kept, calls_keep, others_kept, rates_leave, refusal_leaves, verdict_leaves}
use Rattle.bureau_table.proofs.Taking.{always_placed, freed_at_lem, taken_at}
use Rattle.bureau_table.proofs.Alone.{as_alone, its_own_desk, same_answers}
use Rattle.bureau_table.proofs.Life.{Reads, from_taking_to_return}
use Rattle.demands.proofs.Demand1.{Decides, Test, decide, decided, ◌gives◌}
use Rattle.demands.proofs.Demand3.{Demand3, demand_3}
use Rattle.bureau_table.specs.declared.Reply.TheVariants.{Entered, Freed, Judged, Placed, Rated}
use Rattle.bureau_table.specs.declared.Reply.{Reply}
use Rattle.std.specs.Prelude.{Some, None, Result, Ok, Err}
use Rattle.truth.proofs.Answers.{same_err}

-- ---- the statement
-- 8 first of all, then 13
abbrev pub call_tests : List Place → ℕ → List Test → List Test
call_tests t b ts = not (kept t) gives BrokenState ∷ (not (is_bureau b) gives NoBureau ∷ ts)

-- then 15
abbrev pub place_tests : List Place → ℕ → ℕ → List Test → List Test
place_tests t b i ts = call_tests t b (not (ltb i (length t) && eqb (at t i).owner b) gives NotItsOwn ∷ ts)

-- the order of refusals, call by call: 8, 13, 14 or 15, then document 01's
pub record Order (t : List Place) (b : ℕ) : Type 0 where
  pub take :
      (q : ℕ)
      → Decides Err (call_tests t b (leb most_jobs (jobs b t) gives BureauFull ∷ (not (standard_in_range q) gives Item 5 ∷ []))) (Ok (Placed (lowest_free t))) (called t b (Take q)).answer
  pub enter :
      (i : ℕ) (o : Outcome)
      → Decides Err
      (place_tests t b i
      (not (outcome_kept o) gives BrokenState
      ∷ (eqb (at t i).campaign.records most_records gives CampaignFull
      ∷ (eqb (at t i).campaign.failures rows gives RowsUsedUp
      ∷ []))))
      (Ok Entered)
      (called t b (On i (Enter o))).answer
  pub verdict : (i : ℕ) → Decides Err (place_tests t b i []) (Ok (Judged (verdict_of (at t i).campaign))) (called t b (On i Judge)).answer
  pub rates : (i : ℕ) → Decides Err (place_tests t b i []) (Ok (Rated (cond (not (eqb (at t i).campaign.records 0)) (Some (rates_of (at t i).campaign)) None))) (called t b (On i Rate)).answer
  pub give_back : (i : ℕ) → Decides Err (place_tests t b i []) (Ok Freed) (called t b (On i GiveBack)).answer

-- of any table, any number for a bureau and anything asked
pub record EachCall (t : List Place) (b : ℕ) : Type 0 where
  -- the relations are kept by every call
  pub keeps : (a : Ask) → kept t ≡ true → kept (called t b a).table ≡ true
  -- 8 first of all, 13, 14 or 15, then document 01's; and a refusal leaves the table as it was
  pub order : Order t b
  pub refusal_leaves : (a : Ask) (r : Refusal) → (called t b a).answer ≡ Err r → (called t b a).table ≡ t
  -- verdict and rates only read
  pub verdict_leaves : (i : ℕ) → (called t b (On i Judge)).table ≡ t
  pub rates_leave : (i : ℕ) → (called t b (On i Rate)).table ≡ t
  -- taking a job gives the lowest free place and a fresh campaign; a bureau under 16 jobs always gets one for a q in
  -- range
  pub taken : (q i : ℕ) → (called t b (Take q)).answer ≡ Ok (Placed i) → TakenAt t b q i (called t b (Take q))
  pub always : (q : ℕ) → kept t ≡ true → is_bureau b ≡ true → jobs b t < 16 → standard_in_range q ≡ true → (i : ℕ) × ((called t b (Take q)).answer ≡ Ok (Placed i))
  -- giving it back frees the place
  pub freed : (i : ℕ) → (called t b (On i GiveBack)).answer ≡ (Ok Freed) → (called t b (On i GiveBack)).table ≡ set t i free
  -- a place of another bureau stays as it was
  pub others : (a : Ask) (c j : ℕ) → is_bureau c ≡ true → (at t j).owner ≡ c → ¬ (c ≡ b) → at (called t b a).table j ≡ at t j

-- whatever calls the other bureau makes, the answers to bureau b's script are the same, place numbers aside
pub record Undisturbed (b : ℕ) : Type 0 where
  -- they are those at a desk of its own
  pub desk : (t : List Place) → kept t ≡ true → (ms : List (Move b)) → answers_from b t ms ≡ desk_answers b (own_jobs b t) (script ms)
  -- they are those that the script gets alone
  pub alone : (t : List Place) → kept t ≡ true → (ms : List (Move b)) → answers_from b t ms ≡ answers_from b t (alone ms)
  -- they depend on the bureau's jobs at the start and its script, on nothing else in the table and nothing else that
  -- happens
  pub same :
      (t u : List Place)
      → kept t ≡ true
      → kept u ≡ true
      → own_jobs b t ≡ own_jobs b u
      → (ms ns : List (Move b))
      → script ms ≡ script ns
      → answers_from b t ms ≡ answers_from b u ns

-- place i of the table is bureau b's; its campaign is that of the records os which were entered there, at the standard
-- q; what the bureau is told of it is document 01's over that list (demand 2), and the chances are demand 3's
pub record Holds (t : List Place) (b q i : ℕ) (os : List Outcome) : Type 0 where
  pub stands : at t i ≡ owned b (campaign_of q os)
  pub censored : censored (at t i).campaign ≡ censored_in os
  pub verdict : (called t b (On i Judge)).answer ≡ Ok (Judged (verdict_of (campaign_of q os)))
  pub rates : (called t b (On i Rate)).answer ≡ Ok (Rated (cond (not (eqb (length os) 0)) (Some (rates_of (campaign_of q os))) None))
  pub chances : 1 ≤ length os → Demand3 (campaign_of q os)

pub record Request9 : Type 0 where
  -- there is such a table: the bare one
  pub bare : kept bare ≡ true
  pub call : (t : List Place) (b : ℕ) → EachCall t b
  pub undisturbed : (b : ℕ) → is_bureau b ≡ true → Undisturbed b
  -- demands 2 and 3 hold for each place from its taking to its return: b took place i, and then calls of anyone's, none
  -- of which gave it back
  pub life :
      (t : List Place) (b q i : ℕ) (cs : List Call)
      → (called t b (Take q)).answer ≡ Ok (Placed i)
      → freed_at i (called t b (Take q)).table cs ≡ false
      → Holds (after (called t b (Take q)).table cs) b q i (entries_at i (called t b (Take q)).table cs)

-- ---- the proof
-- document 01's refusals of an entry, as the bench hands them on
handed_on : (b : ℕ) (c d : Campaign) (l m n : Bool)
    → (entry b c (cond l (Err BrokenState) (cond m (Err CampaignFull) (cond n (Err RowsUsedUp) (Ok d))))).answer
    ≡ cond l (Err BrokenState) (cond m (Err CampaignFull) (cond n (Err RowsUsedUp) (Ok Entered)))
handed_on b c d true m n = refl
handed_on b c d false true n = refl
handed_on b c d false false true = refl
handed_on b c d false false false = refl

module _ (t : List Place) (b : ℕ) where
  take_is : (q : ℕ) → (called t b (Take q)).answer ≡
      decide Err (call_tests t b (leb most_jobs (jobs b t) gives BureauFull ∷
      (not (standard_in_range q) gives Item 5 ∷ []))) (Ok (Placed (lowest_free t)))
  unfolding called decide
  take_is q =
      by_test (kept t)
      (λ k. by_test (is_bureau b)
      (λ e. by_test (leb 16 (jobs b t)) (λ h. rw (k, e, h))
      (λ h. by_test (standard_in_range q) (λ s. rw (k, e, h, s)) (λ s. rw (k, e, h, s))))
      (λ e. rw (k, e)))
      (λ k. rw k)

  -- the tests before document 01's
  work_is : (i : ℕ) (w : Work) (ts : List Test) (proper : Result Reply Refusal) → (sound (at t i).campaign ≡ true → (worked b (at t i).campaign w).answer ≡ decide Err ts proper)
      → (called t b (On i w)).answer ≡ decide Err (place_tests t b i ts) proper
  unfolding called decide
  work_is i w ts proper rest =
      by_test (kept t)
      (λ k. by_test (is_bureau b)
      (λ e. by_test (ltb i (length t))
      (λ l. by_test (eqb (at t i).owner b)
      (λ o. rw (k, e, l, o) (rest (owned_sound (at t i) b e (eqb-true _ _ o) (all-at t i (kept_from t k).all))))
      (λ o. rw (k, e, l, o)))
      (λ l. rw (k, e, l)))
      (λ e. rw (k, e)))
      (λ k. rw k)

  enter_is : (i : ℕ) (o : Outcome) → sound (at t i).campaign ≡ true
      → (worked b (at t i).campaign (Enter o)).answer
      ≡ decide Err (not (outcome_kept o) gives BrokenState ∷ (eqb (at t i).campaign.records most_records gives
      CampaignFull ∷ (eqb (at t i).campaign.failures rows gives RowsUsedUp ∷ []))) (Ok Entered)
  unfolding entering decide
  enter_is i o s = rw s (handed_on b (at t i).campaign _ (not (outcome_kept o)) (eqb (at t i).campaign.records most_records) (eqb (at t i).campaign.failures rows))

  verdict_is : (i : ℕ) → sound (at t i).campaign ≡ true → (worked b (at t i).campaign Judge).answer ≡ decide Err [] (Ok (Judged (verdict_of (at t i).campaign)))
  unfolding judging decide
  verdict_is i s = rw s

  rates_is : (i : ℕ) → sound (at t i).campaign ≡ true →
      (worked b (at t i).campaign Rate).answer ≡ decide Err []
      (Ok (Rated (cond (not (eqb (at t i).campaign.records 0)) (Some (rates_of (at t i).campaign)) None)))
  unfolding rating decide
  rates_is i s = rw s

  given_is : (i : ℕ) → (worked b (at t i).campaign GiveBack).answer ≡ decide Err [] (Ok Freed)
  unfolding decide
  given_is i = refl

  order : Order t b
  order =
      record {
        take = λ q. decided Err _ (λ r s. same_err) (λ r e. impossible (cc)) _ _ (take_is q);
        enter = λ i o. decided Err _ (λ r s. same_err) (λ r e. impossible (cc)) _ _ (work_is i (Enter o) _ _ (enter_is i o));
        verdict = λ i. decided Err _ (λ r s. same_err) (λ r e. impossible (cc)) _ _ (work_is i Judge _ _ (verdict_is i));
        rates = λ i. decided Err _ (λ r s. same_err) (λ r e. impossible (cc)) _ _ (work_is i Rate _ _ (rates_is i));
        give_back = λ i. decided Err _ (λ r s. same_err) (λ r e. impossible (cc)) _ _ (work_is i GiveBack _ _ (λ s. given_is i));
      }

each_call : (t : List Place) (b : ℕ) → EachCall t b
each_call t b =
    record {
      keeps = calls_keep t b;
      order = order t b;
      refusal_leaves = refusal_leaves t b;
      verdict_leaves = verdict_leaves t b;
      rates_leave = rates_leave t b;
      taken = taken_at t b;
      always = always_placed t b;
      freed = freed_at_lem t b;
      others = λ a c j. others_kept t b c a j;
    }

holds : {t : List Place} {b q i : ℕ} {os : List Outcome} → Reads t b q i os → Holds t b q i os
unfolding campaign_of
holds {q = q} {os = os} h = record { stands = h.stands; censored = h.censored; verdict = h.verdict; rates = h.rates; chances = λ some. demand_3 (campaign_of q os) h.sound some }

pub request_9 : Request9
request_9 =
    record {
      bare = bare_kept;
      call = each_call;
      undisturbed = λ b e. record { desk = its_own_desk b e; alone = as_alone b e; same = same_answers b e };
      life = λ t b q i cs e f. holds (from_taking_to_return t b q i cs e f);
    }
