-- Demand 1: whatever is handed in, each public entry answers or refuses by a number of document 01, under exactly the
-- stated condition, and a refusal leaves everything as it stood.  Each entry has its tests in document 01's order, a
-- test being a condition and the refusal that it gives. The statement is that the entry's answer is what the tests
-- decide: the refusal of the first test that holds, or the answer proper if none does (`Decides`, which says so without
-- the definition). A record or a campaign goes in by value and a refusal hands none out, so the caller's stays; of the
-- one slice that is lent, a refusal leaves every place as it was (`kept`). The proof goes through the cases of the
-- tests.  Here stand the entries of a record (open, feed, end, list), of a campaign (open, enter) and of its verdict
-- (judge, rate, censored). The same form is used for a sheet's line in Refusal9, for read, run and the writers of
-- replies in JobSheet, and for what document 02 added in Request1 (comma files), Request2 (the sheet written and
-- resumed), Request7 (sums), Request9 (the table of two bureaus), Request11 (envelope peaks), Request13 (conditions and
-- reports) and Tail. tests/statements fails where a public entry that can refuse has no such statement. Assumes
-- nothing.
use mathlib.Core.Path.{◌≡◌, refl, sym, ◌∙◌}
use mathlib.Core.Bool.{Bool, cond, false, not, true}
use mathlib.Core.List.{List, [], ◌∷◌, foldl}
use Prim.Native.Nat.{ℕ, ◌+◌, ◌≤◌}
use native.Mathlib.Omega.{arith}
use borrow.Author.Tests.{eqb-false, le-leb, ltb-false}
use lib.Dec.{eqb, ltb}
use lib.IntN.{ℤ}
use lib.ListN.{length}
use Rattle.truth.proofs.Laws.{impossible}
use Rattle.refusal.specs.declared.Refusal.{Refusal}
use Rattle.refusal.specs.declared.Refusal.TheVariants.{BrokenState, CampaignFull, Item, Room, RowsUsedUp, TooLong, TooShort, Unequal}
use Rattle.poisson.specs.Rows.{rows}
use Rattle.record_state.specs.declared.Record.{Record}
use Rattle.record_state.specs.Answers.{opened}
use Rattle.record_feed.specs.Answers.{fed}
use Rattle.sample_items.specs.declared.Items.{Items}
use Rattle.sample_channels.specs.Channels.{any_bad, bad_sample, moments}
use Rattle.sample_items.specs.Limits.{decorrelation_in_range, item_outside, level_in_range, longest_time, most_samples, ramp_in_range, step_in_range}
use Rattle.sample_range.specs.Range.{first_bad}
use Rattle.crossing_places.specs.Reading.{counted, too_few}
use Rattle.record_list.specs.Answers.{ListsTo, listed, written}
use Rattle.record_state.specs.State.{sound, state_of, too_short}
use Rattle.record_step.specs.Step.{stepped}
use Rattle.record_end.specs.declared.Outcome.{Outcome}
use Rattle.record_end.specs.declared.RecordResult.{RecordResult}
use Rattle.record_end.specs.Result.{ending, outcome_of, result_of}
use Rattle.campaign_state.specs.declared.Campaign.{Campaign}
use Rattle.campaign_state.specs.Answers as campaigns
use Rattle.campaign_state.specs.Answers.{entering, outcome_kept, taken}
use Rattle.campaign_verdict.specs.Answers as verdicts
use Rattle.campaign_verdict.specs.Figures.{rates_of, verdict_of}
use Rattle.campaign_state.specs.State.{censored, empty, entered, most_records, standard_in_range}
use Rattle.campaign_state.specs.State as campaigning
use Rattle.sheet_line.specs.Texts.{entry_text}
use Rattle.sheet_line.specs.declared.Sheet.TheVariants.{Fresh, Open}
use Rattle.sheet_line.specs.Line.{line_after, outcome, stepping, telling, line_outcome}
use Rattle.text.specs.Pieces.{joined}
use Rattle.sheet_text.specs.Pieces.{feeding}
use Rattle.sheet_text.specs.Sheet.{meaning}
use Rattle.sheet_text.proofs.Pieces.{cut_anywhere}
use Rattle.sheet_line.proofs.Theorems.{result_line}
use Rattle.std.specs.Prelude.{Some, None as no_rates, Ok, Err}
use Rattle.truth.proofs.Answers.{same_err}

-- ---- the statement
-- a condition, and the refusal that it gives
pub record Test : Type 0 where
  pub holds : Bool
  pub gives : Refusal

infix 90 ◌gives◌
abbrev pub ◌gives◌ : Bool → Refusal → Test
b gives r = record { holds = b; gives = r }

-- the refusal r is that of the first test that holds
pub data First : List Test → Refusal → Type 0 where
  here : {t : Test} {ts : List Test} → t.holds ≡ true → First (t ∷ ts) t.gives
  later : {t : Test} {ts : List Test} {r : Refusal} → t.holds ≡ false → First ts r → First (t ∷ ts) r

-- no test holds
pub data None : List Test → Type 0 where
  end : None []
  not_it : {t : Test} {ts : List Test} → t.holds ≡ false → None ts → None (t ∷ ts)

-- the answer x is what the tests decide: it is the refusal r exactly if r is that of the first test that holds, and
-- `proper` if none does
pub record Decides {A : Type 0} (refused : Refusal → A) (ts : List Test) (proper x : A) : Type 0 where
  pub refuses : (r : Refusal) → First ts r → x ≡ refused r
  pub only_then : (r : Refusal) → x ≡ refused r → First ts r
  pub answers : None ts → x ≡ proper

-- items 1 to 4, and 6, which document 02's [8] adds
abbrev pub item_tests : Items → List Test → List Test
item_tests items ts =
    not (step_in_range items.step) gives Item 1
    ∷ (not (ramp_in_range items.ramp) gives Item 2
    ∷ (not (level_in_range items.levels.roll) gives Item 3
    ∷ (not (decorrelation_in_range items.decorrelation) gives Item 4
    ∷ (not (level_in_range items.levels.acceleration) gives Item 6
    ∷ ts))))

-- the lengths of both slices, the samples, the timed length, too few samples, and the room for the counted times
abbrev pub list_tests : Items → List ℤ → List ℤ → ℕ → List Test
list_tests items xs ys places =
    not (eqb (length xs) (length ys)) gives Unequal
    ∷ (any_bad xs ys gives bad_sample (first_bad xs) (first_bad ys)
    ∷ (ltb (most_samples items.step items.ramp) (length xs) gives TooLong
    ∷ (too_few items.ramp (length xs) gives TooShort
    ∷ (ltb places (length (counted items (moments xs ys))) gives Room (length (counted items (moments xs ys)))
    ∷ []))))

-- room in a campaign: 5, then 6
abbrev pub room_tests : Campaign → List Test
room_tests c = eqb c.records most_records gives CampaignFull ∷ (eqb c.failures rows gives RowsUsedUp ∷ [])

-- a result that is broken goes before them
abbrev pub result_tests : Campaign → Outcome → List Test
result_tests c o = not (outcome_kept o) gives BrokenState ∷ room_tests c

-- "Order", entry by entry
pub record Demand1 : Type 0 where
  -- opening 1
  pub open_record : (items : Items) → Decides Err (item_tests items []) (Ok (state_of items [])) (opened items)
  pub open_campaign : (q : ℕ) → Decides Err (not (standard_in_range q) gives Item 5 ∷ []) (Ok (empty q)) (campaigns.opened q)
  -- a piece 8, 12, 2, 3
  pub feed :
      (r : Record) (xs ys : List ℤ)
      → Decides Err
      (not (sound r) gives BrokenState
      ∷ (not (eqb (length xs) (length ys)) gives Unequal
      ∷ (any_bad xs ys gives bad_sample (first_bad xs) (first_bad ys)
      ∷ (ltb (most_samples r.items.step r.items.ramp) (r.n + length xs) gives TooLong
      ∷ []))))
      (Ok (foldl stepped r (moments xs ys)))
      (fed r xs ys)
  -- ending 8, 4
  pub end : (r : Record) → Decides Err (not (sound r) gives BrokenState ∷ (too_short r gives TooShort ∷ [])) (Ok (result_of r)) (ending r)
  -- entering 8, for the campaign and for the result, then 5, 6
  pub enter :
      (c : Campaign) (o : Outcome)
      → Decides Err (not (campaigning.sound c) gives BrokenState ∷ result_tests c o) (Ok (entered c o.failed o.exposure)) (entering c o)
  -- listing 1, 12, 2, 3, 4, 7; and a refusal leaves the slice as it stood
  pub list :
      (items : Items) (xs ys : List ℤ) (places : ℕ)
      → Decides Err (item_tests items (list_tests items xs ys places))
      (Ok (length (counted items (moments xs ys)))) (listed items xs ys places)
  pub kept : (items : Items) (xs ys : List ℤ) (before after : List ℕ) (r : Refusal)
      → ListsTo items xs ys before (Err r) after → after ≡ before
  -- verdict, rates and the censored count 8
  pub verdict : (c : Campaign) → Decides Err (not (campaigning.sound c) gives BrokenState ∷ []) (Ok (verdict_of c)) (verdicts.judging c)
  pub rates :
      (c : Campaign)
      → Decides Err (not (campaigning.sound c) gives BrokenState ∷ []) (Ok (cond (not (eqb c.records 0)) (Some (rates_of c)) no_rates)) (verdicts.rating c)
  pub censored : (c : Campaign) → Decides Err (not (campaigning.sound c) gives BrokenState ∷ []) (Ok (censored c)) (verdicts.counting c)
  -- a job sheet: however the text is cut into pieces, what is written and what the reading ends in are those of its
  -- meaning; of a record that a line tells of, exposure 0 gives 4, above 10,000,000 gives 3, then 5, 6; and the line of
  -- a record that was ended comes to what entering its result answers, refusals and all
  pub sheet : (pieces : List (List ℕ)) → feeding pieces Fresh [] ≡ meaning (joined pieces)
  pub sheet_record :
      (c : Campaign) (f : Bool) (t : ℕ)
      → campaigning.sound c ≡ true
      → Decides Err (eqb t 0 gives TooShort ∷ (ltb longest_time t gives TooLong ∷ room_tests c)) (Ok (entered c f t)) (telling c f t)
  pub sheet_line :
      (r : Record) (x : RecordResult) (c : Campaign)
      → campaigning.sound c ≡ true
      → ending r ≡ Ok x
      → stepping (Open c) (entry_text (c.records + 1) (cond (outcome_of x).failed 1 0) x.exposure)
      ≡ outcome (line_after c) (entering c (outcome_of x))

-- ---- the proof
-- what the tests decide, computed
unfoldable pub decide : {A : Type 0} → (Refusal → A) → List Test → A → A
decide refused [] x = x
decide refused (t ∷ ts) x = cond t.holds (refused t.gives) (decide refused ts x)

module _ {A : Type 0} (refused : Refusal → A) (proper : A) (own : (r s : Refusal) → refused r ≡ refused s → r ≡ s) (apart : (r : Refusal) → ¬ (proper ≡ refused r)) where
  refuses : (ts : List Test) (r : Refusal) → First ts r → decide refused ts proper ≡ refused r
  unfolding decide
  refuses [] r x' = elim x' [ ]
  refuses (t ∷ ts) r (here h) = rw h
  refuses (t ∷ ts) r (later h f) = rw h (refuses ts r f)

  only_then : (ts : List Test) (r : Refusal) → decide refused ts proper ≡ refused r → First ts r
  unfolding decide
  only_then [] r e = absurd (apart r e)
  only_then (t ∷ ts) r e = go t.holds refl (only_then ts r) e
    where
      go : (b : Bool) → t.holds ≡ b → (decide refused ts proper ≡ refused r → First ts r) → cond b (refused t.gives) (decide refused ts proper) ≡ refused r → First (t ∷ ts) r
      go true h rest e = rw (← own t.gives r e) (here h)
      go false h rest e = later h (rest e)

  answers : (ts : List Test) → None ts → decide refused ts proper ≡ proper
  unfolding decide
  answers [] end = refl
  answers (t ∷ ts) (not_it h n) = rw h (answers ts n)

  pub decided : (ts : List Test) (x : A) → x ≡ decide refused ts proper → Decides refused ts proper x
  decided ts x e =
      record {
        refuses = λ r f. e ∙ refuses ts r f;
        only_then = λ r d. only_then ts r (sym e ∙ d);
        answers = λ n. e ∙ answers ts n;
      }

-- an item's number and the tests of the five items
first-item : {A : Type 0} (refused : Refusal → A) (ts : List Test) (x : A) (a b c d f : Bool) → (n : ℕ) → n ≡ cond (not a) 1 (cond (not b) 2 (cond (not c) 3 (cond (not d) 4 (cond (not f) 6 0))))
    → cond (not (eqb n 0)) (refused (Item n)) (decide refused ts x)
    ≡ decide refused (not a gives Item 1 ∷ (not b gives Item 2 ∷ (not c gives Item 3 ∷ (not d gives Item 4 ∷ (not f gives Item 6 ∷ ts))))) x
unfolding decide
first-item refused ts x false b c d f n e = rw e
first-item refused ts x true false c d f n e = rw e
first-item refused ts x true true false d f n e = rw e
first-item refused ts x true true true false f n e = rw e
first-item refused ts x true true true true false n e = rw e
first-item refused ts x true true true true true n e = rw e

swapped : {A : Type 0} (b : Bool) (x y : A) → cond b x y ≡ cond (not b) y x
swapped true x y = refl
swapped false x y = refl

some : (n : ℕ) → ¬ (n ≡ 0) → 1 ≤ n
some n h = omega arith

-- a line's own tests, then those of entering, of which 8 is settled
pub tells : (c : Campaign) (f : Bool) (t : ℕ) → campaigning.sound c ≡ true
    → telling c f t ≡ cond (eqb t 0) (Err TooShort) (cond (ltb longest_time t) (Err TooLong) (taken c f t))
unfolding telling entering
tells c f t g = go (eqb t 0) refl (ltb longest_time t) refl
  where
    go : (a : Bool) → eqb t 0 ≡ a → (b : Bool) → ltb longest_time t ≡ b
        → cond a (Err TooShort) (cond b (Err TooLong) (entering c (line_outcome f t)))
        ≡ cond a (Err TooShort) (cond b (Err TooLong) (taken c f t))
    go true e b l = refl
    go false e true l = refl
    go false e false l = rw (g, le-leb 1 t (some t (eqb-false t 0 e)), le-leb t longest_time (ltb-false longest_time t l))

pub demand_1 : Demand1
unfolding decide opened fed listed item_outside written ending entering verdicts.judging verdicts.rating verdicts.counting
demand_1 =
    record {
      open_record =
          λ items.
          decided Err (Ok (state_of items [])) (λ r s. same_err) (λ r e. impossible (cc)) (item_tests items []) (opened items)
          (swapped (eqb (item_outside items) 0) _ _ ∙ first-item Err [] (Ok (state_of items []))
          (step_in_range items.step) (ramp_in_range items.ramp) (level_in_range items.levels.roll)
          (decorrelation_in_range items.decorrelation) (level_in_range items.levels.acceleration)
          (item_outside items) refl);
      open_campaign = λ q. decided Err (Ok (empty q)) (λ r s. same_err) (λ r e. impossible (cc)) _ (campaigns.opened q) (swapped (standard_in_range q) _ _);
      feed = λ r xs ys. decided Err (Ok (foldl stepped r (moments xs ys))) (λ r s. same_err) (λ f e. impossible (cc)) _ (fed r xs ys) refl;
      end = λ r. decided Err (Ok (result_of r)) (λ r s. same_err) (λ f e. impossible (cc)) _ (ending r) refl;
      enter = λ c o. decided Err (Ok (entered c o.failed o.exposure)) (λ r s. same_err) (λ r e. impossible (cc)) _ (entering c o) refl;
      list =
          λ items xs ys places.
          decided Err (Ok (length (counted items (moments xs ys)))) (λ r s. same_err) (λ r e. impossible (cc)) _ (listed items xs ys places)
          (first-item Err (list_tests items xs ys places)
          (Ok (length (counted items (moments xs ys)))) (step_in_range items.step)
          (ramp_in_range items.ramp) (level_in_range items.levels.roll) (decorrelation_in_range
          items.decorrelation) (level_in_range items.levels.acceleration) (item_outside items) refl);
      kept = λ items xs ys before after r p. p.leaves;
      verdict = λ c. decided Err (Ok (verdict_of c)) (λ r s. same_err) (λ r e. impossible (cc)) _ (verdicts.judging c) (swapped (campaigning.sound c) _ _);
      rates = λ c. decided Err (Ok (cond (not (eqb c.records 0)) (Some (rates_of c)) no_rates)) (λ r s. same_err) (λ r e. impossible (cc)) _ (verdicts.rating c) (swapped (campaigning.sound c) _ _);
      sheet = cut_anywhere;
      sheet_record = λ c f t g. decided Err (Ok (entered c f t)) (λ r s. same_err) (λ r e. impossible (cc)) _ (telling c f t) (tells c f t g);
      sheet_line = result_line;
      censored = λ c. decided Err (Ok (censored c)) (λ r s. same_err) (λ r e. impossible (cc)) _ (verdicts.counting c) (swapped (campaigning.sound c) _ _);
    }
