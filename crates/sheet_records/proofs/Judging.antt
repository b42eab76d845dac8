-- The judge on its way through the records: what is judged of all is what is judged of the rest, from a campaign of so
-- many records and failures (`Along`). A record that is taken keeps that, one at fault decides, and the end finds all
-- of them clean. Assumes nothing.
use mathlib.Core.Path.{◌≡◌, refl, ap, sym, ◌∙◌}
use mathlib.Core.Bool.{Bool, true, false, cond}
use mathlib.Core.List.{List}
use Prim.Native.Nat.{ℕ, ◌+◌, ◌≤◌, ◌<◌}
use native.Mathlib.Omega.{arith}
use lib.Dec.{eqb, ltb}
use lib.IntN.{ℤ, pos}
use lib.ListN.{length, get_or, drop, drop_of_length-le}
use borrow.Author.Tests.{eq-eqb, eqb-false, eqb-true, ne_eqb, le-leb, ltb-false}
use Rattle.truth.proofs.Cases.{by_test}
use Rattle.truth.proofs.Laws.{holds, impossible, is_true}
use Rattle.refusal.specs.declared.Refusal.{Refusal}
use Rattle.refusal.specs.declared.Refusal.TheVariants.{CampaignFull, Item, RowsUsedUp, TooLong, TooShort}
use Rattle.poisson.specs.Rows.{rows}
use Rattle.sample_items.specs.Limits.{longest_time}
use Rattle.sample_size.proofs.Turn.{turn}
use Rattle.campaign_state.specs.declared.Campaign.{Campaign}
use Rattle.campaign_state.specs.Answers.{entering, opened}
use Rattle.campaign_state.specs.State.{empty, entered, most_records, sound, standard_in_range}
use Rattle.campaign_state.proofs.Answered.{entered_from}
use Rattle.campaign_state.proofs.Keeping.{opened_sound, entering_sound}
use Rattle.campaign_state.proofs.Relations.{kept_from}
use Rattle.sheet_line.specs.Line.{telling, line_outcome}
use Rattle.sheet_line.proofs.Theorems.{telling_enters, told_entered}
use Rattle.sheet_records.specs.Ledger.{exposure_in, failed_in}
use Rattle.sheet_records.specs.Answers.{judged, judged_as, judged_from, judged_one, onward}
use Rattle.std.specs.Prelude.{Result, Ok, Err}

pub record Along (q : ℕ) (xs : List ℤ) (i failures : ℕ) : Type 0 where
  pub so_far : Campaign
  pub good : sound so_far ≡ true
  pub records : so_far.records ≡ i
  pub fails : so_far.failures ≡ failures
  pub left : judged q xs ≡ judged_from so_far (drop i xs)

-- the standard
pub bad_standard : (q : ℕ) (xs : List ℤ) → standard_in_range q ≡ false → Err (Item 5) ≡ judged_as (judged q xs)
unfolding judged
bad_standard q xs e = rw e

pub start : (q : ℕ) (xs : List ℤ) → standard_in_range q ≡ true → Along q xs 0 0
unfolding judged
start q xs e =
    let o : opened q ≡ Ok (empty q) = rw e in
    record { so_far = empty q; good = is_true _ (opened_sound q (empty q) o); records = refl; fails = refl; left = rw e }

-- what entering answers a campaign that keeps its relations and an exposure in range: 5, 6, or the record entered
module _ (c : Campaign) (f : Bool) (t : ℕ) (g : sound c ≡ true) (low : 1 ≤ t) (high : t ≤ longest_time) where
  pub told_full : c.records ≡ most_records → telling c f t ≡ Err CampaignFull
  unfolding entering
  told_full e = telling_enters c f t low high ∙ rw (g, le-leb 1 t low, le-leb t longest_time high, eq-eqb c.records most_records e)

  pub told_used_up : ¬ (c.records ≡ most_records) → c.failures ≡ 64 → telling c f t ≡ Err RowsUsedUp
  unfolding entering
  told_used_up n e = telling_enters c f t low high ∙ rw (g, le-leb 1 t low, le-leb t longest_time high, ne_eqb c.records most_records n, eq-eqb c.failures 64 e)

  pub told_taken : ¬ (c.records ≡ most_records) → ¬ (c.failures ≡ 64) → (telling c f t ≡ Ok (entered c f t)) × (sound (entered c f t) ≡ true)
  unfolding entering
  told_taken n m =
      let e : entering c (line_outcome f t) ≡ Ok (entered c f t) = rw (g, le-leb 1 t low, le-leb t longest_time high, ne_eqb c.records most_records n, ne_eqb c.failures 64 m) in
      (telling_enters c f t low high ∙ e, is_true _ (entering_sound c (line_outcome f t) (entered c f t) e))

-- what is judged of one record is what the sheet says of it
module _ (c : Campaign) (f : Bool) (t : ℕ) (g : sound c ≡ true) where
  pub told_short : eqb t 0 ≡ true → telling c f t ≡ Err TooShort
  unfolding telling
  told_short e = rw e

  pub told_long : eqb t 0 ≡ false → ltb longest_time t ≡ true → telling c f t ≡ Err TooLong
  unfolding telling
  told_long e h = rw (e, h)

  told_one : judged_one c.records c.failures t ≡ judged_as (telling c f t)
  unfolding judged_one
  told_one =
      by_test (eqb t 0)
      (λ e. rw (e, told_short e))
      (λ e.
      by_test (ltb longest_time t)
      (λ h. rw (e, h, told_long e h))
      (λ h.
      let low : 1 ≤ t = omega (arith, eqb-false t 0 e) in
      let high = ltb-false longest_time t h in
      by_test (eqb c.records most_records)
      (λ m. rw (e, h, m, told_full c f t g low high (eqb-true c.records most_records m)))
      (λ m.
      by_test (eqb c.failures rows)
      (λ n. rw (e, h, m, n, told_used_up c f t g low high (eqb-false c.records most_records m) (eqb-true c.failures 64 n)))
      (λ n. rw (e, h, m, n, (told_taken c f t g low high (eqb-false c.records most_records m) (eqb-false c.failures 64 n)).0)))))

-- what was judged is an answer
pub judged_clean : (a : Result Campaign Refusal) → (Ok (tt {0})) ≡ judged_as a → (c : Campaign) × (a ≡ Ok c)
judged_clean (Ok c) e = (c, refl)
judged_clean (Err r) e = impossible (cc)

pub judged_fault : (a : Result Campaign Refusal) (r : Refusal) → Err r ≡ judged_as a → a ≡ Err r
judged_fault (Ok c) r e = impossible (cc)
judged_fault (Err s) r e = let f : s ≡ r = cc in ap Err f

module _ {q : ℕ} {xs : List ℤ} {i failures : ℕ} (a : Along q xs i failures) where
  pub few_failures : failures ≤ 64
  few_failures = omega (arith, a.fails, (kept_from a.so_far (holds a.good)).failures_rows)

  pub ended : length xs ≤ i → (Ok (tt {0})) ≡ judged_as (judged q xs)
  unfolding judged_from
  ended past = rw (a.left, drop_of_length-le xs past)

  module _ (inside : i < length xs) where
    abbrev x : ℤ
    x = get_or xs i (pos 0)

    next : judged q xs ≡ onward (telling a.so_far (failed_in x) (exposure_in x)) (λ d. judged_from d (drop (i + 1) xs))
    unfolding judged_from
    next = a.left ∙ turn (judged_from a.so_far) xs i inside

    told_here : judged_one i failures (exposure_in x) ≡ judged_as (telling a.so_far (failed_in x) (exposure_in x))
    told_here =
        ap (λ (m : ℕ). judged_one m failures (exposure_in x)) (sym a.records)
        ∙ ap (λ (n : ℕ). judged_one a.so_far.records n (exposure_in x)) (sym a.fails)
        ∙ told_one a.so_far (failed_in x) (exposure_in x) a.good

    pub decides : (r : Refusal) → judged_one i failures (exposure_in x) ≡ Err r → Err r ≡ judged_as (judged q xs)
    decides r e = rw (next, judged_fault (telling a.so_far (failed_in x) (exposure_in x)) r (sym e ∙ told_here))

    pub on : judged_one i failures (exposure_in x) ≡ (Ok (tt {0})) → Along q xs (i + 1) (cond (failed_in x) (failures + 1) failures)
    on e =
        let (d, taken) = judged_clean (telling a.so_far (failed_in x) (exposure_in x)) (sym e ∙ told_here) in
        let says = line_outcome (failed_in x) (exposure_in x) in
        let enters = told_entered a.so_far (failed_in x) (exposure_in x) d taken in
        let after = (entered_from a.so_far says d enters).room.after in
        record {
          so_far = d;
          good = is_true _ (entering_sound a.so_far says d enters);
          records = ap (λ (c : Campaign). c.records) after ∙ ap (λ (n : ℕ). n + 1) a.records;
          fails = ap (λ (c : Campaign). c.failures) after ∙ ap (λ (n : ℕ). cond (failed_in x) (n + 1) n) a.fails;
          left = next ∙ ap (λ (y : Result Campaign Refusal). onward y (λ b. judged_from b (drop (i + 1) xs))) taken;
        }
