-- Document 02, [7]: the binomial method. Opening a sum, adding a record, bounds and rates are decided by their tests in
-- 02's order (demand 1); a sum goes in by value and a refusal hands none out, so nothing is added. N is the counted
-- groups and P the timed samples of the records that were added, in whatever order, and a record in pieces, cut
-- anywhere, adds what the whole one does: the groups of its joined samples, and how many of them stand at the ramp's
-- end or after it. The half-width is the least whole number whose square times P is at least 1,960² · N · (P - N), and
-- there is one. "No record" is answered exactly while nothing was added.  D is the step, R the ramp, a the levels and τ
-- the decorrelation time. Assumes nothing.
use mathlib.Core.Path.{◌≡◌, ap, refl}
use mathlib.Core.Bool.{Bool, cond, false, not, true}
use mathlib.Core.List.{List, [], ◌∷◌, ◌++◌}
use Prim.Native.Nat.{ℕ, ◌-◌, ◌≤◌}
use native.Mathlib.Omega.{arith}
use borrow.Author.Tests.{ne_eqb}
use lib.Dec.{eqb}
use lib.ListN.{length}
use Rattle.truth.proofs.Laws.{impossible, is_true}
use Rattle.refusal.specs.declared.Refusal.{Refusal}
use Rattle.refusal.specs.declared.Refusal.TheVariants.{BrokenState, Item, SumFull, TooShort}
use Rattle.sample_items.specs.declared.Items.{Items}
use Rattle.sample_channels.specs.declared.Moment.{Moment}
use Rattle.sample_items.specs.Limits.{step_in_range}
use Rattle.crossing_places.specs.Reading.{groups}
use Rattle.record_state.specs.Answers as records
use Rattle.record_state.specs.State as recording
use Rattle.record_state.specs.State.{state_of, too_short}
use Rattle.record_state.specs.declared.Record.{Record}
use Rattle.record_feed.specs.Pieces.{AllTaken, Piece, joined, samples_of}
use Rattle.record_feed.proofs.Theorems.{pieces_whole}
use Rattle.binomial_sum.specs.Answers.{adding, opened}
use Rattle.binomial_sum.specs.Records.{AllAdded, sum_of}
use Rattle.binomial_sum.specs.State.{empty, grown, sound, timed, would_pass}
use Rattle.binomial_sum.specs.declared.Sum.{Sum}
use Rattle.binomial_sum.proofs.Answered as answered
use Rattle.binomial_sum.proofs.Records.{any_order, grown_by_adding, none_timed}
use Rattle.binomial_bounds.specs.Answers.{bounding, rating, recorded}
use Rattle.binomial_bounds.specs.Bounds.{bounds_of, rates_of}
use Rattle.binomial_bounds.specs.HalfWidth.{HalfWidth, half_width}
use Rattle.root.specs.HalfWidth as root
use Rattle.root.specs.Root.{first_from}
use Rattle.root.proofs.First.{only_least}
use Rattle.root.proofs.HalfWidth.{all_failures, half_width_lem, no_failure}
use Rattle.binomial_bounds.proofs.Order.{ordered}
use Rattle.demands.proofs.Demand1.{Decides, Test, ◌gives◌, decide, decided}
use Rattle.std.specs.Prelude.{Some, None, Ok, Err}
use Rattle.truth.proofs.Answers.{same_err}

-- ---- the statement
-- 8 for the sum and for the record, 4, 1 with item 1 for another step, 11
abbrev pub add_tests : Sum → Record → List Test
add_tests s r =
    not (sound s) gives BrokenState
    ∷ (not (recording.sound r) gives BrokenState
    ∷ (too_short r gives TooShort
    ∷ (not (eqb r.items.step s.step) gives Item 1
    ∷ (would_pass s r.groups (timed r) gives SumFull
    ∷ []))))

abbrev pub broken_test : Sum → List Test
broken_test s = not (sound s) gives BrokenState ∷ []

pub record Request7 : Type 0 where
  -- the order of refusals
  pub opening : (D : ℕ) → Decides Err (not (step_in_range D) gives Item 1 ∷ []) (Ok (empty D)) (opened D)
  pub add : (s : Sum) (r : Record) → Decides Err (add_tests s r) (Ok (grown s r.groups (timed r))) (adding s r)
  pub bounds : (s : Sum) → Decides Err (broken_test s) (Ok (recorded s, bounds_of s)) (bounding s)
  pub rates : (s : Sum) → Decides Err (broken_test s) (Ok (cond (recorded s) (Some (rates_of s)) None)) (rating s)
  -- a sum that is handed out is never refused as broken
  pub opened_sound : (D : ℕ) (s : Sum) → opened D ≡ Ok s → sound s ≡ true
  pub added_sound : (s : Sum) (r : Record) (t : Sum) → adding s r ≡ Ok t → sound t ≡ true
  -- N and P over the list of the records; neighbours may change places, and by such changes any order comes from any
  -- other
  pub totals : (D : ℕ) (s t : Sum) (rs : List Record) → opened D ≡ Ok s → AllAdded s rs t → t ≡ sum_of D rs
  pub in_any_order : (before : List Record) (a b : Record) (after : List Record) (s t : Sum) → AllAdded s (before ++ (a ∷ (b ∷ after))) t → AllAdded s (before ++ (b ∷ (a ∷ after))) t
  -- the pieces rule: what is answered for a record in pieces is answered for the whole one, refusals too; and what that
  -- adds
  pub pieces : (items : Items) (s t : Record) (ps : List Piece) (x : Sum)
      → records.opened items ≡ Ok s → AllTaken s ps t → adding x t ≡ adding x (state_of items (samples_of (joined ps)))
  pub adds : (items : Items) (xs : List Moment) (x y : Sum) → adding x (state_of items xs) ≡ Ok y
      → y ≡ grown x (length (groups items xs)) (length xs - items.ramp)
  -- the half-width is the least such number, and the only one; it is 0 without a failure and where every sample failed
  pub least : (N P : ℕ) → HalfWidth N P (half_width N P)
  pub only : (N P m n : ℕ) → HalfWidth N P m → HalfWidth N P n → m ≡ n
  -- 1,960² by cases: 1 failure in 2 samples, 1 in 10,000, 4 in 100
  pub widths : half_width 1 2 ∷ half_width 1 10000 ∷ half_width 4 100 ∷ [] ≡ 1386 ∷ 1960 ∷ 3841 ∷ []
  pub no_failure : (P : ℕ) → half_width 0 P ≡ 0
  pub all_failures : (N : ℕ) → half_width N N ≡ 0
  pub in_order : (s : Sum) → ((bounds_of s).lower ≤ (bounds_of s).estimate) × ((bounds_of s).estimate ≤ (bounds_of s).upper)
  -- "no record" of a sum just opened, whose bounds are 0, and of no sum that a record was added to
  pub no_record_lem : (D : ℕ) (s : Sum) → opened D ≡ Ok s → (recorded s ≡ false) × ((bounds_of s).upper ≡ 0)
  pub a_record : (s t : Sum) (r : Record) (rs : List Record) → AllAdded s (r ∷ rs) t → recorded t ≡ true

-- ---- the proof
swapped : {A : Type 0} (b : Bool) (x y : A) → cond b x y ≡ cond (not b) y x
swapped true x y = refl
swapped false x y = refl

joined_adds : (items : Items) (xs : List Moment) (x y : Sum) → adding x (state_of items xs) ≡ Ok y
    → y ≡ grown x (length (groups items xs)) (length xs - items.ramp)
unfolding state_of
joined_adds items xs x y e = (answered.added_from x (state_of items xs) y e).after

empty_record : (D : ℕ) (s : Sum) → opened D ≡ Ok s → (recorded s ≡ false) × ((bounds_of s).upper ≡ 0)
empty_record D s e = rw (answered.opened_from D s e).1 (refl, omega (arith, no_failure 1960 0))

some_record : (s t : Sum) (r : Record) (rs : List Record) → AllAdded s (r ∷ rs) t → recorded t ≡ true
some_record s t r rs a = rw (ne_eqb t.samples 0 (λ z. let e = none_timed a z in let f : ◌≡◌ {A = ℕ} 1 0 = ap kind e in omega arith))
  where
    kind : List Record → ℕ
    kind [] = 0
    kind (r ∷ rs) = 1

widths : half_width 1 2 ∷ half_width 1 10000 ∷ half_width 4 100 ∷ [] ≡ 1386 ∷ 1960 ∷ 3841 ∷ []
unfolding root.half_width first_from
widths = refl

pub request_7 : Request7
unfolding decide adding bounding rating
request_7 =
    record {
      opening = λ D. decided Err (Ok (empty D)) (λ r s. same_err) (λ r e. impossible (cc)) _ (opened D) (swapped (step_in_range D) _ _);
      add = λ s r. decided Err (Ok (grown s r.groups (timed r))) (λ r s. same_err) (λ f e. impossible (cc)) (add_tests s r) (adding s r) refl;
      bounds = λ s. decided Err (Ok (recorded s, bounds_of s)) (λ r s. same_err) (λ r e. impossible (cc)) (broken_test s) (bounding s) (swapped (sound s) _ _);
      rates = λ s. decided Err (Ok (cond (recorded s) (Some (rates_of s)) None)) (λ r s. same_err) (λ r e. impossible (cc)) (broken_test s) (rating s) (swapped (sound s) _ _);
      opened_sound = λ D s e. is_true (sound s) (answered.opened_sound D s e);
      added_sound = λ s r t e. is_true (sound t) (answered.adding_sound s r t e);
      totals = grown_by_adding;
      in_any_order = λ before a b after s t. any_order before a b after;
      pieces = λ items s t ps x e f. ap (adding x) (pieces_whole items s e f);
      adds = joined_adds;
      least = half_width_lem 1960;
      only = λ N P m n. only_least;
      widths = widths;
      no_failure = no_failure 1960;
      all_failures = all_failures 1960;
      in_order = ordered;
      no_record_lem = empty_record;
      a_record = some_record;
    }
