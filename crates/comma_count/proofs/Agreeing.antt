-- Refusal 8 is for no count that was handed out: lines and answer agree when a file is opened (`opening_agrees`), and
-- where they agree, they do so after a piece (`taking_agrees`) and are not answered by 8 (`never_eight`). Feeding keeps
-- a record's step and counts its samples (`fed_agrees`). Assumes nothing.
use Prim.Native.Nat.{ℕ, ◌+◌, ◌*◌, ◌-◌, ◌^◌, ◌≤◌, ◌<◌}
use mathlib.Core.Path.{◌≡◌, refl, sym, ap, subst, ◌∙◌}
use mathlib.Core.Bool.{Bool, true, false, ◌&&◌}
use mathlib.Core.List.{List, [], ◌∷◌, foldl}
use mathlib.Core.Logic.{◌⊎◌, inl, inr}
use native.Mathlib.Nat.{mul-le-mul_left}
use native.Mathlib.Omega.{arith}
use lib.Dec.{eqb, ltb}
use lib.IntN.{ℤ}
use lib.ListN.{length, take, drop, length-map, length-take}
use lib.Seq.{take-length}
use borrow.Author.Tests.{eq-eqb, eqb-true, le-leb, ltb-true}
use Rattle.truth.proofs.Cases.{by_test, by_order}
use Rattle.truth.proofs.Laws.{and-true, both_true, impossible}
use Rattle.refusal.specs.declared.Refusal.TheVariants.{TooLong, BrokenState}
use Rattle.sample_channels.specs.declared.Moment.{Moment}
use Rattle.sample_channels.specs.Channels.{moments}
use Rattle.sample_channels.proofs.Moments.{moments_length}
use Rattle.sample_channels.proofs.Range.{all_in, all_good}
use Rattle.sample_items.specs.declared.Items.{Items}
use Rattle.sample_items.specs.Limits.{step_in_range, item_outside, most_samples}
use Rattle.sample_items.proofs.Ranges.{low}
use Rattle.sample_range.specs.Range.{first_bad}
use Rattle.record_state.specs.declared.Record.{Record}
use Rattle.record_state.specs.State.{state_of, sound}
use Rattle.record_state.specs.Answers.{opened}
use Rattle.record_state.proofs.Relations.{kept_from}
use Rattle.record_state.proofs.Bounds.{small}
use Rattle.record_step.specs.Step.{crosses, stepped}
use Rattle.record_feed.specs.Answers.{fed}
use Rattle.record_feed.proofs.Fed.{fed_full, fed_taken, not_broken}
use Rattle.record_feed.proofs.Cutting.{run_n, run_sound}
use Rattle.degrees.specs.Degrees.{sample_of}
use Rattle.decimal.specs.Decimal.{longest}
use Rattle.comma_line.specs.Line.{roll}
use Rattle.comma_line.specs.Text.{samples_of}
use Rattle.comma_stream.specs.declared.Follow.{Follow}
use Rattle.comma_stream.specs.declared.Rest.{Rest}
use Rattle.comma_stream.specs.declared.Rest.TheVariants.{Waits, Over, Wrong}
use Rattle.comma_stream.specs.Follow.{bytes_of, right_lines, after_lines, resting}
use Rattle.comma_stream.proofs.Pieces.{Rights}
use Rattle.comma_stream.proofs.Whole.{lines_few}
use Rattle.comma_count.specs.declared.Counting.{Counting}
use Rattle.comma_count.specs.Line.{zeros}
use Rattle.comma_count.specs.Taking.{is_refused, fresh, opening, onward, going, answering, with_lines, rested, sound_follow, of_lines, agrees, taking}
use Rattle.comma_count.proofs.Zeros.{zeros_length, zeros_good}
use Rattle.comma_count.proofs.Joining.{none_outside}
use Rattle.comma_count.proofs.Piece.{sound_step, sound_lines, sound_noted}
use Rattle.comma_count.proofs.Whole.{start, standing, opens, start_sound, step_ok}
use Rattle.refusal.specs.declared.Refusal.{Refusal}
use Rattle.std.specs.Prelude.{Result, Ok, Err}

-- ---- where a reading stands after right lines: their times have 12 digits, and a line that is noted is one of them
pub fresh_stands : (D : ℕ) → step_in_range D ≡ true → sound_follow (fresh D) ≡ true
fresh_stands D step = both_true step refl

noted : (f : Follow) (lines : List (List ℕ)) → f.outside ≤ f.lines → (after_lines f lines).outside ≤ (after_lines f lines).lines
unfolding after_lines
noted f lines h =
    by_test (eqb f.outside 0 && ltb (first_bad (samples_of lines)) (length lines))
    (λ b. rw b (omega (arith, ltb-true (first_bad (samples_of lines)) (length lines) (and-true (eqb f.outside 0) _ b).1)))
    (λ b. rw b (omega arith))

module _ (f : Follow) (s : sound_follow f ≡ true) (text : List ℕ) where
  right_few : length (right_lines f text) ≤ 10 ^ longest - f.lines * f.step
  unfolding right_lines
  right_few = lines_few (length text) f.step (f.lines * f.step) text (low 1 10000 f.step (sound_step f s)) (omega arith)

  few_after : (k : ℕ) → (after_lines f (take k (right_lines f text))).lines ≤ 1000000000000
  unfolding after_lines
  few_after k =
      omega (
        arith,
        sound_lines f s,
        right_few,
        length-take k (right_lines f text),
        mul-le-mul_left {m = 1} {n = f.step} f.lines (low 1 10000 f.step (sound_step f s)),
      )

  pub stands_after : (k : ℕ) → sound_follow (after_lines f (take k (right_lines f text))) ≡ true
  unfolding after_lines
  stands_after k =
      let g = after_lines f (take k (right_lines f text)) in
      both_true (sound_step f s) (both_true (le-leb g.lines 1000000000000 (few_after k)) (le-leb g.outside g.lines (noted f (take k (right_lines f text)) (sound_noted f s))))

  pub stands_on : sound_follow (after_lines f (right_lines f text)) ≡ true
  stands_on = subst (λ l. sound_follow (after_lines f l) ≡ true) (take-length (right_lines f text)) (stands_after (length (right_lines f text)))

-- ---- a record of its lines, in facts
record Of (f : Follow) (r : Record) : Type 0 where
  pub whole : sound r ≡ true
  pub step : r.items.step ≡ f.step
  pub number : r.n ≡ f.lines
  pub none : f.outside ≡ 0

of_lines_lem : (f : Follow) (r : Record) → of_lines f r ≡ true → Of f r
of_lines_lem f r e =
    let a = and-true (sound r) _ e in
    let b = and-true (eqb r.items.step f.step) _ a.1 in
    let d = and-true (eqb r.n f.lines) (eqb f.outside 0) b.1 in
    record { whole = a.0; step = eqb-true r.items.step f.step b.0; number = eqb-true r.n f.lines d.0; none = eqb-true f.outside 0 d.1 }

of_back : {f : Follow} {r : Record} → Of f r → of_lines f r ≡ true
of_back {f} {r} o =
    both_true o.whole (both_true (eq-eqb r.items.step f.step o.step) (both_true (eq-eqb r.n f.lines o.number) (eq-eqb f.outside 0 o.none)))

-- its lines lead where a reading may stand: no record has more than 11,000,001 samples
record_stands : (f : Follow) (r : Record) → Of f r → sound_follow f ≡ true
record_stands f r o =
    let k = kept_from r o.whole in
    both_true (ap step_in_range (sym o.step) ∙ step_ok r.items k.outside)
    (both_true (le-leb f.lines 1000000000000 (omega (arith, o.number, k.length, small k))) (le-leb f.outside f.lines (omega (arith, o.none))))

pub stands : (f : Follow) (a : Result Record Refusal) → agrees f a ≡ true → sound_follow f ≡ true
stands f (Ok r) e = record_stands f r (of_lines_lem f r e)
stands f (Err q) e = e

-- ---- FEEDING keeps the step and counts the samples
stepped_step : (r : Record) (x : Moment) → (stepped r x).items.step ≡ r.items.step
unfolding stepped
stepped_step r x = by_test (crosses r x) (λ e. rw e) (λ e. rw e)

run_step : (r : Record) (p : List Moment) → (foldl stepped r p).items.step ≡ r.items.step
run_step r [] = refl
run_step r (x ∷ p) = run_step (stepped r x) p ∙ stepped_step r x

-- from a record of the lines f, samples in range of lines more, which lead to g: it is of all, or they are too many
module _ (f : Follow) (r : Record) (ok : of_lines f r ≡ true) (xs ys : List ℤ) (equal : length xs ≡ length ys) (good : first_bad xs ≡ length xs) (good₂ : first_bad ys ≡ length ys) where
  abbrev o : Of f r
  o = of_lines_lem f r ok

  many : length (moments xs ys) ≡ length xs
  many = moments_length xs ys equal

  fed_many : most_samples r.items.step r.items.ramp < r.n + length xs → fed r xs ys ≡ Err TooLong
  fed_many h = fed_full r xs ys o.whole equal h ∙ rw (all_good xs ys good good₂)

  pub fed_agrees : (g : Follow) → g.step ≡ f.step → g.lines ≡ f.lines + length xs → g.outside ≡ 0 → sound_follow g ≡ true → agrees g (fed r xs ys) ≡ true
  fed_agrees g step lines none well =
      by_order (most_samples r.items.step r.items.ramp) (r.n + length xs)
      (λ h. ap (agrees g) (fed_many h) ∙ well)
      (λ h.
      ap (agrees g) (fed_taken r xs ys o.whole equal good good₂ h)
      ∙ of_back (record {
        whole = run_sound r (moments xs ys) o.whole (all_in xs ys good good₂) (omega (arith, many));
        step = run_step r (moments xs ys) ∙ o.step ∙ sym step;
        number = omega (arith, run_n r (moments xs ys), many, o.number, lines);
        none = none;
      }))

-- ---- lines more: where lines and answer agree, they do so after the right lines of a text
module _ (f : Follow) (text : List ℕ) where
  abbrev lines : List (List ℕ)
  lines = right_lines f text

  abbrev xs : List ℤ
  xs = samples_of lines

  abbrev g : Follow
  g = after_lines f lines

  xs_many : length xs ≡ length lines
  xs_many = length-map lines (λ line. sample_of (roll line))

  onward_agrees : (a : Result Record Refusal) → agrees f a ≡ true → sound_follow g ≡ true → g.outside ≡ 0 → agrees g (onward a xs) ≡ true
  unfolding after_lines
  onward_agrees (Ok r) e well none =
      fed_agrees f r e xs (zeros xs) (sym (zeros_length xs)) (none_outside f lines none).1 (zeros_good xs) g refl (omega (arith, xs_many)) none well
  onward_agrees (Err q) e well none = well

  pub lines_agree : (a : Result Record Refusal) → agrees f a ≡ true → agrees g (answering g a xs) ≡ true
  unfolding answering
  lines_agree a e =
      let well = stands_on f (stands f a e) text in
      by_test (eqb g.outside 0)
      (λ o. rw o (onward_agrees a e well (eqb-true g.outside 0 o)))
      (λ o. rw o well)

-- ---- WHAT IS HANDED OUT is over or agrees
abbrev pub Agrees : Counting → Type 0
Agrees c = (c.over ≡ true) ⊎ (agrees c.follow c.answer ≡ true)

pub start_of : (i : Items) → item_outside i ≡ 0 → of_lines (fresh i.step) (start i) ≡ true
unfolding state_of
start_of i ok = of_back {f = fresh i.step} {r = start i} (record { whole = start_sound i ok; step = refl; number = refl; none = refl })

refused_item : (i : Items) → eqb (item_outside i) 0 ≡ false → is_refused (opened i) ≡ true
unfolding opened
refused_item i e = rw e

pub opening_agrees : (i : Items) → Agrees (opening i)
unfolding opening
opening_agrees i =
    by_test (eqb (item_outside i) 0)
    (λ e. let ok = eqb-true (item_outside i) 0 e in inr (ap (agrees (fresh i.step)) (opens i ok) ∙ start_of i ok))
    (λ e. inl (refused_item i e))

rested_agrees : (q : Rest) (f : Follow) (a : Result Record Refusal) (at all : ℕ) → agrees f a ≡ true → Agrees (rested q (going f a) at all).counting
rested_agrees (Waits n) f a at all e = inr e
rested_agrees Over f a at all e = inr e
rested_agrees Wrong f a at all e = inl refl

pub taking_agrees : (f : Follow) (a : Result Record Refusal) (text : List ℕ) (more : Bool) → agrees f a ≡ true → Agrees (taking (going f a) text more).counting
unfolding taking
taking_agrees f a text more e =
    let lines = right_lines f text in
    rw e (rested_agrees (resting (drop (bytes_of lines) text) more) (after_lines f lines) (answering (after_lines f lines) a (samples_of lines)) (bytes_of lines) (length text) (lines_agree f text a e))

-- the count after all right lines of a text agrees
right_are : (D : ℕ) (text : List ℕ) → right_lines (fresh D) text ≡ Rights D 0 text
unfolding right_lines
right_are D text = let z : 0 * D ≡ 0 = omega arith in rw z

pub standing_agrees : (i : Items) → item_outside i ≡ 0 → (text : List ℕ) → let c = standing i (Rights i.step 0 text) in agrees c.follow c.answer ≡ true
standing_agrees i ok text =
    subst (λ us. agrees (standing i us).follow (standing i us).answer ≡ true) (right_are i.step text)
    (lines_agree (fresh i.step) text (Ok (start i)) (start_of i ok))

-- ---- what agrees is not answered by 8: a wrong line and a sample out of range are refused otherwise
onward_not : (f : Follow) (a : Result Record Refusal) → agrees f a ≡ true → (a ≡ Err BrokenState → ⊥) → (xs : List ℤ) → onward a xs ≡ Err BrokenState → ⊥
onward_not f (Ok r) ok other xs e = not_broken r xs (zeros xs) (and-true (sound r) _ ok).0 e
onward_not f (Err q) ok other xs e = other e

module _ (f : Follow) (a : Result Record Refusal) (ok : agrees f a ≡ true) (other : a ≡ Err BrokenState → ⊥) where
  answer_not : (g : Follow) (xs : List ℤ) → answering g a xs ≡ Err BrokenState → ⊥
  unfolding answering
  answer_not g xs e =
      by_test (eqb g.outside 0)
      (λ o. onward_not f a ok other xs (rw o at e))
      (λ o. impossible (cc (sym (rw o at e))))

  rested_not : (q : Rest) (lines : List (List ℕ)) (at all : ℕ) → (rested q (with_lines (going f a) lines) at all).counting.answer ≡ Err BrokenState → ⊥
  rested_not (Waits n) lines at all e = answer_not (after_lines f lines) (samples_of lines) e
  rested_not Over lines at all e = answer_not (after_lines f lines) (samples_of lines) e
  rested_not Wrong lines at all e = impossible (cc)

  pub never_eight : (text : List ℕ) (more : Bool) → (taking (going f a) text more).counting.answer ≡ Err BrokenState → ⊥
  unfolding taking
  never_eight text more e =
      let lines = right_lines f text in
      rested_not (resting (drop (bytes_of lines) text) more) lines (bytes_of lines) (length text) (rw ok at e)
