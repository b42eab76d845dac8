-- Both files at their end come to what both whole texts come to: where all lines are right (`end_right`), and where one
-- is wrong (`end_wrong_roll`, `end_wrong_acceleration`). And what is said of two texts is what is said of what they come
-- to (`said_end_lem`). ls are the lines of the roll, ms those of the acceleration. Assumes nothing.
use Prim.Native.Nat.{ℕ, ◌+◌, ◌-◌, ◌≤◌, ◌<◌}
use mathlib.Core.Path.{◌≡◌, refl, sym, ap, ◌∙◌}
use mathlib.Core.Bool.{Bool, true, false, cond, not, ◌&&◌, ◌||◌}
use mathlib.Core.List.{List, []}
use native.Mathlib.Nat.{zero-add}
use native.Mathlib.Omega.{arith}
use lib.Dec.{eqb, leb, ltb}
use lib.IntN.{ℤ}
use lib.ListN.{length}
use borrow.Author.Tests.{eq-eqb, eqb-true, eqb-false, ne_eqb, lt-ltb, le-ltb, le-leb, lt-leb, ltb-true, ltb-false}
use Rattle.truth.proofs.Cases.{by_test, by_order}
use Rattle.truth.proofs.Laws.{true≢false}
use Rattle.refusal.specs.declared.Refusal.TheVariants.{CommaLine, Sample, TooLong, TooShort, BrokenState, Unequal, Acceleration}
use Rattle.sample_channels.specs.Channels.{has_bad}
use Rattle.sample_items.specs.declared.Items.{Items}
use Rattle.sample_items.specs.Limits.{item_outside, most_samples}
use Rattle.sample_range.specs.Range.{first_bad}
use Rattle.sample_range.proofs.Bad.{bad_within}
use Rattle.crossing_places.specs.Reading.{too_few}
use Rattle.record_state.specs.declared.Record.{Record}
use Rattle.record_state.specs.State.{state_of, sound}
use Rattle.record_step.proofs.Whole.{state}
use Rattle.record_feed.specs.Answers.{fed}
use Rattle.record_end.specs.declared.RecordResult.{RecordResult}
use Rattle.record_end.specs.Result.{ending, result_of}
use Rattle.comma_line.specs.Text.{first_wrong, samples_of}
use Rattle.comma_stream.specs.declared.Follow.{Follow}
use Rattle.comma_stream.specs.Follow.{after_lines}
use Rattle.comma_count.specs.Line.{counted, refused_at, result_for}
use Rattle.comma_count.specs.Taking.{fresh, said_ended}
use Rattle.comma_count.proofs.Joining.{held_same}
use Rattle.comma_count.proofs.Whole.{start, start_sound}
use Rattle.comma_pair.specs.Line.{any_wrong, wrong_roll, bad_roll, both_channels, end_of_both, pair_said_of_lines}
use Rattle.comma_pair.specs.Taking.{onward, held_of, watched, stopped, roll_outside, end_by, end_of, said_end}
use Rattle.comma_pair.proofs.Front.{samples_many}
use Rattle.comma_pair.proofs.Joining.{Good, fed_long, fed_some, many, still_sound}
use Rattle.comma_pair.specs.declared.PairFault.TheVariants.{Plain, AtLine}
use Rattle.refusal.specs.declared.Refusal.{Refusal}
use Rattle.comma_pair.specs.declared.PairFault.{PairFault}
use Rattle.std.specs.Prelude.{Result, Ok, Err}

-- what is said of a sound record
ended_is : (r : Record) (R n : ℕ) (x : RecordResult) → sound r ≡ true → r.items.ramp ≡ R → r.n ≡ n → result_of r ≡ x → said_ended r.n (ending r) ≡ cond (too_few R n) (refused_at 0 TooShort) (counted n x)
unfolding ending
ended_is r R n x s e f g =
    ap (λ y. said_ended r.n (cond (not y) (Err BrokenState) (cond (too_few r.items.ramp r.n) (Err TooShort) (Ok (result_of r))))) s
    ∙ ap (λ y. said_ended r.n (cond (too_few r.items.ramp r.n) (Err TooShort) (Ok y))) g
    ∙ by_test (too_few r.items.ramp r.n)
    (λ t. rw (t, ← e, ← f, t))
    (λ t. rw (t, ← e, ← f, t))

-- the line of the first sample out of range
outside_is : (D : ℕ) (lines : List (List ℕ)) → (after_lines (fresh D) lines).outside ≡ cond (ltb (first_bad (samples_of lines)) (length lines)) (first_bad (samples_of lines) + 1) 0
unfolding after_lines
outside_is D lines = rw zero-add

lines_is : (D : ℕ) (lines : List (List ℕ)) → (after_lines (fresh D) lines).lines ≡ length lines
unfolding after_lines
lines_is D lines = zero-add (length lines)

module _ (i : Items) (ok : item_outside i ≡ 0) where
  abbrev item_ok : eqb (item_outside i) 0 ≡ true
  item_ok = eq-eqb (item_outside i) 0 ok

  -- ---- a wrong line
  module _ (f g : Follow) (ls ms : List (List ℕ)) (k : ℕ) where
    pub end_wrong_roll : first_wrong i.step 0 ls ≡ k → k < length ls → (not (any_wrong i.step ms) || leb k (first_wrong i.step 0 ms)) ≡ true
        → end_of (stopped f g (Err (CommaLine (k + 1))) 1) ≡ end_of_both i ls ms
    unfolding end_of end_of_both
    end_wrong_roll e h l = rw (item_ok, e, lt-ltb k (length ls) h, l)

    pub end_wrong_acceleration : first_wrong i.step 0 ms ≡ k → k < length ms → wrong_roll i.step ls ms ≡ false
        → end_of (stopped f g (Err (CommaLine (k + 1))) 2) ≡ end_of_both i ls ms
    unfolding end_of end_of_both
    end_wrong_acceleration e h l = rw (item_ok, l, e, lt-ltb k (length ms) h)

  -- ---- samples in range, as many of both, and not too many
  module _ (ls ms : List (List ℕ)) (same : length ls ≡ length ms) (good : length ls ≤ first_bad (samples_of ls)) (good₂ : length ms ≤ first_bad (samples_of ms)) where
    abbrev xs : List ℤ
    xs = samples_of ls

    abbrev ys : List ℤ
    ys = samples_of ms

    all : Good xs ys
    all =
        record {
          equal = samples_many ls ∙ same ∙ sym (samples_many ms);
          roll = omega (arith, bad_within xs, samples_many ls);
          acceleration = omega (arith, bad_within ys, samples_many ms);
        }

    none_yet : (start i).n ≡ 0
    unfolding state_of
    none_yet = refl

    most_is : most_samples (start i).items.step (start i).items.ramp ≡ most_samples i.step i.ramp
    unfolding state_of
    most_is = refl

    -- what was held is what was there
    fed_is : onward (Ok (start i)) (held_of ls) (held_of ms) ≡ fed (start i) xs ys
    fed_is = ap (λ l. fed (start i) l (held_of ms)) (held_same xs all.roll) ∙ ap (fed (start i) xs) (held_same ys all.acceleration)

    too_long : most_samples i.step i.ramp < length ls → fed (start i) xs ys ≡ Err TooLong
    too_long h = fed_long (start i) xs ys all (start_sound i ok) (omega (arith, none_yet, most_is, samples_many ls))

    module _ (h : length ls ≤ most_samples i.step i.ramp) where
      abbrev whole : Record
      whole = state_of i (both_channels ls ms)

      room : (start i).n + length xs ≤ most_samples (start i).items.step (start i).items.ramp
      room = omega (arith, none_yet, most_is, samples_many ls)

      taken : fed (start i) xs ys ≡ Ok whole
      taken = fed_some (start i) xs ys all (start_sound i ok) room ∙ ap Ok (state i (both_channels ls ms))

      whole_sound : sound whole ≡ true
      whole_sound = ap sound (sym (state i (both_channels ls ms))) ∙ still_sound (start i) xs ys all (start_sound i ok) room

      n-is : whole.n ≡ length ls
      unfolding state_of
      n-is = many (start i) xs ys all (start_sound i ok) ∙ samples_many ls

      ramp_is : whole.items.ramp ≡ i.ramp
      unfolding state_of
      ramp_is = refl

      result-is : result_of whole ≡ result_for i (both_channels ls ms)
      unfolding state_of result_for
      result-is = refl

      whole_said : said_end (Ok whole) ≡ cond (too_few i.ramp (length ls)) (refused_at 0 TooShort) (counted (length ls) (result_for i (both_channels ls ms)))
      whole_said = ended_is whole i.ramp (length ls) (result_for i (both_channels ls ms)) whole_sound ramp_is n-is result-is

  -- ---- all lines right
  module _ (ls ms : List (List ℕ)) (right : first_wrong i.step 0 ls ≡ length ls) (right₂ : first_wrong i.step 0 ms ≡ length ms) (a : Result Record Refusal)
      (says : length ls ≡ length ms → a ≡ onward (Ok (start i)) (held_of ls) (held_of ms)) where
    abbrev fx : ℕ
    fx = first_bad (samples_of ls)

    abbrev fy : ℕ
    fy = first_bad (samples_of ms)

    abbrev W : Result Record PairFault
    W = end_of (watched (after_lines (fresh i.step) ls) (after_lines (fresh i.step) ms) a)

    -- the tests that are left, on both sides
    Rest : Result Record PairFault
    Rest =
        cond (not (eqb (length ls) (length ms))) (Err (Plain Unequal))
        (cond (bad_roll (samples_of ls) (samples_of ms)) (Err (AtLine (fx + 1) (Sample fx) 1))
        (cond (has_bad (samples_of ms)) (Err (AtLine (fy + 1) (Acceleration fy) 2))
        (cond (ltb (most_samples i.step i.ramp) (length ls)) (Err (Plain TooLong))
        (Ok (state_of i (both_channels ls ms))))))

    rest : end_of_both i ls ms ≡ Rest
    unfolding end_of_both Rest
    rest = rw (item_ok, right, right₂, le-ltb (length ls) (length ls) (omega arith), le-ltb (length ms) (length ms) (omega arith))

    -- in numbers: F and G are the lines of the first samples out of range
    Now : ℕ → ℕ → ℕ → ℕ → Result Record PairFault
    Now n m F G =
        cond (not (eqb n m)) (Err (Plain Unequal))
        (cond (not (eqb F 0) && (eqb G 0 || leb F G)) (Err (AtLine F (Sample (F - 1)) 1))
        (cond (not (eqb G 0)) (Err (AtLine G (Acceleration (G - 1)) 2))
        (end_by 0 a)))

    now : W ≡ Now (length ls) (length ms) (cond (ltb fx (length ls)) (fx + 1) 0) (cond (ltb fy (length ms)) (fy + 1) 0)
    unfolding end_of Now
    now = rw (lines_is i.step ls, lines_is i.step ms, outside_is i.step ls, outside_is i.step ms)

    unequal : (length ls ≡ length ms → ⊥) → W ≡ end_of_both i ls ms
    unfolding Now Rest
    unequal d = now ∙ rw (ne_eqb (length ls) (length ms) d) (sym (rest ∙ rw (ne_eqb (length ls) (length ms) d)))

    module _ (same : length ls ≡ length ms) where
      abbrev eq : eqb (length ls) (length ms) ≡ true
      eq = eq-eqb (length ls) (length ms) same

      back : (n : ℕ) → n + 1 - 1 ≡ n
      back n = omega arith

      -- the acceleration's sample is the lower
      acceleration_lower : fx < length ls → fy < fx → W ≡ end_of_both i ls ms
      unfolding Now Rest
      acceleration_lower bx l =
          now
          ∙ rw (
            eq,
            lt-ltb fx (length ls) bx,
            lt-ltb fy (length ms) (omega arith),
            ne_eqb (fx + 1) 0 (λ z. omega arith),
            ne_eqb (fy + 1) 0 (λ z. omega arith),
            lt-leb (fx + 1) (fy + 1) (omega arith),
            back fy,
          )
          (sym (rest ∙ rw (eq, lt-ltb fx (length (samples_of ls)) (omega (arith, samples_many ls)), lt-leb fx fy l, lt-ltb fy (length (samples_of ms)) (omega (arith, samples_many ms)))))

      -- the roll's is
      roll_def : fx < length ls → fx ≤ fy → end_of_both i ls ms ≡ Err (AtLine (fx + 1) (Sample fx) 1)
      unfolding Rest
      roll_def bx l = rest ∙ rw (eq, lt-ltb fx (length (samples_of ls)) (omega (arith, samples_many ls)), le-leb fx fy l)

      roll_lower : fx < length ls → fx ≤ fy → fy < length ms → W ≡ end_of_both i ls ms
      unfolding Now
      roll_lower bx l by =
          now
          ∙ rw (
            eq,
            lt-ltb fx (length ls) bx,
            lt-ltb fy (length ms) by,
            ne_eqb (fx + 1) 0 (λ z. omega arith),
            ne_eqb (fy + 1) 0 (λ z. omega arith),
            le-leb (fx + 1) (fy + 1) (omega arith),
            back fx,
          )
          (sym (roll_def bx l))

      roll_only : fx < length ls → length ms ≤ fy → W ≡ end_of_both i ls ms
      unfolding Now
      roll_only bx gy =
          now
          ∙ rw (eq, lt-ltb fx (length ls) bx, le-ltb fy (length ms) gy, ne_eqb (fx + 1) 0 (λ z. omega arith), back fx)
          (sym (roll_def bx (omega (arith, same))))

      acceleration_only : length ls ≤ fx → fy < length ms → W ≡ end_of_both i ls ms
      unfolding Now Rest
      acceleration_only gx by =
          now
          ∙ rw (eq, le-ltb fx (length ls) gx, lt-ltb fy (length ms) by, ne_eqb (fy + 1) 0 (λ z. omega arith), back fy)
          (sym (rest ∙ rw (eq, le-ltb fx (length (samples_of ls)) (omega (arith, samples_many ls)), lt-ltb fy (length (samples_of ms)) (omega (arith, samples_many ms)))))

      -- none is out of range
      neither : length ls ≤ fx → length ms ≤ fy → W ≡ end_of_both i ls ms
      unfolding Now Rest
      neither gx gy =
          let most = most_samples i.step i.ramp in
          let answer : a ≡ fed (start i) (samples_of ls) (samples_of ms) = says same ∙ fed_is ls ms same gx gy in
          now
          ∙ rw (eq, le-ltb fx (length ls) gx, le-ltb fy (length ms) gy)
          (by_order most (length ls)
          (λ h.
          ap (end_by 0) (answer ∙ too_long ls ms same gx gy h)
          ∙ sym (rest ∙ rw (eq, le-ltb fx (length (samples_of ls)) (omega (arith, samples_many ls)), le-ltb fy (length (samples_of ms)) (omega (arith, samples_many ms)), lt-ltb most (length ls) h)))
          (λ h.
          ap (end_by 0) (answer ∙ taken ls ms same gx gy h)
          ∙ sym (rest ∙ rw (eq, le-ltb fx (length (samples_of ls)) (omega (arith, samples_many ls)), le-ltb fy (length (samples_of ms)) (omega (arith, samples_many ms)), le-ltb most (length ls) h))))

      equal : W ≡ end_of_both i ls ms
      equal =
          by_order fx (length ls)
          (λ bx. by_order fy fx (acceleration_lower bx) (λ l. by_order fy (length ms) (roll_lower bx l) (roll_only bx)))
          (λ gx. by_order fy (length ms) (acceleration_only gx) (neither gx))

    pub end_right : W ≡ end_of_both i ls ms
    end_right =
        by_test (eqb (length ls) (length ms))
        (λ e. equal (eqb-true (length ls) (length ms) e))
        (λ e. unequal (eqb-false (length ls) (length ms) e))

-- ---- the line is that of what the lines come to
pub said_end_lem : (i : Items) (ls ms : List (List ℕ)) → said_end (end_of_both i ls ms) ≡ pair_said_of_lines i ls ms
unfolding end_of_both pair_said_of_lines
said_end_lem i ls ms =
    let most = most_samples i.step i.ramp in
    by_test (eqb (item_outside i) 0)
    (λ e.
    by_test (wrong_roll i.step ls ms)
    (λ wr. rw (e, wr))
    (λ wr.
    by_test (any_wrong i.step ms)
    (λ wa. rw (e, wr, wa))
    (λ wa.
    by_test (eqb (length ls) (length ms))
    (λ eq.
    by_test (bad_roll (samples_of ls) (samples_of ms))
    (λ br. rw (e, wr, wa, eq, br))
    (λ br.
    by_test (has_bad (samples_of ms))
    (λ ba. rw (e, wr, wa, eq, br, ba))
    (λ ba.
    by_order most (length ls)
    (λ h. rw (e, wr, wa, eq, br, ba, lt-ltb most (length ls) h))
    (λ h.
    let same = eqb-true (length ls) (length ms) eq in
    let g = goods ls ms same br ba in
    rw (e, wr, wa, eq, br, ba, le-ltb most (length ls) h)
    (whole_said i (eqb-true (item_outside i) 0 e) ls ms same g.0 g.1 h)))))
    (λ eq. rw (e, wr, wa, eq)))))
    (λ e. rw e)
  where
    -- no sample is out of range
    goods : (ls ms : List (List ℕ)) → length ls ≡ length ms → bad_roll (samples_of ls) (samples_of ms) ≡ false → has_bad (samples_of ms) ≡ false
        → (length ls ≤ first_bad (samples_of ls)) × (length ms ≤ first_bad (samples_of ms))
    goods ls ms same br ba =
        let gy = ltb-false (first_bad (samples_of ms)) (length (samples_of ms)) ba in
        by_order (first_bad (samples_of ls)) (length ls)
        (λ bx. absurd (true≢false (rw (
          lt-ltb (first_bad (samples_of ls)) (length (samples_of ls))
              (omega (arith, samples_many ls)),
          le-leb (first_bad (samples_of ls)) (first_bad (samples_of ms))
              (omega (arith, samples_many ms)),
        ) at br)))
        (λ gx. (gx, omega (arith, samples_many ms)))
