-- WHAT IS WRITTEN OF A FILE that is read twice, however either reading is cut, is what is said of its text
-- (`file_anywhere`), and of several files, one after the other, what is said of theirs (`files_anywhere`). Assumes
-- nothing.
use Prim.Native.Nat.{ℕ, ◌+◌, ◌-◌, ◌≤◌}
use mathlib.Core.Path.{◌≡◌, refl, sym, ap, subst, ◌∙◌}
use mathlib.Core.Logic.{◌⊎◌, inl, inr}
use mathlib.Core.Bool.{Bool, true, false, cond, not}
use mathlib.Core.List.{List, [], ◌∷◌, ◌++◌, map, foldl, append-nil}
use native.Mathlib.Omega.{arith}
use lib.Dec.{eqb}
use lib.IntN.{ℤ}
use lib.ListN.{length, drop, replicate, length-replicate, length-append, length-drop, length-map}
use lib.Seq.{take_all}
use borrow.Author.Tests.{eq-eqb, eqb-true}
use Rattle.truth.proofs.Cases.{by_test}
use Rattle.truth.proofs.Laws.{both_true, impossible}
use Rattle.crossing_sets.specs.Parting.{together}
use Rattle.sample_items.specs.Limits.{step_in_range, ramp_in_range, level_in_range, decorrelation_in_range, item_outside, most_in_range}
use Rattle.sample_items.proofs.Ranges.{low}
use Rattle.decimal.specs.Lines.{lines_of}
use Rattle.text.specs.Pieces.{joined}
use Rattle.sample_range.specs.Range.{first_bad}
use Rattle.sample_range.proofs.Bad.{bad_within}
use Rattle.degrees.specs.Degrees.{sample_of}
use Rattle.comma_line.specs.Line.{roll}
use Rattle.comma_line.specs.Text.{samples_of}
use Rattle.comma_count.proofs.Joining.{held_same}
use Rattle.comma_stream.specs.declared.Follow.{Follow}
use Rattle.comma_stream.specs.Follow.{held, after_lines}
use Rattle.comma_stream.proofs.Pieces.{Rights, Left}
use Rattle.comma_stream.proofs.Whole.{lines_few, all_right, one_wrong}
use Rattle.peak_groups.specs.Peaks.{handed, short}
use Rattle.peak_lines.specs.Lines.{peaks_text}
use Rattle.peak_stream.specs.declared.Surveying.{Surveying}
use Rattle.peak_stream.specs.declared.Handing.{Handing}
use Rattle.peak_stream.specs.Survey.{none, started, Small}
use Rattle.peak_stream.specs.Hands.{waiting, begun, moved, closed_by, hands_on, Pieces}
use Rattle.peak_stream.proofs.Coming.{Set, set_out, ready_set}
use Rattle.peak_stream.proofs.Over.{no_refusal}
use Rattle.peak_stream.proofs.Anywhere.{set_fold, both_long, fresh_ready}
use Rattle.comma_peaks.specs.Timed.{timed_of, blocks, handing_blocks}
use Rattle.comma_peaks.specs.Judged.{comes_to, judging, alike}
use Rattle.comma_peaks.proofs.Judges.{right_judged, wrong_judged}
use Rattle.comma_peaks.proofs.Blocks.{drop_join, counted_anywhere}
use Rattle.comma_peaks.proofs.Handed.{handed_anywhere}
use Rattle.comma_peaks.proofs.Peaks.{Fine, fine, samples_small, samples_few}
use Rattle.desk_line.specs.Said.{Said, read_digit}
use Rattle.peak_files.specs.declared.Pass.{Pass}
use Rattle.peak_files.specs.Said.{peaks_read, nothing, judged_said, file_said, then_said, files_from, items_said, searched, peaks_said, files_said}
use Rattle.peak_files.specs.Passing.{fresh, opening, again, begins, begun_by, last_by, unless_refused, judged, alike_by, same_file, finishing}
use Rattle.peak_files.specs.Reading.{Run, starting, running, finished_by, wrote, Twice, one_of, two_of, both_wrote, ReadTwice, files_wrote, AllTwice}
use Rattle.peak_files.proofs.Front.{Done, at_start}
use Rattle.peak_files.proofs.Runs.{Ran, ran, on_blocks, given_all}
use Rattle.refusal.specs.declared.Refusal.{Refusal}
use Rattle.std.specs.Prelude.{Result, Ok, Err}

-- ---- a second reading hands out what `handing_blocks` says, since nothing is refused
module _ (R : ℕ) where
  given_all_lem : (cs : List (List ℤ)) (lines : ℕ) (h : Handing) (k : ℕ) → Pieces 1024 cs → Set h (length (drop (R - lines) (together cs)))
      → given_all R lines cs (Ok (h, k)) ≡ handing_blocks R 1024 1024 lines cs (Ok (h, k))
  unfolding given_all handing_blocks
  given_all_lem [] lines h k w g = refl
  given_all_lem (x ∷ cs) lines h k w g =
      let A = drop (R - lines) x in
      let B = drop (R - (lines + length x)) (together cs) in
      let T = timed_of R lines h.reading x in
      let i : R - (lines + length x) ≡ R - lines - length x = omega arith in
      let j : length (drop (R - lines) (x ++ together cs)) ≡ length A + length B =
      ap length (drop_join (R - lines) x (together cs)) ∙ length-append A (drop (R - lines - length x) (together cs)) ∙ ap (λ (m : ℕ). length A + length (drop m (together cs))) (sym i) in
      let s : Set h (length A + length B) = subst (Set h) j g in
      let t : T ≡ A = take_all (most_in_range h.reading.step 0 - h.reading.n) A (omega (arith, s.room)) in
      let z = length-replicate {A = ℕ} 1024 0 in
      let r : Ok (foldl moved h A, length (closed_by h A)) ≡ hands_on h A 1024 1024 =
      no_refusal h A (replicate 1024 0) (replicate 1024 0) (ready_set h (length A + length B) s)
      (omega (arith, s.room)) (both_long 1024 _ _ (length A) (omega (arith, w.0, length-drop (R - lines) x))
      (omega (arith, z)) (omega (arith, z)))
      ∙ ap (λ m. hands_on h A m m) z in
      let q : hands_on h T 1024 1024 ≡ Ok (foldl moved h A, length (closed_by h A)) = ap (λ l. hands_on h l 1024 1024) t ∙ sym r in
      let f = foldl moved h A in
      let c = length (closed_by h A) in
      ap (λ a. unless_refused a (closed_by h T) ++ given_all R (lines + length x) cs a) q
      ∙ ap (λ l. closed_by h T ++ l) (given_all_lem cs (lines + length x) f c w.1 (set_fold h A (length B) s))
      ∙ ap (λ a. closed_by h T ++ handing_blocks R 1024 1024 (lines + length x) cs a) (sym q)

-- ---- a file
module _ (D R τ file : ℕ) (step : step_in_range D ≡ true) (late : decorrelation_in_range τ ≡ true) where
  started-is : started D ≡ Ok (none D)
  unfolding started
  started-is = rw step

  begun_is : (N S : ℕ) → begun D τ N S ≡ Ok (waiting D τ N S, 0)
  unfolding begun
  begun_is N S = rw (step, late)

  -- a reading that is over is judged as its text is
  done_judged : (p : Pass) (text : List ℕ) (us : List (List ℕ)) → Done D p text us → judging p.follow R p.wrong ≡ comes_to D R (lines_of text)
  done_judged p text us d = by_how d.how
    where
      stands : p.follow ≡ after_lines (fresh D) (Rights D 0 text)
      stands = d.stands ∙ ap (after_lines (fresh D)) d.all

      by_how : ((p.wrong ≡ true) × (1 ≤ length (Left D 0 text))) ⊎ ((p.wrong ≡ false) × (Left D 0 text ≡ [])) → judging p.follow R p.wrong ≡ comes_to D R (lines_of text)
      by_how (inl (w, some)) =
          let o = one_wrong D text some in
          let few = lines_few (length text) D 0 text (low 1 10000 D step) (omega arith) in
          ap (λ f. judging f R p.wrong) stands
          ∙ ap (λ x. judging (after_lines (fresh D) (Rights D 0 text)) R x) w
          ∙ wrong_judged D R (lines_of text) (Rights D 0 text) o.0 (omega (arith, o.0, o.1)) (omega (arith, few))
      by_how (inr (w, e)) =
          let a = all_right D text e in
          ap (λ f. judging f R p.wrong) stands
          ∙ ap (λ x. judging (after_lines (fresh D) (Rights D 0 text)) R x) w
          ∙ ap (λ us. judging (after_lines (fresh D) us) R false) a.0
          ∙ right_judged D R (lines_of text) (omega (arith, a.1))

  -- of which nothing is refused: all its lines are right
  done_right : (p : Pass) (text : List ℕ) (us : List (List ℕ)) → Done D p text us → Fine D R (lines_of text) → (p.wrong ≡ false) × (us ≡ lines_of text)
  done_right p text us d ok = by_how d.how
    where
      by_how : ((p.wrong ≡ true) × (1 ≤ length (Left D 0 text))) ⊎ ((p.wrong ≡ false) × (Left D 0 text ≡ [])) → (p.wrong ≡ false) × (us ≡ lines_of text)
      by_how (inl (w, some)) = absurd (omega (arith, (one_wrong D text some).1, ok.right))
      by_how (inr (w, e)) = (w, d.all ∙ (all_right D text e).0)

  one_piece : (text : List ℕ) → joined (text ∷ []) ≡ text
  unfolding joined
  one_piece text = append-nil text

  all_good : (text : List ℕ) → Fine D R (lines_of text) → first_bad (samples_of (lines_of text)) ≡ length (samples_of (lines_of text))
  all_good text ok =
      let many : length (samples_of (lines_of text)) ≡ length (lines_of text) = length-map (lines_of text) (λ line. sample_of (roll line)) in
      omega (arith, many, ok.good, bad_within (samples_of (lines_of text)))

  -- what two readings count is alike
  counts_alike : (f g : Follow) (s t : Surveying) → f ≡ g → s.number ≡ t.number → s.sum ≡ t.sum → alike f s g t ≡ true
  counts_alike f g s t e n m =
      both_true
      (both_true (eq-eqb f.lines g.lines (ap (λ x. x.lines) e)) (eq-eqb f.outside g.outside (ap (λ x. x.outside) e)))
      (both_true (eq-eqb s.number t.number n) (eq-eqb s.sum t.sum m))

  -- ---- both readings of a text of which nothing is refused
  module _ (text : List ℕ) (ok : Fine D R (lines_of text)) where
    abbrev X : List ℤ
    X = samples_of (lines_of text)

    text_is : lines_of (joined (text ∷ [])) ≡ lines_of text
    text_is = ap lines_of (one_piece text)

    fine_one : Fine D R (lines_of (joined (text ∷ [])))
    fine_one = subst (Fine D R) (sym text_is) ok

    small : Small X
    small = subst (λ l. Small (samples_of l)) text_is (samples_small D R (text ∷ []) step fine_one)

    few : length (drop R X) ≤ most_in_range D 0
    few = subst (λ l. length (drop R (samples_of l)) ≤ most_in_range D 0) text_is (samples_few D R (text ∷ []) step fine_one)

    -- the blocks of a reading that is over
    block_samples : {handing : (Result (Handing × ℕ) Refusal)} {bytes : List ℕ} {r : Run} (q : Ran D file R 0 (started D) handing bytes text [] r) → together q.cs ≡ X
    block_samples {r = r} q = q.samples ∙ ap (λ us. map held (samples_of us)) (done_right r.pass text q.vs q.end ok).1 ∙ held_same X (all_good text ok)

    counted_is : {handing : (Result (Handing × ℕ) Refusal)} {bytes : List ℕ} {r : Run} (q : Ran D file R 0 (started D) handing bytes text [] r) → r.pass.counted ≡ Ok (blocks R 0 (none D) q.cs)
    counted_is q = q.counts ∙ ap (on_blocks R 0 q.cs) started-is

    module _ {h₁ h₂ : (Result (Handing × ℕ) Refusal)} {b₁ b₂ : List ℕ} {one two : Run} (p : Ran D file R 0 (started D) h₁ b₁ text [] one) (q : Ran D file R 0 (started D) h₂ b₂ text [] two) where
      same : same_file one.pass two.pass ≡ true
      same =
          let x = block_samples p in
          let y = block_samples q in
          let c = counted_anywhere D R p.cs (subst Small (sym x) small) (subst (λ l. length (drop R l) ≤ most_in_range D 0) (sym x) few) in
          let d = counted_anywhere D R q.cs (subst Small (sym y) small) (subst (λ l. length (drop R l) ≤ most_in_range D 0) (sym y) few) in
          let z : together p.cs ≡ together q.cs = x ∙ sym y in
          let f : one.pass.follow ≡ two.pass.follow = p.end.stands ∙ ap (after_lines (fresh D)) (p.end.all ∙ sym q.end.all) ∙ sym q.end.stands in
          let a = counts_alike one.pass.follow two.pass.follow (blocks R 0 (none D) p.cs) (blocks R 0 (none D) q.cs) f
          (c.number ∙ ap (λ l. length (Rattle.peak_groups.specs.Runs.peaks D (drop R l))) z ∙ sym d.number)
          (c.sum ∙ ap (λ l. Rattle.peak_groups.specs.Peaks.sum (Rattle.peak_groups.specs.Runs.peaks D (drop R l))) z ∙ sym d.sum) in
          both_true
          (ap (λ s. alike_by one.pass.follow s two.pass.follow two.pass.counted) (counted_is p) ∙ ap
          (λ s. alike_by one.pass.follow (Ok (blocks R 0 (none D) p.cs)) two.pass.follow s)
          (counted_is q) ∙ a)
          (ap not (done_right two.pass text q.vs q.end ok).0)

    module _ {h₁ : (Result (Handing × ℕ) Refusal)} {b₁ : List ℕ} {one two : Run}
        (p : Ran D file R 0 (started D) h₁ b₁ text [] one)
        (q : Ran D file R 0 (started D) (begun_by D τ one.pass.counted) [] text [] two) where
      abbrev N : ℕ
      N = (blocks R 0 (none D) p.cs).number

      abbrev S : ℕ
      S = (blocks R 0 (none D) p.cs).sum

      begun_so : begun_by D τ one.pass.counted ≡ begun D τ N S
      begun_so = ap (begun_by D τ) (counted_is p)

      peaks_are : given_all R 0 q.cs (begun_by D τ one.pass.counted) ≡ handed D R τ X
      peaks_are =
          let x = block_samples p in
          let y = block_samples q in
          let z = length-replicate {A = ℕ} 1024 0 in
          let zero-ramp : R - 0 ≡ R = omega arith in
          let g : Set (waiting D τ N S) (length (drop (R - 0) (together q.cs))) = set_out (waiting D τ N S) _ (fresh_ready D τ N S) (rw (zero-ramp, y) (omega (arith, few))) in
          let all = handed_anywhere 1024 R (replicate 1024 0) (replicate 1024 0) (omega (arith, z)) (omega (arith, z)) D τ p.cs q.cs (x ∙ sym y) step late (subst Small (sym x) small)
          (subst (λ l. length (drop R l) ≤ most_in_range D 0) (sym x) few) q.few in
          ap (given_all R 0 q.cs) (begun_so ∙ begun_is N S)
          ∙ given_all_lem R q.cs 0 (waiting D τ N S) 0 q.few g
          ∙ ap (handing_blocks R 1024 1024 0 q.cs) (sym (begun_is N S))
          ∙ ap (λ m. handing_blocks R m m 0 q.cs (begun D τ N S)) (sym z)
          ∙ all
          ∙ ap (handed D R τ) x

      both_said : finished_by one two ≡ peaks_read file (handed D R τ X)
      unfolding finishing
      both_said =
          let f : finishing one.pass two.pass ≡ peaks_read two.pass.file (last_by two.pass.handing) = rw (same p q) refl in
          ap (λ s. record { line = two.bytes ++ s.line; end = s.end }) f
          ∙ ap (λ n. record { line = two.bytes ++ peaks_text n (last_by two.pass.handing); end = read_digit }) q.file_is
          ∙ ap (λ l. record { line = l; end = read_digit }) (q.gives ∙ ap (peaks_text file) peaks_are)

  -- ---- A FILE READ TWICE
  module _ (t : Twice) (w : ReadTwice D R τ file t) where
    abbrev one : Run
    one = one_of D R file t

    first_ran : Ran D file R 0 (started D) (opening D R file).handing [] t.text [] one
    first_ran =
        subst (λ x. Ran D file R 0 (started D) (opening D R file).handing [] x [] one) w.first-is
        (ran D step t.first.pieces t.first.calls (starting (opening D R file)) [] [] (at_start D (opening D R file) refl refl) w.first_over)

    step_kept : one.pass.follow.step ≡ D
    unfolding after_lines
    step_kept = ap (λ f. f.step) first_ran.end.stands

    abbrev from : Pass
    from = begins D R file (begun_by D τ one.pass.counted)

    again_is : again one.pass τ ≡ from
    again_is =
        ap (λ x. begins x one.pass.ramp one.pass.file (begun_by x τ one.pass.counted)) step_kept
        ∙ ap (λ x. begins D x one.pass.file (begun_by D τ one.pass.counted)) first_ran.ramp_is
        ∙ ap (λ x. begins D R x (begun_by D τ one.pass.counted)) first_ran.file_is

    abbrev two : Run
    two = running t.second.pieces t.second.calls (starting from)

    two_is : two_of D R τ file t ≡ two
    two_is = ap (λ p. running t.second.pieces t.second.calls (starting p)) again_is

    second_ran : judged one.pass ≡ nothing → Ran D file R 0 (started D) (begun_by D τ one.pass.counted) [] t.text [] two
    second_ran e =
        subst (λ x. Ran D file R 0 (started D) (begun_by D τ one.pass.counted) [] x [] two) w.second_is
        (ran D step t.second.pieces t.second.calls (starting from) [] [] (at_start D from refl refl) (ap (λ r. r.pass.over) (sym two_is) ∙ w.second_over e))

    judged_is : judged one.pass ≡ judged_said file nothing (comes_to D R (lines_of t.text))
    unfolding judged
    judged_is =
        ap (λ x. judged_said x nothing (judging one.pass.follow one.pass.ramp one.pass.wrong)) first_ran.file_is
        ∙ ap (λ x. judged_said file nothing (judging one.pass.follow x one.pass.wrong)) first_ran.ramp_is
        ∙ ap (judged_said file nothing) (done_judged one.pass t.text first_ran.vs first_ran.end)

    by_judged : (j : Result (Unit {0}) (ℕ × Refusal)) → comes_to D R (lines_of t.text) ≡ j
        → wrote one (two_of D R τ file t) ≡ judged_said file (peaks_read file (handed D R τ (samples_of (lines_of t.text)))) j
    unfolding then_said
    by_judged (Err (line, r)) e = ap (λ s. then_said s (finished_by one (two_of D R τ file t))) (judged_is ∙ ap (judged_said file nothing) e)
    by_judged (Ok tt) e =
        let n : judged one.pass ≡ nothing = judged_is ∙ ap (judged_said file nothing) e in
        ap (λ s. then_said s (finished_by one (two_of D R τ file t))) n
        ∙ ap (λ r. then_said nothing (finished_by one r)) two_is
        ∙ both_said t.text (fine D R (lines_of t.text) e) first_ran (second_ran n)

    file_so : both_wrote D R τ file t ≡ file_said D R τ file t.text
    unfolding file_said
    file_so = by_judged (comes_to D R (lines_of t.text)) refl

-- ---- the items go before all files
item_ranges : (D R τ : ℕ) → item_outside (searched D R τ) ≡ 0 → (step_in_range D ≡ true) × (decorrelation_in_range τ ≡ true)
unfolding item_outside
item_ranges D R τ e =
    let a = past_item (not (step_in_range D)) 1 (omega arith) e in
    let b = past_item (not (ramp_in_range R)) 2 (omega arith) a.1 in
    let c = past_item (not (level_in_range 1)) 3 (omega arith) b.1 in
    let d = past_item (not (decorrelation_in_range τ)) 4 (omega arith) c.1 in
    (not_no (step_in_range D) a.0, not_no (decorrelation_in_range τ) d.0)
  where
    past_item : (b : Bool) (i : ℕ) {rest : ℕ} → 1 ≤ i → cond b i rest ≡ 0 → (b ≡ false) × (rest ≡ 0)
    past_item true i h e = absurd (omega arith)
    past_item false i h e = (refl, e)

    not_no : (b : Bool) → not b ≡ false → b ≡ true
    not_no true e = refl
    not_no false e = absurd (impossible (cc))

module _ (D R τ : ℕ) where
  -- what is in range goes on to the files, what is not is refused
  after_items : (s u : Said) → ((step_in_range D ≡ true) × (decorrelation_in_range τ ≡ true) → s ≡ u) → then_said (items_said D R τ) s ≡ then_said (items_said D R τ) u
  unfolding then_said items_said
  after_items s u f =
      by_test (eqb (item_outside (searched D R τ)) 0)
      (λ e. ap (then_said (items_said D R τ)) (f (item_ranges D R τ (eqb-true (item_outside (searched D R τ)) 0 e))))
      (λ e. rw e refl)

  -- A FILE ALONE, however its two readings are cut
  pub file_anywhere : (t : Twice) → ReadTwice D R τ 0 t → then_said (items_said D R τ) (both_wrote D R τ 0 t) ≡ peaks_said D R τ t.text
  unfolding peaks_said
  file_anywhere t w = after_items _ _ (λ i. file_so D R τ 0 i.0 i.1 t w)

  all_so : (step_in_range D ≡ true) × (decorrelation_in_range τ ≡ true) → (file : ℕ) (ts : List Twice) →
      AllTwice D R τ file ts →
      files_wrote D R τ file ts ≡ files_from D R τ file (map (λ t. t.text) ts)
  unfolding files_wrote files_from
  all_so i file [] w = refl
  all_so i file (t ∷ ts) w =
      ap (λ s. then_said s (files_wrote D R τ (file + 1) ts)) (file_so D R τ file i.0 i.1 t w.0) ∙ ap
      (then_said (file_said D R τ file t.text)) (all_so i (file + 1) ts w.1)

  -- AND SEVERAL, one after the other
  pub files_anywhere : (ts : List Twice) → AllTwice D R τ 1 ts → then_said (items_said D R τ) (files_wrote D R τ 1 ts) ≡ files_said D R τ (map (λ t. t.text) ts)
  unfolding files_said
  files_anywhere ts w = after_items _ _ (λ i. all_so i 1 ts w)
