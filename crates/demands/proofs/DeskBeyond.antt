-- The desk, bin/extrapolate: what it writes of the files of hulls that never reach the level, over the bytes of the files.
-- The line and the digit are those of a definition over whole texts, however each file comes at either of its two readings.
-- Which line it is, is decided by the command's tests in their order (demand 1). Assumes nothing.
use mathlib.Core.Path.{◌≡◌, refl}
use mathlib.Core.Bool.{Bool, cond, false, not, true}
use mathlib.Core.List.{List, [], ◌∷◌, ◌++◌, map}
use Prim.Native.Nat.{ℕ, ◌+◌, ◌-◌, ◌≤◌}
use lib.Dec.{eqb, ltb}
use lib.ListN.{length}
use Rattle.refusal.specs.declared.Refusal.{Refusal}
use Rattle.refusal.specs.declared.Refusal.TheVariants.{CommaLine, Item, LowLevel, Sample, Tail, TimedSamples, TooLong, TooShort}
use Rattle.sample_items.specs.Limits.{item_outside, most_in_range}
use Rattle.sample_range.specs.Range.{first_bad}
use Rattle.crossing_places.specs.Reading.{too_few}
use Rattle.text.specs.Pieces.{joined}
use Rattle.decimal.specs.Lines.{lines_of}
use Rattle.comma_line.specs.Text.{first_wrong, samples_of}
use Rattle.comma_peaks.specs.Judged.{comes_to}
use Rattle.peak_groups.specs.Peaks.{handed}
use Rattle.peak_machine.specs.Step.{size_of}
use Rattle.desk_line.specs.Said.{Said, refused}
use Rattle.sorting.specs.Sorting.{Sorted}
use Rattle.peak_tail.specs.Fitting.{longest_list, tail_outside}
use Rattle.peak_reach.specs.declared.Times.{Times}
use Rattle.peak_reach.specs.declared.Letter.{Letter}
use Rattle.peak_reach.specs.Answers.{extrapolated, standard_in_range}
use Rattle.reach_files.specs.declared.Job.{Job}
use Rattle.reach_files.specs.Down.{downwards}
use Rattle.reach_files.specs.Line.{figures_of, list_said, low, refused_list, told}
use Rattle.reach_files.specs.Files.{grown_then, items_of, judged_then, peaks_of, reach_from, reach_said, refused_in, timed_of}
use Rattle.reach_files.specs.Gathering.{gathered_said, opened}
use Rattle.reach_files.specs.Readings.{AllCut, AllRead, Cut, Readings, files_after, readings_of}
use Rattle.reach_files.proofs.Anywhere.{reach_anywhere, text_of}
use Rattle.reach_files.proofs.Cut.{reach_cut}
use Rattle.reach_files.proofs.Down.{is_sorted}
use Rattle.demands.proofs.Demand1.{Test, ◌gives◌, decide}
use Rattle.demands.proofs.Desk.{fault_line}
use Rattle.std.specs.Prelude.{Ok, Err}

-- ---- the statement
-- before all files 1, the standard after the record's items, and 16 for a k that no list has
abbrev pub asked_tests : Job → List Test
asked_tests j =
    not (eqb (item_outside (items_of j)) 0) gives Item (item_outside (items_of j))
    ∷ (not (standard_in_range j.standard) gives Item 5
    ∷ (tail_outside longest_list j.tail gives Tail
    ∷ []))

-- the magnitudes of a file's envelope peaks ([11]), and the refused line: the file's number, then its line
abbrev pub sizes_in : Job → List (List ℕ) → List ℕ
sizes_in j lines = map size_of (handed j.step j.ramp j.decorrelation (samples_of lines))

abbrev pub refused_as : ℕ → ℕ → Refusal → Said
refused_as file line r = refused (file ∷ line ∷ []) r

-- of one file after those whose peaks are ys and whose timed samples P: 10, 2, 3, 4 over all its lines, then 16 and 19 with
-- its peaks and its samples, those of the ramp not among them
abbrev pub reach_tests : Job → List ℕ → ℕ → List (List ℕ) → List Test
reach_tests j ys P lines =
    ltb (first_wrong j.step 0 lines) (length lines) gives CommaLine (first_wrong j.step 0 lines + 1)
    ∷ (ltb (first_bad (samples_of lines)) (length lines) gives Sample (first_bad (samples_of lines))
    ∷ (ltb (most_in_range j.step j.ramp) (length lines) gives TooLong
    ∷ (too_few j.ramp (length lines) gives TooShort
    ∷ (ltb longest_list (length (ys ++ sizes_in j lines)) gives Tail
    ∷ (ltb 100000000 (P + (length lines - j.ramp)) gives TimedSamples
    ∷ [])))))

pub record DeskBeyond : Type 0 where
  -- what is said of several files does not depend on the pieces and blocks in which each comes, at either reading
  pub pieces : (j : Job) (list : List ℕ) → longest_list ≤ length list → (rs : List Readings) → AllRead j.step rs
      → let d = files_after j 1 (record { gathered = opened j; list = list }) rs in
      gathered_said j d.gathered d.list ≡ reach_said j (map text_of rs)
  -- so it does not depend on how each file is cut into pieces, where the right lines of a piece are taken at most 1,024 at a
  -- time
  pub cut : (j : Job) (list : List ℕ) → longest_list ≤ length list → (cs : List Cut) → AllCut cs
      → let d = files_after j 1 (record { gathered = opened j; list = list }) (map (readings_of j.step) cs) in
      gathered_said j d.gathered d.list ≡ reach_said j (map (λ c. joined c.pieces) cs)
  -- what is asked goes before all files
  pub asked : (j : Job) (texts : List (List ℕ)) → reach_said j texts ≡ decide (refused_as 0 0) (asked_tests j) (reach_from j 0 [] 0 texts)
  -- file by file: the tests in their order, the file named by its number, and no sample of the ramp among P
  pub file : (j : Job) (files : ℕ) (ys : List ℕ) (P : ℕ) (text : List ℕ) (texts : List (List ℕ))
      → let lines = lines_of text in
      reach_from j files ys P (text ∷ texts)
      ≡ decide (λ r. refused_as (files + 1) (fault_line r) r) (reach_tests j ys P lines)
      (reach_from j (files + 1) (ys ++ sizes_in j lines) (P + (length lines - j.ramp)) texts)
  -- after the last file the peaks are sorted downwards, and the line is what they come to
  pub sorted : (ys : List ℕ) → Sorted ys (downwards ys)
  pub end : (j : Job) (files : ℕ) (ys : List ℕ) (P : ℕ) → reach_from j files ys P [] ≡ list_said j files P (downwards ys)
  pub found : (j : Job) (files : ℕ) (ys : List ℕ) (P : ℕ) (t : Times) (l : Letter)
      → extrapolated ys j.tail j.level j.step P j.standard ≡ Ok (t, l) → list_said j files P ys ≡ told (figures_of j files P ys t l)
  -- or [14]'s refusal, which is no file's; after 20 the k-th peak stands
  pub refused : (j : Job) (files : ℕ) (ys : List ℕ) (P : ℕ) (r : Refusal)
      → extrapolated ys j.tail j.level j.step P j.standard ≡ Err r → list_said j files P ys ≡ refused_list r
  pub low_level : (u : ℕ) → refused_list (LowLevel u) ≡ low u

-- ---- the proof
by_asked : (j : Job) (texts : List (List ℕ)) → reach_said j texts ≡ decide (refused_as 0 0) (asked_tests j) (reach_from j 0 [] 0 texts)
unfolding reach_said decide
by_asked j texts = refl

-- what a file comes to, test by test
by_judged : {X : Type 0} (refuse : ℕ → Refusal → X) (a b c d : Bool) (proper : X) (m n : ℕ)
    → judged_then refuse proper
    (cond a (Err (m + 1, CommaLine (m + 1)))
    (cond b (Err (n + 1, Sample n)) (cond c (Err (0, TooLong)) (cond d (Err (0, TooShort)) (Ok tt)))))
    ≡ cond a (refuse (m + 1) (CommaLine (m + 1))) (cond b (refuse (n + 1) (Sample n)) (cond c (refuse 0 TooLong) (cond d (refuse 0 TooShort) proper)))
by_judged refuse true b c d proper m n = refl
by_judged refuse false true c d proper m n = refl
by_judged refuse false false true d proper m n = refl
by_judged refuse false false false true proper m n = refl
by_judged refuse false false false false proper m n = refl

by_file : (j : Job) (files : ℕ) (ys : List ℕ) (P : ℕ) (text : List ℕ) (texts : List (List ℕ))
    → let lines = lines_of text in
    reach_from j files ys P (text ∷ texts)
    ≡ decide (λ r. refused_as (files + 1) (fault_line r) r) (reach_tests j ys P lines)
    (reach_from j (files + 1) (ys ++ sizes_in j lines) (P + (length lines - j.ramp)) texts)
unfolding reach_from decide comes_to
by_file j files ys P text texts =
    let lines = lines_of text in
    by_judged (refused_in (files + 1)) (ltb (first_wrong j.step 0 lines) (length lines))
    (ltb (first_bad (samples_of lines)) (length lines)) (ltb (most_in_range j.step j.ramp) (length lines))
    (too_few j.ramp (length lines))
    (grown_then (refused_in (files + 1)) (length (ys ++ peaks_of j lines)) (P + timed_of j lines) (reach_from j (files + 1) (ys ++ peaks_of j lines) (P + timed_of j lines) texts))
    (first_wrong j.step 0 lines) (first_bad (samples_of lines))

pub desk_beyond : DeskBeyond
unfolding reach_from refused_list
desk_beyond =
    record {
      pieces = reach_anywhere;
      cut = reach_cut;
      asked = by_asked;
      file = by_file;
      sorted = is_sorted;
      end = λ j files ys P. refl;
      found = λ j files ys P t l e. rw e;
      refused = λ j files ys P r e. rw e;
      low_level = λ u. refl;
    }
