-- WHAT IS SAID OF SEVERAL FILES ([14]; docs/CLERK.md, "Hulls that never reach the level"): one line and a digit, over
-- the whole texts, file by file in their order: each file's envelope peaks by its own mean ([11]), all of them in one
-- list, and its timed samples added up; then the list downwards, and what it comes to. Assumes nothing.
use Rattle.std.specs.Prelude.{ℕ, ◌+◌, ◌-◌, cond, not, List, [], ◌∷◌, ◌++◌, map, eqb, ltb, length, Result, Ok, Err}
use Rattle.refusal.specs.declared.Refusal.{Refusal}
use Rattle.refusal.specs.declared.Refusal.TheVariants.{Item, Tail, TimedSamples}
use Rattle.sample_items.specs.declared.Items.{Items}
use Rattle.sample_items.specs.Limits.{item_outside}
use Rattle.peak_groups.specs.Peaks.{handed}
use Rattle.peak_machine.specs.Step.{size_of}
use Rattle.decimal.specs.Lines.{lines_of}
use Rattle.comma_line.specs.Text.{samples_of}
use Rattle.desk_line.specs.Said.{Said, refused}
use Rattle.comma_peaks.specs.Judged.{comes_to}
use Rattle.peak_tail.specs.Fitting.{longest_list, tail_outside}
use Rattle.peak_reach.specs.Answers.{standard_in_range}
use Rattle.reach_files.specs.declared.Job.{Job}
use Rattle.reach_files.specs.Down.{downwards}
use Rattle.reach_files.specs.Line.{list_said}

-- the most timed samples of all files, 19's bound
abbrev pub most_timed : ℕ
most_timed = 100000000

-- a file has one channel: the level stands for the other's too
abbrev pub items_of : Job → Items
items_of j =
    record {
      step = j.step;
      ramp = j.ramp;
      levels = record { roll = j.level; acceleration = j.level };
      decorrelation = j.decorrelation;
    }

-- the refused line names the file and its line
abbrev pub refused_in : ℕ → ℕ → Refusal → Said
refused_in file line r = refused (file ∷ line ∷ []) r

-- the magnitudes of a file's envelope peaks, and its timed samples: those of the ramp are none
abbrev pub peaks_of : Job → List (List ℕ) → List ℕ
peaks_of j lines = map size_of (handed j.step j.ramp j.decorrelation (samples_of lines))

abbrev pub timed_of : Job → List (List ℕ) → ℕ
timed_of j lines = length lines - j.ramp

-- what a file comes to: 10, 2, 3, 4 with the line at fault or 0, or it goes on
abbrev pub judged_then : {X : Type 0} → (ℕ → Refusal → X) → X → Result (Unit {0}) (ℕ × Refusal) → X
judged_then refuse proper (Err (line, r)) = refuse line r
judged_then refuse proper (Ok tt) = proper

-- a file more, after whose peaks the list has n, and after whose samples there are P: 16, 19, or it goes on
abbrev pub grown_then : {X : Type 0} → (ℕ → Refusal → X) → ℕ → ℕ → X → X
grown_then refuse n P proper =
    cond (ltb longest_list n) (refuse 0 Tail)
    (cond (ltb most_timed P) (refuse 0 TimedSamples)
    proper)

-- the files after the first `files`, whose peaks are ys and whose timed samples P
unfoldable pub reach_from : Job → ℕ → List ℕ → ℕ → List (List ℕ) → Said
reach_from j files ys P [] = list_said j files P (downwards ys)
reach_from j files ys P (text ∷ texts) =
    let lines = lines_of text in
    let more = ys ++ peaks_of j lines in
    let time = P + timed_of j lines in
    judged_then (refused_in (files + 1))
    (grown_then (refused_in (files + 1)) (length more) time (reach_from j (files + 1) more time texts))
    (comes_to j.step j.ramp lines)

-- before all files: 1 with the lowest item, the standard's last, and 16 for a k that no list has
abbrev pub asked_then : {X : Type 0} → (ℕ → Refusal → X) → Job → X → X
asked_then refuse j proper =
    cond (not (eqb (item_outside (items_of j)) 0)) (refuse 0 (Item (item_outside (items_of j))))
    (cond (not (standard_in_range j.standard)) (refuse 0 (Item 5))
    (cond (tail_outside longest_list j.tail) (refuse 0 Tail)
    proper))

-- WHAT IS SAID OF THE TEXTS
unfoldable pub reach_said : Job → List (List ℕ) → Said
reach_said j texts = asked_then (refused_in 0) j (reach_from j 0 [] 0 texts)
