-- THE LINE ([14]; docs/CLERK.md, "Hulls that never reach the level"): files, peaks, timed samples, k, the k-th peak,
-- the Hill sum, the peaks above the level, the estimated mean time between failures, the longest standard accepted, the
-- shortest rejected or a dash, and the letter. And the refused line, which after 20 has the k-th peak. Assumes nothing.
use Rattle.std.specs.Prelude.{ℕ, ◌+◌, cond, List, [], ◌∷◌, ◌++◌, eqb, ltb, length, Result, Ok, Err}
use Rattle.refusal.specs.declared.Refusal.{Refusal}
use Rattle.refusal.specs.Numbers.{number_of, value_of}
use Rattle.decimal.specs.Field.{tab, line_feed, field_text}
use Rattle.desk_line.specs.Said.{Said, read_digit, refused_digit, refused_word, refused}
use Rattle.peak_tail.specs.Hill.{hill_sum, kth}
use Rattle.peak_reach.specs.declared.Times.{Times}
use Rattle.peak_reach.specs.declared.Letter.{Letter}
use Rattle.peak_reach.specs.declared.Letter.TheVariants.{Accept, Reject, Continue}
use Rattle.peak_reach.specs.Answers.{extrapolated}
use Rattle.reach_files.specs.declared.Job.{Job}
use Rattle.reach_files.specs.declared.Figures.{Figures}

-- how many peaks are above the level
unfoldable pub above_level : ℕ → List ℕ → ℕ
above_level c [] = 0
above_level c (y ∷ ys) = cond (ltb c y) 1 0 + above_level c ys

-- the shortest standard found to be rejected, or a dash: 0 is the time of none
unfoldable pub rejected_text : ℕ → List ℕ
rejected_text B = cond (eqb B 0) (45 ∷ tab ∷ []) (field_text B tab)

-- A, R or C
abbrev pub letter_text : Letter → List ℕ
letter_text Accept = 65 ∷ line_feed ∷ []
letter_text Reject = 82 ∷ line_feed ∷ []
letter_text Continue = 67 ∷ line_feed ∷ []

unfoldable pub figures_line : Figures → List ℕ
figures_line f =
    field_text f.files tab
    ++ (field_text f.peaks tab
    ++ (field_text f.samples tab
    ++ (field_text f.tail tab
    ++ (field_text f.last tab
    ++ (field_text f.sum tab
    ++ (field_text f.above tab
    ++ (field_text f.times.estimate tab
    ++ (field_text f.times.accepted tab
    ++ (rejected_text f.times.rejected
    ++ letter_text f.letter)))))))))

-- '0' goes with it
abbrev pub told : Figures → Said
told f = record { line = figures_line f; end = read_digit }

-- ---- refused, once the files are read: no file and no line is at fault
-- the level is below the k-th peak u
unfoldable pub low_line : ℕ → List ℕ
low_line u = refused_word ++ (field_text 0 tab ++ (field_text 0 tab ++ (field_text 20 tab ++ field_text u line_feed)))

abbrev pub low : ℕ → Said
low u = record { line = low_line u; end = refused_digit }

unfoldable pub refused_list : Refusal → Said
refused_list r = cond (eqb (number_of r) 20) (low (value_of r)) (refused (0 ∷ 0 ∷ []) r)

-- ---- of peaks ys that lie downwards, from so many files with P timed samples
abbrev pub figures_of : Job → ℕ → ℕ → List ℕ → Times → Letter → Figures
figures_of j files P ys t l =
    record {
      files = files;
      peaks = length ys;
      samples = P;
      tail = j.tail;
      last = kth ys j.tail;
      sum = hill_sum ys j.tail;
      above = above_level j.level ys;
      times = t;
      letter = l;
    }

abbrev pub extrapolated_for : Job → ℕ → List ℕ → Result (Times × Letter) Refusal
extrapolated_for j P ys = extrapolated ys j.tail j.level j.step P j.standard

abbrev pub said_by : Job → ℕ → ℕ → List ℕ → Result (Times × Letter) Refusal → Said
said_by j files P ys (Ok (t, l)) = told (figures_of j files P ys t l)
said_by j files P ys (Err r) = refused_list r

abbrev pub list_said : Job → ℕ → ℕ → List ℕ → Said
list_said j files P ys = said_by j files P ys (extrapolated_for j P ys)
