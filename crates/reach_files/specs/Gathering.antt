-- What the functions over several files answer and leave in the list of peaks. Assumes nothing.
use Rattle.std.specs.Prelude.{ℕ, ◌+◌, ◌-◌, min, Bool, true, false, cond, List, [], ◌∷◌, ◌++◌, map, ltb, ℤ, length, take, drop, Option, Some, None, Result, Ok, Err}
use Rattle.std.proofs.lemmas.List.Edits.{sets}
use Rattle.peak_machine.specs.Step.{size_of}
use Rattle.peak_stream.specs.Hands.{closed_by, at_end, hands_on}
use Rattle.comma_peaks.specs.Timed as timed
use Rattle.desk_line.specs.Said.{Said}
use Rattle.peak_tail.specs.Fitting.{longest_list}
use Rattle.reach_files.specs.declared.Job.{Job}
use Rattle.reach_files.specs.declared.Gathered.{Gathered}
use Rattle.reach_files.specs.declared.Kept.{Kept}
use Rattle.reach_files.specs.Down.{downwards}
use Rattle.reach_files.specs.Line.{list_said}
use Rattle.reach_files.specs.Files.{asked_then, judged_then, grown_then, refused_in}
use Rattle.refusal.specs.declared.Refusal.{Refusal}
use Rattle.peak_stream.specs.declared.Handing.{Handing}
use Rattle.peak_groups.specs.declared.Peak.{Peak}

-- ---- opening
abbrev pub nothing : Gathered
nothing = record { files = 0; peaks = 0; samples = 0 }

unfoldable pub opened : Job → Result Gathered (ℕ × ℕ × Refusal)
opened j = asked_then ((λ a b. Err (0, a, b))) j (Ok nothing)

-- ---- peaks put into the list from a place on; past the longest list none is counted or put
abbrev pub counted_to : ℕ → ℕ → ℕ
counted_to at n = cond (ltb longest_list at) at (at + n)

unfoldable pub put_from : ℕ → List ℕ → List ℕ → List ℕ
put_from at sizes list = cond (ltb longest_list at) list (sets list at sizes)

-- ---- the second reading of a file: a block of at most 1,024 samples
abbrev pub block : ℕ
block = 1024

-- the pass after it, and the magnitudes that it hands out; what was refused stays, and hands out nothing
abbrev pub handed_by : ℕ → ℕ → Result (Handing × ℕ) Refusal → List ℤ → Result (Handing × ℕ) Refusal
handed_by R lines (Ok (h, k)) xs = hands_on h (timed.timed_of R lines h.reading xs) block block
handed_by R lines (Err f) xs = Err f

abbrev pub out_of : Result (Handing × ℕ) Refusal → List ℕ → List ℕ
out_of (Ok (h, k)) sizes = sizes
out_of (Err f) sizes = []

abbrev pub sizes_by : ℕ → ℕ → Result (Handing × ℕ) Refusal → List ℤ → List ℕ
sizes_by R lines (Ok (h, k)) xs =
    out_of (hands_on h (timed.timed_of R lines h.reading xs) block block)
    (map size_of (closed_by h (timed.timed_of R lines h.reading xs)))
sizes_by R lines (Err f) xs = []

abbrev pub kept_by : ℕ → ℕ → Kept → List ℤ → Kept
kept_by R lines k xs =
    record {
      handed = handed_by R lines k.handed xs;
      peaks = counted_to k.peaks (length (sizes_by R lines k.handed xs));
    }

abbrev pub list_by : ℕ → ℕ → Kept → List ℤ → List ℕ → List ℕ
list_by R lines k xs list = put_from k.peaks (sizes_by R lines k.handed xs) list

-- its end: the peak of the open chain
abbrev pub last_sizes : Result (Handing × ℕ) Refusal → List ℕ
last_sizes (Ok (h, k)) = map size_of (at_end h)
last_sizes (Err f) = []

abbrev pub last_one : Option Peak → List ℕ
last_one (Some p) = p.size ∷ []
last_one None = []

-- ---- a file more, with so many lines, after whose peaks the list has so many; the first refusal stays
abbrev pub grown_by : Job → ℕ → Gathered → ℕ → ℕ → Result Gathered (ℕ × ℕ × Refusal)
grown_by j file g lines peaks =
    grown_then ((λ a b. Err (file, a, b))) peaks (g.samples + (lines - j.ramp))
    (Ok (record { files = file; peaks = peaks; samples = g.samples + (lines - j.ramp) }))

abbrev pub added_in : Job → ℕ → Result Gathered (ℕ × ℕ × Refusal) → Result (Unit {0}) (ℕ × Refusal) → ℕ → ℕ → Result Gathered (ℕ × ℕ × Refusal)
added_in j file (Ok g) came lines peaks =
    judged_then ((λ a b. Err (file, a, b))) (grown_by j file g lines peaks) came
added_in j file (Err (first, line, r)) came lines peaks = Err (first, line, r)

abbrev pub is_over : Result Gathered (ℕ × ℕ × Refusal) → Bool
is_over (Ok g) = false
is_over (Err (file, line, r)) = true

-- ---- what is said, and the list then: its peaks downwards, the rest as it stood
abbrev pub first_of : Gathered → List ℕ → ℕ
first_of g list = min g.peaks (length list)

abbrev pub gathered_said : Job → Result Gathered (ℕ × ℕ × Refusal) → List ℕ → Said
gathered_said j (Ok g) list = list_said j g.files g.samples (downwards (take (first_of g list) list))
gathered_said j (Err (file, line, r)) list = refused_in file line r

abbrev pub list_left : Result Gathered (ℕ × ℕ × Refusal) → List ℕ → List ℕ
list_left (Ok g) list = downwards (take (first_of g list) list) ++ drop (first_of g list) list
list_left (Err (file, line, r)) list = list
