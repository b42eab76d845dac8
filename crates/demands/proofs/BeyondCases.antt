-- [14], computed of the definitions: the half-widths, the guide's table and document 001's own example, the letters at
-- and about A and B, every refusal and two at once, clipped records, that the longest accepted standard alone need not
-- grow with the samples, and the lines that bin/extrapolate writes. And by these cases, four builders who do not keep
-- the promise. Each declaration has the name of its sentence. Assumes nothing.
use mathlib.Core.Path.{◌≡◌, ap, refl, ◌∙◌}
use mathlib.Core.List.{List, [], ◌∷◌, ◌++◌}
use Prim.Native.Nat.{ℕ, ◌+◌, ◌*◌, ◌≤◌}
use native.Mathlib.Omega.{arith}
use lib.Dec.{lit<, lit≤}
use lib.ListN.{replicate}
use Rattle.truth.proofs.Laws.{impossible}
use Rattle.refusal.specs.declared.Refusal.TheVariants.{Item, LowLevel, NoSpread, Peak, Tail, TimedSamples}
use Rattle.logarithm.specs.Ours.{doublings, our_figure, squarings}
use Rattle.exponential.specs.Ours.{our_down, our_up, rows_down, rows_up}
use Rattle.exponential.specs.Tables.{mantissas, shifts}
use Rattle.root.proofs.First.{root_is}
use Rattle.root.proofs.HalfWidth.{all_failures, width_is}
use Rattle.peak_tail.specs.Hill.{figures, hill_sum, kth}
use Rattle.peak_reach.specs.Answers.{extrapolated, first_out_after, item_outside, letter_for, reached, times}
use Rattle.peak_reach.specs.Figures.{count_width, divided_up, longest_by, rejected_by, shape_width, shortest_above, times_by, times_of}
use Rattle.peak_reach.specs.declared.Letter.{Letter}
use Rattle.peak_reach.specs.declared.Letter.TheVariants.{Accept, Continue, Reject}
use Rattle.peak_reach.specs.declared.Times.{Times}
use Rattle.sample_items.specs.Limits as limits
use Rattle.sample_range.specs.Range.{first_bad}
use Rattle.crossing_sets.specs.Groups.{attach, groups}
use Rattle.peak_groups.specs.Groups.{larger, largest, those, tops}
use Rattle.peak_groups.specs.Runs as runs
use Rattle.peak_groups.specs.Peaks.{sum}
use Rattle.decimal.specs.Decimal.{all_digits, digits_of, digits_within, is_number, value_of}
use Rattle.decimal.specs.Field.{field_text}
use Rattle.decimal.specs.Leading.{leading}
use Rattle.decimal.specs.Lines.{lines_of}
use Rattle.degrees.specs.Degrees.{filled, is_size, size, size_length}
use Rattle.comma_line.specs.Line.{is_comma_line, right}
use Rattle.comma_line.specs.Text.{first_wrong}
use Rattle.comma_peaks.specs.Judged.{comes_to}
use Rattle.desk_line.specs.Said.{places_then, refused_line, why_text}
use Rattle.reach_files.specs.declared.Job.{Job}
use Rattle.reach_files.specs.Down.{downwards}
use Rattle.reach_files.specs.Line.{above_level, figures_line, figures_of, letter_text, list_said, low_line, refused_list, rejected_text, said_by}
use Rattle.reach_files.specs.Files.{items_of, reach_from, reach_said}
use Rattle.demands.proofs.Request14.{Answer, Keeps}
use Rattle.refusal.specs.declared.Refusal.{Refusal}
use Rattle.std.specs.Prelude.{Result, Ok, Err}

abbrev three : ℕ → ℕ → ℕ → Times
three E A B = record { estimate = E; accepted = A; rejected = B }

-- the guide's small case: a step of 500 ms, 1,000,000 timed samples
abbrev peaks : List ℕ
peaks = 34000 ∷ 33000 ∷ 32000 ∷ 31500 ∷ 31000 ∷ 30500 ∷ 30000 ∷ 29500 ∷ 29000 ∷ 28500 ∷ 28000 ∷ 27500 ∷ []

-- ---- half-widths by 2.236: of the count in thousandths, of the shape in millionths
count_10 : count_width 10 1000000 ≡ 7071
count_10 = width_is 2236 10 1000000 7070 (lit≤ tt) (lit< tt)

count_12 : count_width 12 1000000 ≡ 7746
count_12 = width_is 2236 12 1000000 7745 (lit≤ tt) (lit< tt)

count_4 : count_width 4 1000000 ≡ 4472
count_4 = width_is 2236 4 1000000 4471 (lit≤ tt) (lit< tt)

count_72 : count_width 72 1075500 ≡ 18973
count_72 = width_is 2236 72 1075500 18972 (lit≤ tt) (lit< tt)

shape_10 : shape_width 10 ≡ 707086
shape_10 = root_is (2236000 * 2236000) 10 707085 (lit≤ tt) (lit≤ tt) (lit< tt)

shape_12 : shape_width 12 ≡ 645478
shape_12 = root_is (2236000 * 2236000) 12 645477 (lit≤ tt) (lit≤ tt) (lit< tt)

shape_4 : shape_width 4 ≡ 1118000
shape_4 = root_is (2236000 * 2236000) 4 1117999 (lit≤ tt) (lit≤ tt) (lit< tt)

shape_72 : shape_width 72 ≡ 263516
shape_72 = root_is (2236000 * 2236000) 72 263515 (lit≤ tt) (lit≤ tt) (lit< tt)

-- ---- the level's logarithms of the table
levels : our_figure 40000 28500 ∷ our_figure 28500 28500 ∷ our_figure 40000 27500 ∷ our_figure 40000 31500 ∷ [] ≡ 32049 ∷ 0 ∷ 35426 ∷ 22586 ∷ []
unfolding our_figure doublings squarings
levels = refl

-- ---- the table, from the k-th peak, the Hill sum and the half-widths
by_widths : (u c k S D P h w : ℕ) (t : Times) → count_width k P ≡ h → shape_width k ≡ w → times_by u c k S h w (1000 * (P * D)) ≡ t
    → times_of u c k S D P ≡ t
by_widths u c k S D P h w t e d x = rw (e, d) x

of_list : (ys : List ℕ) (k c D P u S : ℕ) (t : Times) → kth ys k ≡ u → hill_sum ys k ≡ S → times_of u c k S D P ≡ t → times ys k c D P ≡ t
of_list ys k c D P u S t e d x = rw (d, e) x

ten : hill_sum peaks 10 ≡ 75071
unfolding figures our_figure doublings squarings
ten = refl

twelve : hill_sum peaks 12 ≡ 110545
unfolding figures our_figure doublings squarings
twelve = refl

four : hill_sum peaks 4 ≡ 13106
unfolding figures our_figure doublings squarings
four = refl

figures_of_ten : times_by 28500 40000 10 75071 7071 707086 500000000000 ≡ three 3569418850 356906209 0
unfolding our_figure doublings squarings longest_by rejected_by shortest_above our_down our_up rows_down rows_up mantissas shifts
figures_of_ten = refl

tail_of_ten : times peaks 10 40000 500 1000000 ≡ three 3569418850 356906209 0
tail_of_ten = of_list peaks 10 40000 500 1000000 28500 75071 _ refl ten (by_widths 28500 40000 10 75071 500 1000000 7071 707086 _ count_10 shape_10 figures_of_ten)

figures_at_the_peak : times_by 28500 28500 10 75071 7071 707086 500000000000 ≡ three 50000000 29289438 170706726
unfolding our_figure doublings squarings longest_by rejected_by shortest_above our_down our_up rows_down rows_up mantissas shifts
figures_at_the_peak = refl

at_the_last_peak : times peaks 10 28500 500 1000000 ≡ three 50000000 29289438 170706726
at_the_last_peak = of_list peaks 10 28500 500 1000000 28500 75071 _ refl ten (by_widths 28500 28500 10 75071 500 1000000 7071 707086 _ count_10 shape_10 figures_at_the_peak)

figures_of_twelve : times_by 27500 40000 12 110545 7746 645478 500000000000 ≡ three 1947957618 261978944 0
unfolding our_figure doublings squarings longest_by rejected_by shortest_above our_down our_up rows_down rows_up mantissas shifts
figures_of_twelve = refl

tail_of_twelve : times peaks 12 40000 500 1000000 ≡ three 1947957618 261978944 0
tail_of_twelve = of_list peaks 12 40000 500 1000000 27500 110545 _ refl twelve (by_widths 27500 40000 12 110545 500 1000000 7746 645478 _ count_12 shape_12 figures_of_twelve)

-- the estimate is the longest standard that there is, and four peaks have no lower end
figures_of_four : times_by 31500 40000 4 13106 4472 1118000 500000000000 ≡ three 100000000000 1526897810 0
unfolding our_figure doublings squarings longest_by rejected_by shortest_above our_down our_up rows_down rows_up mantissas shifts
figures_of_four = refl

tail_of_four : times peaks 4 40000 500 1000000 ≡ three 100000000000 1526897810 0
tail_of_four = of_list peaks 4 40000 500 1000000 31500 13106 _ refl four (by_widths 31500 40000 4 13106 500 1000000 4472 1118000 _ count_4 shape_4 figures_of_four)

-- document 001's own example: k = 72, u = 27.5 degrees, a level of 40, and a Hill sum of 536,430
figures_of_001 : times_by 27500 40000 72 536430 18973 263516 537750000000 ≡ three 866420782 254439920 6458656050
unfolding our_figure doublings squarings longest_by rejected_by shortest_above our_down our_up rows_down rows_up mantissas shifts
figures_of_001 = refl

of_001 : times_of 27500 40000 72 536430 500 1075500 ≡ three 866420782 254439920 6458656050
of_001 = by_widths 27500 40000 72 536430 500 1075500 18973 263516 _ count_72 shape_72 figures_of_001

-- ---- the letter: A up to A, C after it, R from B on
letters : letter_for 29289438 (three 50000000 29289438 170706726) ∷ letter_for 29289439 (three 50000000 29289438 170706726)
    ∷ letter_for 170706725 (three 50000000 29289438 170706726) ∷ letter_for 170706726 (three 50000000 29289438 170706726)
    ∷ letter_for 100000000000 (three 3569418850 356906209 0) ∷ []
    ≡ Accept ∷ Continue ∷ Continue ∷ Reject ∷ Continue ∷ []
letters = refl

-- the whole answers they come from
-- past its tests the answer is that of the times
abbrev Taken : List ℕ → ℕ → ℕ → ℕ → ℕ → ℕ → Type 0
Taken ys k c D P q = extrapolated ys k c D P q ≡ Ok (times ys k c D P, letter_for q (times ys k c D P))

told : (t s : Times) (q : ℕ) → t ≡ s → ◌≡◌ {A = Result (Times × Letter) Refusal} (Ok (t, letter_for q t)) (Ok (s, letter_for q s))
told t s q e = rw e

passed_40000 : Taken peaks 10 40000 500 1000000 7200000
unfolding extrapolated reached item_outside first_out_after figures our_figure doublings squarings
passed_40000 = refl

passed_28500 : Taken peaks 10 28500 500 1000000 50000000
unfolding extrapolated reached item_outside first_out_after figures our_figure doublings squarings
passed_28500 = refl

passed_at_B : Taken peaks 10 28500 500 1000000 170706726
unfolding extrapolated reached item_outside first_out_after figures our_figure doublings squarings
passed_at_B = refl

accepted_case : extrapolated peaks 10 40000 500 1000000 7200000 ≡ Ok (three 3569418850 356906209 0, Accept)
accepted_case = passed_40000 ∙ told _ _ 7200000 tail_of_ten

continued_case : extrapolated peaks 10 28500 500 1000000 50000000 ≡ Ok (three 50000000 29289438 170706726, Continue)
continued_case = passed_28500 ∙ told _ _ 50000000 at_the_last_peak

rejected_case : extrapolated peaks 10 28500 500 1000000 170706726 ≡ Ok (three 50000000 29289438 170706726, Reject)
rejected_case = passed_at_B ∙ told _ _ 170706726 at_the_last_peak

-- ---- refusals, each alone and the first of two
abbrev asked : List ℕ → ℕ → ℕ → ℕ → ℕ → ℕ → Result (Times × Letter) Refusal
asked = extrapolated

items_refused : asked peaks 10 40000 0 1000000 1 ∷ asked peaks 10 40000 10001 1000000 1 ∷ asked peaks 10 0 1 1000000 1
    ∷ asked peaks 10 1000001 1 1000000 1 ∷ asked peaks 10 40000 1 1000000 0 ∷ asked peaks 10 40000 1 1000000 100000000001
    ∷ asked peaks 10 0 0 1000000 0 ∷ asked peaks 10 0 1 1000000 0 ∷ asked [] 0 40000 1 0 0 ∷ []
    ≡ Err (Item 1) ∷ Err (Item 1) ∷ Err (Item 3) ∷ Err (Item 3) ∷ Err (Item 5) ∷ Err (Item 5)
    ∷ Err (Item 1) ∷ Err (Item 3) ∷ Err (Item 5) ∷ []
unfolding extrapolated item_outside
items_refused = refl

-- 16 before 17: no list, a k of 1, one of 13, with a peak of 0 beside it
tails_refused : asked [] 2 40000 1 1 1 ∷ asked peaks 1 40000 1 1 1 ∷ asked peaks 13 40000 1 1 1 ∷ asked (0 ∷ []) 2 40000 1 1 1 ∷ []
    ≡ Err Tail ∷ Err Tail ∷ Err Tail ∷ Err Tail ∷ []
unfolding extrapolated item_outside
tails_refused = refl

-- 17 before 19: a peak of 0, one above 1,000,000, one above the one before it; the first of several
peaks_refused : asked (2 ∷ 1 ∷ 0 ∷ []) 2 40000 1 0 1 ∷ asked (1000001 ∷ 1 ∷ []) 2 40000 1 0 1 ∷ asked (5 ∷ 4 ∷ 3 ∷ 4 ∷ 0 ∷ []) 2 40000 1 0 1 ∷ []
    ≡ Err (Peak 2) ∷ Err (Peak 0) ∷ Err (Peak 3) ∷ []
unfolding extrapolated item_outside first_out_after
peaks_refused = refl

-- 19 before 20, 20 before 21
samples_refused : asked (5 ∷ 4 ∷ []) 2 3 1 1 1 ∷ asked (5 ∷ 4 ∷ []) 2 40000 1 100000001 1 ∷ []
    ≡ Err TimedSamples ∷ Err TimedSamples ∷ []
unfolding extrapolated reached item_outside first_out_after
samples_refused = refl

level_refused : asked (5 ∷ 4 ∷ []) 2 3 1 2 1 ∷ asked (4 ∷ 4 ∷ []) 2 3 1 2 1 ∷ []
    ≡ Err (LowLevel 4) ∷ Err (LowLevel 4) ∷ []
unfolding extrapolated reached item_outside first_out_after
level_refused = refl

-- equal peaks, at the level and below it, and the guide's clipped records: forty peaks of 35 degrees, and one just
-- under
spread_refused : asked (4 ∷ 4 ∷ []) 2 4 1 2 1 ∷ asked (4 ∷ 4 ∷ []) 2 5 1 2 1
    ∷ asked (replicate 40 35000 ++ (34999 ∷ [])) 41 40000 500 1000000 7200000 ∷ []
    ≡ Err NoSpread ∷ Err NoSpread ∷ Err NoSpread ∷ []
unfolding extrapolated reached item_outside first_out_after figures our_figure doublings squarings
spread_refused = refl

-- the exponent by our figures: 2 · 127 is below 64 · (2 + 2), 2 · 128 is not
limit_refused : asked (100003 ∷ 100000 ∷ []) 2 100136 1 2 1 ≡ Err NoSpread
unfolding extrapolated reached item_outside first_out_after figures our_figure doublings squarings
limit_refused = refl

-- just inside each end: as many samples as the tail has peaks, and 100,000,000; an exponent below 64; the highest items
fewest_samples_taken : Taken peaks 10 40000 500 10 7200000
unfolding extrapolated reached item_outside first_out_after figures our_figure doublings squarings
fewest_samples_taken = refl

most_samples_taken : Taken peaks 10 40000 500 100000000 7200000
unfolding extrapolated reached item_outside first_out_after figures our_figure doublings squarings
most_samples_taken = refl

spread_taken : Taken (100003 ∷ 100000 ∷ []) 2 100135 1 2 1
unfolding extrapolated reached item_outside first_out_after figures our_figure doublings squarings
spread_taken = refl

highest_items_taken : Taken (1000000 ∷ 500000 ∷ []) 2 1000000 10000 2 100000000000
unfolding extrapolated reached item_outside first_out_after figures our_figure doublings squarings
highest_items_taken = refl

-- ---- with 10 samples each of them has a peak and the half-width is 0; with 11 it is 2.132 failures
count_of_all : count_width 10 10 ≡ 0
count_of_all = all_failures 2236 10

count_of_eleven : count_width 10 11 ≡ 2132
count_of_eleven = width_is 2236 10 11 2131 (lit≤ tt) (lit< tt)

figures_of_all : times_by 28500 40000 10 75071 0 707086 5000000 ≡ three 35694 6092 1069335370
unfolding our_figure doublings squarings longest_by rejected_by shortest_above our_down our_up rows_down rows_up mantissas shifts
figures_of_all = refl

figures_of_eleven : times_by 28500 40000 10 75071 2132 707086 5500000 ≡ three 39263 5524 1495003694
unfolding our_figure doublings squarings longest_by rejected_by shortest_above our_down our_up rows_down rows_up mantissas shifts
figures_of_eleven = refl

accepted_need_not_grow : ((times peaks 10 40000 500 10).accepted ≡ 6092) × ((times peaks 10 40000 500 11).accepted ≡ 5524)
accepted_need_not_grow = (
  ap (λ (t : Times). t.accepted)
      (of_list peaks 10 40000 500 10 28500 75071 _ refl ten (by_widths 28500 40000 10 75071 500 10 0 707086 _ count_of_all shape_10 figures_of_all)),
  ap (λ (t : Times). t.accepted)
      (of_list peaks 10 40000 500 11 28500 75071 _ refl ten (by_widths 28500 40000 10 75071 500 11 2132 707086 _ count_of_eleven shape_10 figures_of_eleven)),
)

-- ---- the lines that bin/extrapolate writes, byte for byte, every field with a figure of its own
abbrev job : ℕ → ℕ → ℕ → Job
job c k q = record { step = 500; ramp = 20; level = c; decorrelation = 35000; tail = k; standard = q }

-- of the guide's small case from 80 files: 80 12 1000000 10 28500 75071 0 3569418850 356906209 - A
bytes_accepted : figures_line (figures_of (job 40000 10 7200000) 80 1000000 peaks (three 3569418850 356906209 0) Accept)
    ≡ 56 ∷ 48 ∷ 9 ∷ 49 ∷ 50 ∷ 9 ∷ 49 ∷ 48 ∷ 48 ∷ 48 ∷ 48 ∷ 48 ∷ 48 ∷ 9 ∷ 49 ∷ 48 ∷ 9 ∷ 50 ∷ 56 ∷ 53 ∷ 48 ∷ 48 ∷ 9 ∷ 55
    ∷ 53 ∷ 48 ∷ 55 ∷ 49 ∷ 9 ∷ 48 ∷ 9 ∷ 51 ∷ 53 ∷ 54 ∷ 57 ∷ 52 ∷ 49 ∷ 56 ∷ 56 ∷ 53 ∷ 48 ∷ 9 ∷ 51 ∷ 53 ∷ 54 ∷ 57 ∷ 48 ∷
    54 ∷ 50 ∷ 48 ∷ 57 ∷ 9 ∷ 45 ∷ 9 ∷ 65 ∷ 10 ∷ []
unfolding figures_line above_level rejected_text figures our_figure doublings squarings field_text digits_of digits_within
bytes_accepted = refl

line_accepted : list_said (job 40000 10 7200000) 80 1000000 peaks
    ≡ record {
      line = 56 ∷ 48 ∷ 9 ∷ 49 ∷ 50 ∷ 9 ∷ 49 ∷ 48 ∷ 48 ∷ 48 ∷ 48 ∷ 48 ∷ 48 ∷ 9 ∷ 49 ∷ 48 ∷ 9 ∷ 50 ∷ 56 ∷ 53 ∷
          48 ∷ 48 ∷ 9 ∷ 55 ∷ 53 ∷ 48 ∷ 55 ∷ 49 ∷ 9 ∷ 48 ∷ 9 ∷ 51 ∷ 53 ∷ 54 ∷ 57 ∷ 52 ∷ 49 ∷ 56 ∷ 56 ∷ 53 ∷ 48 ∷ 9 ∷ 51 ∷ 53
          ∷ 54 ∷ 57 ∷ 48 ∷ 54 ∷ 50 ∷ 48 ∷ 57 ∷ 9 ∷ 45 ∷ 9 ∷ 65 ∷ 10 ∷ [];
      end = 48;
    }
line_accepted =
    ap (λ (x : Result (Times × Letter) Refusal). said_by (job 40000 10 7200000) 80 1000000 peaks x) accepted_case
    ∙ ap (λ (l : List ℕ). record { line = l; end = 48 }) bytes_accepted

-- at the level of the last peak, nine are above it and the standard is rejected: B is a number and the letter R
bytes_rejected : figures_line (figures_of (job 28500 10 170706726) 3 1000000 peaks (three 50000000 29289438 170706726) Reject)
    ≡ 51 ∷ 9 ∷ 49 ∷ 50 ∷ 9 ∷ 49 ∷ 48 ∷ 48 ∷ 48 ∷ 48 ∷ 48 ∷ 48 ∷ 9 ∷ 49 ∷ 48 ∷ 9 ∷ 50 ∷ 56 ∷ 53 ∷ 48 ∷ 48 ∷ 9 ∷ 55 ∷ 53
    ∷ 48 ∷ 55 ∷ 49 ∷ 9 ∷ 57 ∷ 9 ∷ 53 ∷ 48 ∷ 48 ∷ 48 ∷ 48 ∷ 48 ∷ 48 ∷ 48 ∷ 9 ∷ 50 ∷ 57 ∷ 50 ∷ 56 ∷ 57 ∷ 52 ∷ 51 ∷ 56 ∷
    9 ∷ 49 ∷ 55 ∷ 48 ∷ 55 ∷ 48 ∷ 54 ∷ 55 ∷ 50 ∷ 54 ∷ 9 ∷ 82 ∷ 10 ∷ []
unfolding figures_line above_level rejected_text figures our_figure doublings squarings field_text digits_of digits_within
bytes_rejected = refl

line_rejected : list_said (job 28500 10 170706726) 3 1000000 peaks
    ≡ record {
      line = 51 ∷ 9 ∷ 49 ∷ 50 ∷ 9 ∷ 49 ∷ 48 ∷ 48 ∷ 48 ∷ 48 ∷ 48 ∷ 48 ∷ 9 ∷ 49 ∷ 48 ∷ 9 ∷ 50 ∷ 56 ∷ 53 ∷ 48 ∷
          48 ∷ 9 ∷ 55 ∷ 53 ∷ 48 ∷ 55 ∷ 49 ∷ 9 ∷ 57 ∷ 9 ∷ 53 ∷ 48 ∷ 48 ∷ 48 ∷ 48 ∷ 48 ∷ 48 ∷ 48 ∷ 9 ∷ 50 ∷ 57 ∷ 50 ∷ 56 ∷ 57
          ∷ 52 ∷ 51 ∷ 56 ∷ 9 ∷ 49 ∷ 55 ∷ 48 ∷ 55 ∷ 48 ∷ 54 ∷ 55 ∷ 50 ∷ 54 ∷ 9 ∷ 82 ∷ 10 ∷ [];
      end = 48;
    }
line_rejected =
    ap (λ (x : Result (Times × Letter) Refusal). said_by (job 28500 10 170706726) 3 1000000 peaks x) rejected_case
    ∙ ap (λ (l : List ℕ). record { line = l; end = 48 }) bytes_rejected

-- 20 has the last peak of the tail after it, 21 nothing: refused 0 0 20 4, refused 0 0 21
line_low : list_said (job 3 2 1) 1 2 (5 ∷ 4 ∷ []) ≡ record { line = 114 ∷ 101 ∷ 102 ∷ 117 ∷ 115 ∷ 101 ∷ 100 ∷ 9 ∷ 48 ∷ 9 ∷ 48 ∷ 9 ∷ 50 ∷ 48 ∷ 9 ∷ 52 ∷ 10 ∷ []; end = 49 }
unfolding extrapolated reached item_outside first_out_after refused_list low_line field_text digits_of digits_within
line_low = refl

line_clipped : list_said (job 5 2 1) 1 2 (4 ∷ 4 ∷ []) ≡ record { line = 114 ∷ 101 ∷ 102 ∷ 117 ∷ 115 ∷ 101 ∷ 100 ∷ 9 ∷ 48 ∷ 9 ∷ 48 ∷ 9 ∷ 50 ∷ 49 ∷ 10 ∷ []; end = 49 }
unfolding extrapolated reached item_outside first_out_after figures our_figure doublings squarings refused_list refused_line places_then why_text field_text digits_of digits_within
line_clipped = refl

-- no files have no peaks: refused 0 0 16; a k of 1 goes before a malformed file, and so does the standard: refused 0 0 1 5
line_of_none : reach_said (job 40000 2 1) [] ≡ record { line = 114 ∷ 101 ∷ 102 ∷ 117 ∷ 115 ∷ 101 ∷ 100 ∷ 9 ∷ 48 ∷ 9 ∷ 48 ∷ 9 ∷ 49 ∷ 54 ∷ 10 ∷ []; end = 49 }
unfolding reach_said reach_from limits.item_outside downwards extrapolated item_outside refused_list refused_line places_then why_text field_text digits_of digits_within
line_of_none = refl

line_of_k : reach_said (job 40000 1 1) ((120 ∷ []) ∷ []) ≡ record { line = 114 ∷ 101 ∷ 102 ∷ 117 ∷ 115 ∷ 101 ∷ 100 ∷ 9 ∷ 48 ∷ 9 ∷ 48 ∷ 9 ∷ 49 ∷ 54 ∷ 10 ∷ []; end = 49 }
unfolding reach_said limits.item_outside refused_line places_then why_text field_text digits_of digits_within
line_of_k = refl

line_of_standard : reach_said (job 40000 1 0) ((120 ∷ []) ∷ []) ≡ record { line = 114 ∷ 101 ∷ 102 ∷ 117 ∷ 115 ∷ 101 ∷ 100 ∷ 9 ∷ 48 ∷ 9 ∷ 48 ∷ 9 ∷ 49 ∷ 9 ∷ 53 ∷ 10 ∷ []; end = 49 }
unfolding reach_said limits.item_outside refused_line places_then why_text field_text digits_of digits_within
line_of_standard = refl

-- the first file at fault is named, and its line: refused 1 1 10
line_of_file : reach_said (job 40000 2 1) ((120 ∷ []) ∷ []) ≡ record { line = 114 ∷ 101 ∷ 102 ∷ 117 ∷ 115 ∷ 101 ∷ 100 ∷ 9 ∷ 49 ∷ 9 ∷ 49 ∷ 9 ∷ 49 ∷ 48 ∷ 10 ∷ []; end = 49 }
unfolding reach_said reach_from comes_to lines_of first_wrong right is_comma_line is_number leading all_digits limits.item_outside refused_line places_then why_text field_text digits_of digits_within
line_of_file = refl

-- of several files the number comes first, then the line: after two calm samples, refused 2 1 10
line_of_second : reach_said (record { step = 500; ramp = 0; level = 40000; decorrelation = 0; tail = 2; standard = 1 })
    ((48 ∷ 44 ∷ 48 ∷ 10 ∷ 53 ∷ 48 ∷ 48 ∷ 44 ∷ 48 ∷ 10 ∷ []) ∷ (120 ∷ []) ∷ [])
    ≡ record { line = 114 ∷ 101 ∷ 102 ∷ 117 ∷ 115 ∷ 101 ∷ 100 ∷ 9 ∷ 50 ∷ 9 ∷ 49 ∷ 9 ∷ 49 ∷ 48 ∷ 10 ∷ []; end = 49 }
unfolding reach_said reach_from comes_to lines_of first_wrong right is_comma_line is_number leading all_digits value_of is_size
    size_length filled size first_bad limits.most_in_range runs.peaks runs.points runs.started attach groups those larger
    largest tops sum limits.item_outside refused_line places_then why_text field_text digits_of digits_within
line_of_second = refl

-- what is asked: the items of a record, each in its place, one level for both channels
items_asked : items_of (record { step = 1; ramp = 2; level = 3; decorrelation = 4; tail = 5; standard = 6 })
    ≡ record { step = 1; ramp = 2; levels = record { roll = 3; acceleration = 3 }; decorrelation = 4 }
items_asked = refl

-- the letters are A, R and C, each the last of its line
letters_written : letter_text Accept ++ (letter_text Reject ++ letter_text Continue) ≡ 65 ∷ 10 ∷ 82 ∷ 10 ∷ 67 ∷ 10 ∷ []
letters_written = refl

-- what is rounded up is a whole number already where nothing is left
whole_already : divided_up 6 3 ∷ divided_up 7 3 ∷ [] ≡ 2 ∷ 3 ∷ []
whole_already = refl

-- ---- builders
-- one who answers C to everything, one who answers A to everything, and one whose times are all 0
abbrev pub LetterAlways : Letter → Answer → Type 0
LetterAlways x f = (ys : List ℕ) (k c D P q : ℕ) (t : Times) (l : Letter) → f ys k c D P q ≡ Ok (t, l) → l ≡ x

abbrev pub TimesAlways : Times → Answer → Type 0
TimesAlways x f = (ys : List ℕ) (k c D P q : ℕ) (t : Times) (l : Letter) → f ys k c D P q ≡ Ok (t, l) → t ≡ x

pub record Builders : Type 0 where
  pub continue_to_everything : (f : Answer) → Keeps f → LetterAlways Continue f → ⊥
  pub accept_to_everything : (f : Answer) → Keeps f → LetterAlways Accept f → ⊥
  pub zero_for_every_time : (f : Answer) → Keeps f → TimesAlways (three 0 0 0) f → ⊥
  -- and one who refuses everything
  pub refuses_everything : (f : Answer) → Keeps f → ((ys : List ℕ) (k c D P q : ℕ) (t : Times) (l : Letter) → f ys k c D P q ≡ Ok (t, l) → ⊥) → ⊥

accepts : (f : Answer) → Keeps f → f peaks 10 40000 500 1000000 7200000 ≡ Ok (three 3569418850 356906209 0, Accept)
accepts f k = (k peaks 10 40000 500 1000000 7200000).answers ∙ accepted_case

rejects : (f : Answer) → Keeps f → f peaks 10 28500 500 1000000 170706726 ≡ Ok (three 50000000 29289438 170706726, Reject)
rejects f k = (k peaks 10 28500 500 1000000 170706726).answers ∙ rejected_case

pub builders : Builders
builders =
    record {
      continue_to_everything = λ f k a. let e = a peaks 10 40000 500 1000000 7200000 _ _ (accepts f k) in impossible (cc);
      accept_to_everything = λ f k a. let e = a peaks 10 28500 500 1000000 170706726 _ _ (rejects f k) in impossible (cc);
      zero_for_every_time = λ f k a.
          let e = a peaks 10 40000 500 1000000 7200000 _ _ (accepts f k) in
          let d : ◌≡◌ {A = ℕ} 3569418850 0 = ap (λ (t : Times). t.estimate) e in
          omega arith;
      refuses_everything = λ f k a. a peaks 10 40000 500 1000000 7200000 _ _ (accepts f k);
    }
