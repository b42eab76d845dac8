-- [14], our figures: the three times as definitions that compute, from the k-th peak u, the level c, the Hill sum S of
-- our logarithms and our e ^ x, each step rounded to the safe side. `Right` (Answers) says how near they are to the
-- definitions of `Reach`, which have no figure of ours in them. Assumes nothing.
use Rattle.std.specs.Prelude.{Bool, cond, ◌||◌, ℕ, ◌+◌, ◌-◌, ◌*◌, ◌/◌, ◌%◌, eqb, leb, ltb}
use Rattle.poisson.specs.Rows.{million}
use Rattle.logarithm.specs.Ours.{our_figure}
use Rattle.exponential.specs.Exponential.{one, past, units}
use Rattle.exponential.specs.Ours.{down_times, up_times}
use Rattle.root.specs.HalfWidth.{half_width}
use Rattle.root.specs.Root.{least_root}
use Rattle.peak_reach.specs.declared.Times.{Times}

-- item 5's longest standard, in ms
abbrev pub longest_standard : ℕ
longest_standard = 100000000000

abbrev pub lesser : ℕ → ℕ → ℕ
lesser a b = cond (leb a b) a b

-- a / d, rounded up
abbrev pub divided_up : ℕ → ℕ → ℕ
divided_up a d = a / d + cond (eqb (a % d) 0) 0 1

-- the half-widths by 2.236: h of the count, in thousandths, and w of the shape, in millionths
abbrev pub count_width : ℕ → ℕ → ℕ
count_width k P = half_width 2236 k P

abbrev pub shape_width : ℕ → ℕ
shape_width k = least_root (2236000 * 2236000) k

-- each of our logarithms lacks less than 2 units of the true one, and that of Y(k) / Y(k) nothing: the Hill sum with
-- all that it may lack, and the level's logarithm
abbrev pub full_sum : ℕ → ℕ → ℕ
full_sum k S = S + 2 * (k - 1)

abbrev pub full_level : ℕ → ℕ → ℕ
full_level u c = cond (eqb c u) 0 (our_figure c u + 2)

-- kg / (H (1 + w)) and kg / (H (1 - w)) in units of 2 ^ -20, rounded down and up
abbrev pub exponent_down : ℕ → ℕ → ℕ → ℕ
exponent_down kg H w = units * (million * kg) / (H * (million + w))

abbrev pub exponent_up : ℕ → ℕ → ℕ → ℕ
exponent_up kg H w = divided_up (units * (million * kg)) (H * (million - w))

-- the greatest q with q n at most v 2 ^ -31, no longer than a standard may be
abbrev pub longest_within : ℕ → ℕ → ℕ
longest_within v n = lesser longest_standard (v / (n * one))

-- the longest standard q with q n at most r e ^ x, x rounded down, for a `less` of 0, and with q n below that for 1: of
-- whole numbers, below v is at most v - 1
unfoldable pub longest_by : ℕ → ℕ → ℕ → ℕ → ℕ → ℕ → ℕ
longest_by kg H w n r less = longest_within (r * down_times (exponent_down kg H w) - less) n

-- the shortest standard q with r e ^ x below q n; 0 where there is none, or x, which is rounded up, is 64 or more
abbrev pub shortest_after : ℕ → ℕ
shortest_after q = cond (ltb q longest_standard) (q + 1) 0

unfoldable pub shortest_above : ℕ → ℕ → ℕ → ℕ → ℕ → ℕ
shortest_above kg H w n r =
    cond (leb past (exponent_up kg H w)) 0 (shortest_after (longest_within (r * up_times (exponent_up kg H w)) n))

-- there is no lower end: the half-width of the shape, or of the count, is as much as that itself or more
abbrev pub no_lower_end : ℕ → ℕ → ℕ → Bool
no_lower_end k h w = leb million w || leb (1000 * k) h

-- the times by half-widths h and w: r is 1,000 T, and counts are in thousandths
unfoldable pub rejected_by : ℕ → ℕ → ℕ → ℕ → ℕ → ℕ → ℕ
rejected_by k G S h w r = cond (no_lower_end k h w) 0 (shortest_above (k * G) S w (1000 * k - h) r)

abbrev pub times_by : ℕ → ℕ → ℕ → ℕ → ℕ → ℕ → ℕ → Times
times_by u c k S h w r =
    record {
      estimate = longest_by (k * our_figure c u) (full_sum k S) 0 (1000 * k) r 0;
      accepted = longest_by (k * our_figure c u) (full_sum k S) w (1000 * k + h) r 1;
      rejected = rejected_by k (full_level u c) S h w r;
    }

abbrev pub times_of : ℕ → ℕ → ℕ → ℕ → ℕ → ℕ → Times
times_of u c k S D P = times_by u c k S (count_width k P) (shape_width k) (1000 * (P * D))
