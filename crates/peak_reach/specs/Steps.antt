-- What the private steps promise one another. Assumes nothing.
use Rattle.std.specs.Prelude.{◌≡◌, false, true, List, ℕ, ◌+◌, ◌*◌, ◌^◌, ◌≤◌, ◌<◌, length}
use Rattle.sample_items.specs.Limits.{level_in_range, step_in_range}
use Rattle.logarithm.specs.Ours.{our_figure}
use Rattle.exponential.specs.Exponential.{one}
use Rattle.peak_tail.specs.Fitting.{tail_outside}
use Rattle.peak_reach.specs.Answers.{first_out}
use Rattle.peak_reach.specs.Figures.{full_sum}

-- a bound above any standard times any count, 2 ^ 60
abbrev pub far : ℕ
far = 1152921504606846976

-- a time r and a mantissa m that it is to be multiplied by
pub record Factors (r m : ℕ) : Type 0 where
  pub some : 1 ≤ r
  pub least : one ≤ m
  pub most : m ≤ 2 * one

-- f is the greatest number with f 2 ^ 31 at most v; past `far` any that is
pub record Within (v f : ℕ) : Type 0 where
  pub reached : f * one ≤ v
  pub longest : (n : ℕ) → n < far → n * one ≤ v → n ≤ f

-- 2 ^ i a / d is x and rest / d
pub record Division (i a d x rest : ℕ) : Type 0 where
  pub whole : x * d + rest ≡ 2 ^ i * a
  pub less : rest < d
  pub small : x < 64 * 2 ^ i

-- what a standard is found from: k times the level's logarithm, the Hill sum with all that it may lack, a shape's
-- half-width w, n thousandths of a peak, and r = 1,000 T
pub record Given (kg sum w n r : ℕ) : Type 0 where
  pub level : kg ≤ 8589946880
  pub some : 1 ≤ sum
  pub most : sum ≤ 8589942784
  pub shape : w ≤ 2236000
  pub counts : 1 ≤ n
  pub few : n ≤ 10000000
  pub time : 1 ≤ r

-- what the three times are found from, once nothing is refused
pub record Ready (u c k sum D P : ℕ) : Type 0 where
  pub two : 2 ≤ k
  pub few : k ≤ 4096
  pub step-some : 1 ≤ D
  pub step_most : D ≤ 10000
  pub some_peak : 1 ≤ u
  pub sum_most : sum ≤ 8589934592
  pub samples_some : k ≤ P
  pub samples_most : P ≤ 100000000
  pub above : u ≤ c
  pub level_most : c ≤ 1000000
  pub spread : 1 ≤ sum
  pub small : k * our_figure c u < 64 * full_sum k sum

-- the list is not refused by 1, 16 or 17
pub record Judged (ys : List ℕ) (k c D : ℕ) : Type 0 where
  pub step : step_in_range D ≡ true
  pub level : level_in_range c ≡ true
  pub tail : tail_outside (length ys) k ≡ false
  pub in_place : length ys ≤ first_out ys
