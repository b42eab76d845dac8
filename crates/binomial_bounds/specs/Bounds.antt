-- Document 02, [7]: the bounds in thousandths of a failure, and the rates. Assumes nothing.
use Rattle.std.specs.Prelude.{cond, ℕ, ◌+◌, ◌-◌, ◌*◌, eqb}
use Rattle.binomial_sum.specs.declared.Sum.{Sum}
use Rattle.campaign_verdict.specs.Figures.{quotient, zero64}
use Rattle.campaign_verdict.specs.declared.Rates.{Rates}
use Rattle.binomial_bounds.specs.declared.Bounds.{Bounds}
use Rattle.binomial_bounds.specs.HalfWidth.{half_width}

-- a sum's half-width m
abbrev pub width : Sum → ℕ
width s = half_width s.failures s.samples

-- 1,000·N, 1,000·N - m, which is 0 where that falls below, 1,000·N + m; and P·D
abbrev pub bounds_of : Sum → Bounds
bounds_of s =
    record {
      estimate = 1000 * s.failures;
      lower = 1000 * s.failures - width s;
      upper = 1000 * s.failures + width s;
      time = s.samples * s.step;
    }

-- each over P·D, one rounded division, is its rate: thousandths in ms are failures in s
abbrev pub three : Sum → Rates
three s =
    record {
      estimate = quotient (bounds_of s).estimate (bounds_of s).time;
      lower = quotient (bounds_of s).lower (bounds_of s).time;
      upper = quotient (bounds_of s).upper (bounds_of s).time;
    }

-- without a record each is 0
abbrev pub rates_of : Sum → Rates
rates_of s = cond (eqb s.samples 0) (record { estimate = zero64; lower = zero64; upper = zero64 }) (three s)
