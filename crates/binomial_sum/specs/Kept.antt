-- A sum's relations for refusal 8 again, as facts about numbers: what the test `sound` finds (`kept_from`,
-- `sound_from`). Assumes nothing.
use Rattle.std.specs.Prelude.{◌≤◌}
use Rattle.binomial_sum.specs.declared.Sum.{Sum}

pub record Kept (s : Sum) : Type 0 where
  pub step_low : 1 ≤ s.step
  pub step-high : s.step ≤ 10000
  pub failures : s.failures ≤ 10000
  pub samples : s.samples ≤ 100000000
  pub within : s.failures ≤ s.samples
