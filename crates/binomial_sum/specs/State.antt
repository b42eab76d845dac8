-- Document 02, [7]: a sum's state, what it has to keep for refusal 8, and what adding a record does. N is the counted
-- groups, P the timed samples. Assumes nothing.
use Rattle.std.specs.Prelude.{Bool, ◌&&◌, ◌||◌, ℕ, ◌+◌, ◌-◌, leb, ltb}
use Rattle.sample_items.specs.Limits.{step_in_range}
use Rattle.record_state.specs.declared.Record.{Record}
use Rattle.binomial_sum.specs.declared.Sum.{Sum}

abbrev pub most_failures : ℕ
most_failures = 10000

abbrev pub most_samples : ℕ
most_samples = 100000000

-- a sum of no records: N = P = 0
abbrev pub empty : ℕ → Sum
empty D = record { step = D; failures = 0; samples = 0 }

-- the timed samples of a record, n - R
abbrev pub timed : Record → ℕ
timed r = r.n - r.items.ramp

-- g groups and p timed samples more
abbrev pub grown : Sum → ℕ → ℕ → Sum
grown s g p = record { step = s.step; failures = s.failures + g; samples = s.samples + p }

-- N would pass 10,000 or P 100,000,000
abbrev pub would_pass : Sum → ℕ → ℕ → Bool
would_pass s g p = ltb most_failures (s.failures + g) || ltb most_samples (s.samples + p)

-- a sum needs D, N and P in range, N at most P
unfoldable pub sound : Sum → Bool
sound s =
    step_in_range s.step && (leb s.failures most_failures && (leb s.samples most_samples && leb s.failures s.samples))
