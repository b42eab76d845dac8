-- What a pass hands out, and a peak more: what is counted, and what is noted in a slice. Assumes nothing.
use Rattle.std.specs.Prelude.{ℕ, ◌+◌, ◌-◌, cond, List, set, ℤ}
use Rattle.peak_groups.specs.declared.Peak.{Peak}
use Rattle.peak_groups.specs.declared.Group.{Group}
use Rattle.peak_groups.specs.Groups.{tops}
use Rattle.peak_groups.specs.Machine.{closed}
use Rattle.peak_groups.specs.Runs.{peaks}
use Rattle.peak_groups.specs.Peaks.{standing, close}
use Rattle.peak_envelope.specs.declared.Totals.{Totals}

-- what a pass over the timed samples hands out
unfoldable pub chosen : ℕ → ℕ → ℕ → ℕ → List ℤ → List Peak
chosen n s D τ timed = tops (close τ) (standing n s (peaks D timed))

-- the totals with a peak of the size m
abbrev pub added : Totals → ℕ → Totals
added t m = record { number = t.number + 1; sum = t.sum + m }

-- a slice where a chain may be closed: its figure stands in the next place, if there is one
abbrev pub noting : Group → ℕ → ℕ → List ℕ → List ℕ
noting g o v slice = cond (closed g o) (set slice (g.opened - 1) v) slice
