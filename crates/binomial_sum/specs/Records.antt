-- A sum over the whole list of its records: document 02, [7], "add up N, the counted groups, and P, the timed samples".
-- Assumes nothing.
use Rattle.std.specs.Prelude.{◌≡◌, List, [], ◌∷◌, ℕ, ◌+◌, Ok}
use Rattle.record_state.specs.declared.Record.{Record}
use Rattle.binomial_sum.specs.declared.Sum.{Sum}
use Rattle.binomial_sum.specs.Answers.{adding}
use Rattle.binomial_sum.specs.State.{timed}

-- N
unfoldable pub groups_in : List Record → ℕ
groups_in [] = 0
groups_in (r ∷ rs) = r.groups + groups_in rs

-- P
unfoldable pub timed_in : List Record → ℕ
timed_in [] = 0
timed_in (r ∷ rs) = timed r + timed_in rs

-- the sum of those records at the step D
unfoldable pub sum_of : ℕ → List Record → Sum
sum_of D rs = record { step = D; failures = groups_in rs; samples = timed_in rs }

-- records added one after the other, all taken, lead from s to t
pub data AllAdded : Sum → List Record → Sum → Type 0 where
  none : {s : Sum} → AllAdded s [] s
  one : {s t u : Sum} {r : Record} {rs : List Record} → adding s r ≡ Ok t → AllAdded t rs u → AllAdded s (r ∷ rs) u
