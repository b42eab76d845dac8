-- What the C function of [14] leaves: what `peak_reach::extrapolate` answers, told by a number, what it carries, and
-- the three numbers of a lent array. Assumes nothing.
use Rattle.std.specs.Prelude.{ℕ, List, [], ◌∷◌, Result, Ok, Err}
use Rattle.peak_reach.specs.Answers.{extrapolated}
use Rattle.peak_reach.specs.declared.Letter.{Letter}
use Rattle.peak_reach.specs.declared.Letter.TheVariants.{Accept, Continue, Reject}
use Rattle.peak_reach.specs.declared.Times.{Times}
use Rattle.capi.specs.Told.{Told, in_places, refused, told}
use Rattle.refusal.specs.declared.Refusal.{Refusal}

-- ---- the times: three numbers
abbrev pub times_numbers : ℕ
times_numbers = 3

abbrev pub of_times : Times → List ℕ
of_times t = t.estimate ∷ t.accepted ∷ t.rejected ∷ []

-- the codes of a verdict
abbrev pub letter_code : Letter → ℕ
letter_code Accept = 1
letter_code Reject = 2
letter_code Continue = 3

-- ---- what is told: an array of another length is 8, before any other refusal
unfoldable pub reach_told : Result (Times × Letter) Refusal → List ℕ → Told
reach_told (Ok (t, l)) out = told 0 (letter_code l) (of_times t)
reach_told (Err f) out = refused f out

unfoldable pub beyond_told : List ℕ → ℕ → ℕ → ℕ → ℕ → ℕ → List ℕ → Told
beyond_told ys k c D P q out = in_places times_numbers out (reach_told (extrapolated ys k c D P q) out)
