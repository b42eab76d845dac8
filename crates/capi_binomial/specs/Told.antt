-- A sum as the three numbers of a lent array, its bounds as four, and what each C function leaves, from the answers
-- that `binomial_sum` and `binomial_bounds` give of what the arrays hold. An array that holds no sum stands for one
-- whose first number is 0, which every entry refuses by 8. Assumes nothing.
use Rattle.std.specs.Prelude.{ℕ, cond, List, [], ◌∷◌, eqb, length, Bool, Result, Ok, Err}
use Rattle.campaign_verdict.specs.declared.Rates.{Rates}
use Rattle.binomial_sum.specs.Answers.{adding, opened}
use Rattle.binomial_sum.specs.declared.Sum.{Sum}
use Rattle.binomial_bounds.specs.Answers.{bounding, rating}
use Rattle.binomial_bounds.specs.declared.Bounds.{Bounds}
use Rattle.capi.specs.Numbers.{flag, number_at, record_of}
use Rattle.capi.specs.Told.{Told, in_places, refused, told}
use Rattle.capi_verdict.specs.Told.{Rating, rated_told}
use Rattle.refusal.specs.declared.Refusal.{Refusal}

-- ---- a sum: three numbers
abbrev pub sum_numbers : ℕ
sum_numbers = 3

abbrev pub of_sum : Sum → List ℕ
of_sum s = s.step ∷ s.failures ∷ s.samples ∷ []

abbrev pub no_sum : Sum
no_sum = record { step = 0; failures = 0; samples = 0 }

abbrev pub sum_at : List ℕ → Sum
sum_at s = record { step = number_at s 0; failures = number_at s 1; samples = number_at s 2 }

unfoldable pub sum_of : List ℕ → Sum
sum_of s = cond (eqb (length s) sum_numbers) (sum_at s) no_sum

-- ---- bounds: four numbers
abbrev pub bounds_numbers : ℕ
bounds_numbers = 4

abbrev pub of_bounds : Bounds → List ℕ
of_bounds b = b.estimate ∷ b.lower ∷ b.upper ∷ b.time ∷ []

-- ---- what is told: an array of another length is 8, before any other refusal
unfoldable pub sum_told : Result Sum Refusal → List ℕ → Told
sum_told (Ok t) s = told 0 0 (of_sum t)
sum_told (Err f) s = refused f s

unfoldable pub sum_kept : Result Sum Refusal → List ℕ → Told
sum_kept a s = in_places sum_numbers s (sum_told a s)

abbrev pub sum_opened : ℕ → List ℕ → Told
sum_opened D s = sum_kept (opened D) s

abbrev pub sum_added : List ℕ → List ℕ → Told
sum_added s r = sum_kept (adding (sum_of s) (record_of r)) s

-- 1 is carried if there is a record, else 0
unfoldable pub bounds_told : Result (Bool × Bounds) Refusal → List ℕ → Told
bounds_told (Ok (b, x)) out = told 0 (flag b) (of_bounds x)
bounds_told (Err f) out = refused f out

unfoldable pub sum_bounded : List ℕ → List ℕ → Told
sum_bounded s out = in_places bounds_numbers out (bounds_told (bounding (sum_of s)) out)

-- as for the rates of a campaign
abbrev pub sum_rated : List ℕ → Rates → Rating
sum_rated s y = rated_told (rating (sum_of s)) y
