-- [14]: what the entry answers, in the request's order of refusals, and what its times and its letter say. Assumes
-- nothing.
use Rattle.std.specs.Prelude.{◌≡◌, Bool, cond, not, ◌&&◌, ◌||◌, List, [], ◌∷◌, ℕ, suc, ◌+◌, ◌-◌, ◌*◌, ◌≤◌, ◌<◌, eqb, leb, ltb, length, Result, Ok, Err}
use Rattle.refusal.specs.declared.Refusal.TheVariants.{Item, LowLevel, NoSpread, Peak, Tail, TimedSamples}
use Rattle.sample_items.specs.Limits.{level_in_range, step_in_range, within}
use Rattle.poisson.specs.Rows.{million}
use Rattle.logarithm.specs.Ours.{our_figure}
use Rattle.peak_tail.specs.Fitting.{tail_outside}
use Rattle.peak_tail.specs.Hill.{hill_sum, kth}
use Rattle.peak_reach.specs.declared.Times.{Times}
use Rattle.peak_reach.specs.declared.Letter.{Letter}
use Rattle.peak_reach.specs.declared.Letter.TheVariants.{Accept, Reject, Continue}
use Rattle.peak_reach.specs.Figures.{count_width, full_sum, longest_standard, shape_width, times_of}
use Rattle.peak_reach.specs.Reach.{Accepted, AcceptedWell, AtMostEstimate, Rejected, RejectedWell}
use Rattle.refusal.specs.declared.Refusal.{Refusal}

-- item 5, the standard
abbrev pub standard_in_range : ℕ → Bool
standard_in_range = within 1 longest_standard

-- 1: the lowest of items 1, 3 and 5 that is outside its range, 0 if there is none
unfoldable pub item_outside : ℕ → ℕ → ℕ → ℕ
item_outside D c q = cond (not (step_in_range D)) 1 (cond (not (level_in_range c)) 3 (cond (not (standard_in_range q)) 5 0))

-- 17: the place of the first value that is 0 or above the one before it; the length where there is none
unfoldable pub first_out_after : ℕ → List ℕ → ℕ
first_out_after before [] = 0
first_out_after before (y ∷ ys) = cond (within 1 before y) (suc (first_out_after y ys)) 0

-- the first peak has 1,000,000 before it, and so no peak is above that
abbrev pub first_out : List ℕ → ℕ
first_out ys = first_out_after 1000000 ys

-- 19: the timed samples are fewer than the peaks of the tail, or too many
abbrev pub samples_outside : ℕ → ℕ → Bool
samples_outside k P = not (within k 100000000 P)

-- 21: the Hill sum S is 0, or the exponent by our figures is 64 or more
abbrev pub no_spread : ℕ → ℕ → ℕ → Bool
no_spread k S g = eqb S 0 || leb (64 * full_sum k S) (k * g)

-- the letter for a standard: A if q ≤ A, R if B is not 0 and q ≥ B, else C
abbrev pub letter_for : ℕ → Times → Letter
letter_for q t = cond (leb q t.accepted) Accept (cond (leb 1 t.rejected && leb t.rejected q) Reject Continue)

-- our three times of peaks that lie downwards
abbrev pub times : List ℕ → ℕ → ℕ → ℕ → ℕ → Times
times ys k c D P = times_of (kth ys k) c k (hill_sum ys k) D P

-- the list is judged: 19, 20, 21 or the times and the letter
unfoldable pub reached : List ℕ → ℕ → ℕ → ℕ → ℕ → ℕ → Result (Times × Letter) Refusal
reached ys k c D P q =
    cond (samples_outside k P) (Err TimedSamples)
    (cond (ltb c (kth ys k)) (Err (LowLevel (kth ys k)))
    (cond (no_spread k (hill_sum ys k) (our_figure c (kth ys k))) (Err NoSpread)
    (Ok (times ys k c D P, letter_for q (times ys k c D P)))))

-- 1 with the lowest item, 16, 17, and what the list comes to
unfoldable pub extrapolated : List ℕ → ℕ → ℕ → ℕ → ℕ → ℕ → Result (Times × Letter) Refusal
extrapolated ys k c D P q =
    cond (not (eqb (item_outside D c q) 0)) (Err (Item (item_outside D c q)))
    (cond (tail_outside (length ys) k) (Err Tail)
    (cond (ltb (first_out ys) (length ys)) (Err (Peak (first_out ys)))
    (reached ys k c D P q)))

-- ---- what the times say, by the definitions that have no figure of ours in them
pub record RightBy (ys : List ℕ) (k c P D h w : ℕ) (t : Times) : Type 0 where
  pub estimate : AtMostEstimate ys k c P D t.estimate
  pub estimate_near : (q : ℕ) → q ≤ longest_standard → AcceptedWell ys k c P D 0 0 q → q ≤ t.estimate
  pub accepted : Accepted ys k c P D h w t.accepted
  pub accepted_near : (q : ℕ) → q ≤ longest_standard → AcceptedWell ys k c P D h w q → q ≤ t.accepted
  pub rejected : 1 ≤ t.rejected → Rejected ys k c P D h w t.rejected
  pub rejected_near : (q : ℕ) → q ≤ longest_standard → RejectedWell ys k c P D h w q → (1 ≤ t.rejected) × (t.rejected ≤ q)
  pub first : t.accepted ≤ t.estimate
  pub last : 1 ≤ t.rejected → t.estimate < t.rejected

abbrev pub Right : List ℕ → ℕ → ℕ → ℕ → ℕ → Times → Type 0
Right ys k c P D t = RightBy ys k c P D (count_width k P) (shape_width k) t

-- the counted answer: with r = 1,000 T, the longest standard q with q (1,000 k) at most r, the longest with
-- q (1,000 k + h) below r, and the shortest with q (1,000 k - h) above r, where both lower ends are above 0
pub record CountedTimes (k h w r : ℕ) (t : Times) : Type 0 where
  pub estimate_within : t.estimate * (1000 * k) ≤ r
  pub estimate_longest : (q : ℕ) → q ≤ longest_standard → q * (1000 * k) ≤ r → q ≤ t.estimate
  pub accepted_below : t.accepted * (1000 * k + h) < r
  pub accepted_longest : (q : ℕ) → q ≤ longest_standard → q * (1000 * k + h) < r → q ≤ t.accepted
  pub rejected_above : 1 ≤ t.rejected → r < t.rejected * (1000 * k - h)
  pub rejected_shortest : w < million → h < 1000 * k → (q : ℕ) → q ≤ longest_standard → r < q * (1000 * k - h)
      → (1 ≤ t.rejected) × (t.rejected ≤ q)

-- of a refusal nothing is left to say
abbrev pub Told : List ℕ → ℕ → ℕ → ℕ → ℕ → Result (Times × Letter) Refusal → Type 0
Told ys k c P D (Ok (t, l)) = Right ys k c P D t
Told ys k c P D (Err r) = Unit {0}

pub record ExtrapolatesTo (ys : List ℕ) (k c D P q : ℕ) (x : Result (Times × Letter) Refusal) : Type 0 where
  pub answers : x ≡ extrapolated ys k c D P q
  pub told : Told ys k c P D x
