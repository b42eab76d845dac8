-- The second pass: the chains' largest, handed out as the chains close, for samples handed over in pieces. Assumes
-- nothing.
use Rattle.std.specs.Prelude.{ℕ, ◌+◌, ◌≤◌, ◌≡◌, Bool, cond, not, ◌&&◌, length, drop, ltb, leb, ℤ, Option, Some, None, Result, Ok, Err}
use mathlib.Core.List.{List, [], ◌∷◌, ◌++◌, foldl, map}
use Rattle.refusal.specs.declared.Refusal.TheVariants.{Item, TooLong, Room, BrokenState}
use Rattle.sample_items.specs.Limits.{step_in_range, decorrelation_in_range, most_in_range}
use Rattle.peak_groups.specs.declared.Peak.{Peak}
use Rattle.peak_groups.specs.Machine.{closed}
use Rattle.peak_groups.specs.Peaks.{short}
use Rattle.peak_machine.specs.Step as step
use Rattle.peak_machine.specs.Step.{size_of, moment_of}
use Rattle.peak_stream.specs.declared.Handing.{Handing}
use Rattle.peak_stream.specs.Reading.{fresh, read, closes, readable}
use Rattle.refusal.specs.declared.Refusal.{Refusal}

-- no samples yet: n peaks with the sum s are to come
abbrev pub waiting : ℕ → ℕ → ℕ → ℕ → Handing
waiting D τ n s = record { reading = fresh D; envelope = step.fresh; decorrelation = τ; number = n; sum = s }

-- 1, for item 1 or item 4
unfoldable pub begun : ℕ → ℕ → ℕ → ℕ → Result (Handing × ℕ) Refusal
begun D τ n s =
    cond (not (step_in_range D)) (Err (Item 1))
    (cond (not (decorrelation_in_range τ)) (Err (Item 4))
    (Ok (waiting D τ n s, 0)))

-- one sample more
unfoldable pub moved : Handing → ℤ → Handing
moved h x =
    let r = h.reading in
    let next = read r x in
    record {
      reading = next;
      envelope = cond (closes r next) (step.stepped h.number h.sum h.decorrelation h.envelope r.best) h.envelope;
      decorrelation = h.decorrelation;
      number = h.number;
      sum = h.sum;
    }

-- from h to f a chain was closed
abbrev pub closing : Handing → Handing → Bool
closing h f = closed h.envelope.chains f.envelope.chains.opened

-- what is handed out on the way through a piece
unfoldable pub closed_by : Handing → List ℤ → List Peak
closed_by h [] = []
closed_by h (x ∷ xs) = cond (closing h (moved h x)) (h.envelope.chains.best ∷ closed_by (moved h x) xs) (closed_by (moved h x) xs)

-- and at the end: the open chain's
unfoldable pub at_end : Handing → List Peak
at_end h = cond (ltb 0 h.envelope.chains.opened) (h.envelope.chains.best ∷ []) []

-- the same as an answer
unfoldable pub last_of : Handing → Option Peak
last_of h = cond (ltb 0 h.envelope.chains.opened) (Some h.envelope.chains.best) None

-- the relations of refusal 8
abbrev pub ready : Handing → Bool
ready h = readable h.reading && (leb h.envelope.stretches.opened h.reading.n && leb h.envelope.chains.opened h.reading.n)

-- 8; 3; 7, where a slice has fewer places than the piece has samples; or the state with the piece, and how many peaks
-- it closed
unfoldable pub hands_on : Handing → List ℤ → ℕ → ℕ → Result (Handing × ℕ) Refusal
hands_on h xs sizes times =
    cond (not (ready h)) (Err BrokenState)
    (cond (ltb (most_in_range h.reading.step 0) (h.reading.n + length xs)) (Err TooLong)
    (cond (short sizes times (length xs)) (Err (Room (length xs)))
    (Ok (foldl moved h xs, length (closed_by h xs)))))

-- a slice afterwards: the figures in order from its start and the rest as it stood; on a refusal all as it stood
unfoldable pub noted : Result (Handing × ℕ) Refusal → List ℕ → List ℕ → List ℕ
noted (Ok (h, k)) figures slice = figures ++ drop k slice
noted (Err f) figures slice = slice

-- the whole call
pub record HandsOver (h : Handing) (xs : List ℤ) (sizes times : List ℕ) (answer : Result (Handing × ℕ) Refusal) (sizesAfter timesAfter : List ℕ) : Type 0 where
  pub answers : answer ≡ hands_on h xs (length sizes) (length times)
  pub few : length (closed_by h xs) ≤ length xs
  pub sizes_left : sizesAfter ≡ noted answer (map size_of (closed_by h xs)) sizes
  pub times_left : timesAfter ≡ noted answer (map moment_of (closed_by h xs)) times

-- piece after piece into slices of so many places, and the end: the peaks in the order in which they are handed out,
-- until a piece is refused
unfoldable pub handing_out : ℕ → ℕ → List (List ℤ) → Result (Handing × ℕ) Refusal → List Peak
handing_out sizes times [] (Ok (h, k)) = at_end h
handing_out sizes times [] (Err f) = []
handing_out sizes times (p ∷ ps) (Ok (h, k)) = closed_by h p ++ handing_out sizes times ps (hands_on h p sizes times)
handing_out sizes times (p ∷ ps) (Err f) = []

-- pieces of at most so many samples
abbrev pub Pieces : ℕ → List (List ℤ) → Type 0
Pieces n [] = Unit {0}
Pieces n (p ∷ ps) = (length p ≤ n) × Pieces n ps
