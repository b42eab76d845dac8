-- Document 01, "Reading a record", computed on small records: what the slate's cases leave open. D = 500, level 40,000,
-- the other channel 0. Assumes nothing.
use mathlib.Core.Path.{◌≡◌, refl}
use mathlib.Core.Bool.{Bool, false, true}
use mathlib.Core.List.{List, [], ◌∷◌, foldl, map}
use Prim.Native.Nat.{ℕ}
use lib.IntN.{ℤ, pos, negsuc}
use Rattle.sample_channels.specs.declared.Levels.{Levels}
use Rattle.sample_channels.specs.declared.Moment.{Moment}
use Rattle.sample_channels.specs.Channels.{moments}
use Rattle.crossing_sets.specs.Walk.{later, walk}
use Rattle.sample_items.specs.declared.Items.{Items}
use Rattle.sample_items.specs.Limits.{item_outside}
use Rattle.sample_range.specs.Range.{first_bad}
use Rattle.crossing_sets.specs.Groups.{attach, firsts, groups}
use Rattle.crossing_places.specs.Reading.{counted_times, crossings, first_crossing, first_of, full_time, last_of, passing, time_at}
use Rattle.refusal.specs.declared.Refusal.TheVariants.{Room}
use Rattle.record_list.specs.Answers.{listed, written}
use Rattle.record_state.specs.declared.Record.{Record}
use Rattle.record_state.specs.Answers.{opened}
use Rattle.record_state.specs.State.{sound, state_of}
use Rattle.record_feed.specs.Answers.{fed}
use Rattle.record_step.specs.Step.{stepped}
use Rattle.record_end.specs.declared.RecordResult.{RecordResult}
use Rattle.record_end.specs.Result.{ending, result_of}
use Rattle.refusal.specs.declared.Refusal.{Refusal}
use Rattle.std.specs.Prelude.{Result, Ok, Err}

abbrev usual : Levels
usual = record { roll = 40000; acceleration = 9810 }

-- with a step of 500 ms, a ramp of R samples and a decorrelation time of τ ms
abbrev usually : ℕ → ℕ → Items
usually R τ = record { step = 500; ramp = R; levels = usual; decorrelation = τ }

abbrev alone : List ℤ → List Moment
alone xs = moments xs (map (λ (x : ℤ). pos 0) xs)

-- timed sample i stands at (i - R)·D
pub timed : map (time_at 500 2) (2 ∷ 3 ∷ 5 ∷ []) ≡ 0 ∷ 500 ∷ 1500 ∷ []
timed = refl

-- a crossing needs i - 1 of at least R: what rises at sample R, or before it, is none
pub none_at_ramp : crossings 2 usual (alone (pos 0 ∷ pos 41000 ∷ pos 0 ∷ pos 41000 ∷ []))
    ∷ crossings 2 usual (alone (pos 0 ∷ pos 0 ∷ pos 41000 ∷ pos 41000 ∷ [])) ∷ []
    ≡ (3 ∷ []) ∷ [] ∷ []
unfolding passing moments
none_at_ramp = refl

-- |x(i-1)| at most a: at the level is not above it, of either sign
pub from_the_level : crossings 0 usual (alone (negsuc 39999 ∷ negsuc 40000 ∷ negsuc 39999 ∷ pos 40001 ∷ []))
    ≡ 1 ∷ 3 ∷ []
unfolding passing moments
from_the_level = refl

-- the first crossing is the first failure; where there is none its place is the mark that is asked for
pub first_or_none : first_crossing 99 0 usual (alone (pos 0 ∷ pos 41000 ∷ pos 0 ∷ pos 41000 ∷ []))
    ∷ first_crossing 99 0 usual (alone (pos 0 ∷ pos 0 ∷ [])) ∷ []
    ≡ 1 ∷ 99 ∷ []
unfolding passing moments first_of
first_or_none = refl

-- the full time (n - 1 - R)·D, from n = R + 2 on
pub full_times : map (full_time 500 2) (4 ∷ 5 ∷ []) ≡ 500 ∷ 1000 ∷ []
full_times = refl

-- ---- a record's state after all its samples, and what ending it gives: seven crossings in two groups (the slate's)
abbrev twice : List ℤ
twice =
    pos 0 ∷ pos 0 ∷ pos 0 ∷ pos 41000 ∷ pos 0 ∷ negsuc 40999 ∷ pos 0 ∷ pos 41000 ∷ pos 0 ∷ negsuc 40999 ∷ pos 0
    ∷ pos 0 ∷ pos 0 ∷ pos 0 ∷ pos 41000 ∷ pos 0 ∷ negsuc 40999 ∷ pos 0 ∷ pos 41000 ∷ []

abbrev of_ending : Result RecordResult Refusal → List ℕ
of_ending (Ok x) = x.crossings ∷ x.counted ∷ x.first ∷ x.exposure ∷ x.largest ∷ []
of_ending (Err r) = []

-- crossings, counted, the first failure's place, exposure, the largest set; R = 2: a failed record's exposure is the
-- first failure's time
pub ended_failed : of_ending (ending (state_of (usually 2 2000) (alone twice))) ≡ 7 ∷ 2 ∷ 3 ∷ 500 ∷ 4 ∷ []
unfolding ending sound item_outside state_of passing moments groups attach walk later first_of last_of
ended_failed = refl

-- without a failure it is the full time
pub ended_unfailed : of_ending (ending (state_of (usually 2 2000) (alone (pos 0 ∷ pos 0 ∷ pos 0 ∷ pos 0 ∷ pos 0 ∷ []))))
    ≡ 0 ∷ 0 ∷ 0 ∷ 1000 ∷ 0 ∷ []
unfolding ending sound item_outside state_of passing moments groups attach walk later first_of last_of
ended_unfailed = refl

-- ---- pieces
abbrev of_pieces : Result Record Refusal → List ℕ
of_pieces (Ok r) = r.n ∷ r.crossings ∷ r.first ∷ r.last_crossing ∷ []
of_pieces (Err r) = []

abbrev next : List ℤ → Result Record Refusal → Result Record Refusal
next xs (Ok r) = fed r xs (map (λ (x : ℤ). pos 0) xs)
next xs (Err r) = Err r

-- a crossing at a cut: the last sample of the piece before is kept; an empty piece between changes nothing
pub crossing_at_cut : of_pieces (next (pos 41000 ∷ []) (next [] (next (pos 0 ∷ pos 0 ∷ []) (opened (usually 0 0)))))
    ≡ 3 ∷ 1 ∷ 2 ∷ 2 ∷ []
unfolding opened item_outside state_of passing moments groups attach walk later first_of last_of fed sound first_bad stepped
crossing_at_cut = refl

-- and above at the end of the piece before, there is none
pub above_at_cut : of_pieces (next (pos 41000 ∷ []) (next (pos 41000 ∷ []) (opened (usually 0 0)))) ≡ 2 ∷ 0 ∷ 0 ∷ 0 ∷ []
unfolding opened item_outside state_of passing moments groups attach walk later first_of last_of fed sound first_bad stepped
above_at_cut = refl

-- ---- counted times
-- in order into a lent slice, from its start; places beyond the last stay, and their number is answered
abbrev xs : List ℤ
xs = pos 0 ∷ pos 41000 ∷ pos 0 ∷ pos 41000 ∷ []

pub times_listed : counted_times (usually 0 0) (alone xs) ≡ 500 ∷ 1500 ∷ []
unfolding passing moments groups attach firsts
times_listed = refl

pub times_number : listed (usually 0 0) xs (map (λ (x : ℤ). pos 0) xs) 3 ≡ Ok 2
unfolding listed item_outside first_bad passing moments groups attach firsts
times_number = refl

pub times_written : written (Ok 2) (500 ∷ 1500 ∷ []) (7 ∷ 8 ∷ 9 ∷ []) ≡ 500 ∷ 1500 ∷ 9 ∷ []
unfolding written
times_written = refl

-- a refusal leaves the slice
pub times_refused : written (Err (Room 2)) (500 ∷ 1500 ∷ []) (7 ∷ []) ≡ 7 ∷ []
unfolding written
times_refused = refl
