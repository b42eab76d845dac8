-- Document 02, [8]: roll and acceleration watched together. Assumes nothing.
use Rattle.std.specs.Prelude.{ℕ, ◌≡◌, Bool, true, cond, not, ◌&&◌, ◌||◌, List, [], ◌∷◌, leb, ltb, length, ℤ, pos, Result, Ok, Err}
use Rattle.refusal.specs.declared.Refusal.{Refusal}
use Rattle.refusal.specs.declared.Refusal.TheVariants.{Sample, Acceleration}
use Rattle.sample_size.specs.Above as one
use Rattle.sample_block.specs.declared.Ends.{Ends}
use Rattle.sample_block.specs.Block as one-channel
use Rattle.sample_range.specs.Range.{sample_in_range, first_bad}
use Rattle.sample_channels.specs.declared.Levels.{Levels}
use Rattle.sample_channels.specs.declared.Moment.{Moment}

-- what both channels show at one sample
abbrev pub moment : ℤ → ℤ → Moment
moment x y = record { roll = x; acceleration = y }

-- 0 in both, which stands before the first
abbrev pub still : Moment
still = moment (pos 0) (pos 0)

-- roll above its level or acceleration above its own
abbrev pub above : Levels → Moment → Bool
above a x = one.above a.roll x.roll || one.above a.acceleration x.acceleration

-- in range in both channels
abbrev pub in_range : Moment → Bool
in_range x = sample_in_range x.roll && sample_in_range x.acceleration

-- every one is
unfoldable pub AllInRange : List Moment → Type 0
AllInRange [] = Unit {0}
AllInRange (x ∷ xs) = (in_range x ≡ true) × AllInRange xs

-- an end of a channel's block is above its level
abbrev pub past_ends : ℕ → Ends → Bool
past_ends a e = one.above a e.lowest || one.above a e.highest

-- or out of range
abbrev pub outside_ends : Ends → Bool
outside_ends e = not (sample_in_range e.lowest && sample_in_range e.highest)

-- a sample of the roll is above its level, or one of the acceleration
abbrev pub any_above : Levels → List ℤ → List ℤ → Bool
any_above a xs ys = one-channel.any_above a.roll xs || one-channel.any_above a.acceleration ys

-- the samples of two slices side by side, as far as both go
unfoldable pub moments : List ℤ → List ℤ → List Moment
moments [] ys = []
moments (x ∷ xs) [] = []
moments (x ∷ xs) (y ∷ ys) = moment x y ∷ moments xs ys

-- a sample of the channel is out of range
abbrev pub has_bad : List ℤ → Bool
has_bad xs = ltb (first_bad xs) (length xs)

-- of either channel
abbrev pub any_bad : List ℤ → List ℤ → Bool
any_bad xs ys = has_bad xs || has_bad ys

-- of a bad roll at p and a bad acceleration at q, 2 names the one at the lower place, roll first on a tie
abbrev pub bad_sample : ℕ → ℕ → Refusal
bad_sample p q = cond (leb p q) (Sample p) (Acceleration q)

-- what 2 names, where a sample is bad: the first bad one of the only channel that has one, or the lower one of both
abbrev pub bad_of : List ℤ → List ℤ → Refusal
bad_of xs ys =
    cond (not (has_bad ys)) (Sample (first_bad xs))
    (cond (not (has_bad xs)) (Acceleration (first_bad ys))
    (bad_sample (first_bad xs) (first_bad ys)))

-- 2, if one is
unfoldable pub looked : List ℤ → List ℤ → Result (Unit {0}) Refusal
looked xs ys = cond (any_bad xs ys) (Err (bad_of xs ys)) (Ok tt)
