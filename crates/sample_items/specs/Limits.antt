-- Document 01, "Numbers a job may carry", with document 02's [8]: items 1 to 4 and 6, and the timed length. Assumes
-- nothing.
use Rattle.std.specs.Prelude.{ℕ, ◌+◌, ◌/◌, Bool, cond, not, ◌&&◌, leb}
use Rattle.sample_items.specs.declared.Items.{Items}

-- x is from low to high
abbrev pub within : ℕ → ℕ → ℕ → Bool
within low high x = leb low x && leb x high

-- item 1, the step D in ms
abbrev pub step_in_range : ℕ → Bool
step_in_range = within 1 10000

-- item 2, the ramp R in samples
abbrev pub ramp_in_range : ℕ → Bool
ramp_in_range = within 0 1000000

-- item 3, the roll's level, and item 6, the acceleration's
abbrev pub level_in_range : ℕ → Bool
level_in_range = within 1 1000000

-- item 4, the decorrelation time τ in ms
abbrev pub decorrelation_in_range : ℕ → Bool
decorrelation_in_range = within 0 10000000

-- the number of the lowest item outside its range, 0 if there is none
unfoldable pub item_outside : Items → ℕ
item_outside items =
    cond (not (step_in_range items.step)) 1
    (cond (not (ramp_in_range items.ramp)) 2
    (cond (not (level_in_range items.levels.roll)) 3
    (cond (not (decorrelation_in_range items.decorrelation)) 4
    (cond (not (level_in_range items.levels.acceleration)) 6 0))))

-- the longest timed length of a record, in ms
abbrev pub longest_time : ℕ
longest_time = 10000000

-- the most samples: R + 1 + floor(10,000,000 / D), refusal 3's bound
abbrev pub most_samples : ℕ → ℕ → ℕ
most_samples D R = R + 1 + longest_time / D

-- the same where the step and the ramp are in range, and 0 where they are not
unfoldable pub most_in_range : ℕ → ℕ → ℕ
most_in_range D R = cond (step_in_range D && ramp_in_range R) (most_samples D R) 0
