-- Document 01, "Refusal numbers", "Order": two things are wrong at once, and the refusal that goes first is given. One
-- declaration for each two neighbours in the order of an entry; demand 1 has the orders for all inputs, here they are
-- computed. 12 stands where document 02's [8] puts it. Assumes nothing.
use mathlib.Core.Path.{◌≡◌, refl}
use mathlib.Core.List.{List, [], ◌∷◌, ◌++◌}
use Prim.Native.Nat.{ℕ}
use lib.IntN.{ℤ, pos}
use lib.ListN.{replicate}
use Rattle.sample_channels.specs.declared.Levels.{Levels}
use Rattle.sample_items.specs.Limits.{item_outside}
use Rattle.sample_range.specs.Range.{first_bad}
use Rattle.record_state.specs.Answers.{opened}
use Rattle.record_state.specs.State.{sound}
use Rattle.record_feed.specs.Answers.{fed}
use Rattle.record_list.specs.Answers.{listed}
use Rattle.crossing_sets.specs.Groups.{attach, firsts, groups}
use Rattle.sample_channels.specs.Channels.{moments}
use Rattle.crossing_places.specs.Reading.{passing}
use Rattle.record_end.specs.Result.{ending}
use Rattle.campaign_state.specs.Answers.{entering}
use Rattle.campaign_state.specs.State as campaigning
use Rattle.sheet_line.specs.Line.{telling}
use Rattle.demands.proofs.Ends.{campaign, enter, feed, line, of_ended, of_listed, opens, quiet}

-- opening: the lowest item, of each two neighbours
pub opening :
    opens 0 1000001 1 1 0 ∷ opens 1 1000001 0 1 0 ∷ opens 1 0 0 1 10000001 ∷ opens 1 0 1 0 10000001 ∷ []
    ≡ (1, 1) ∷ (1, 2) ∷ (1, 3) ∷ (1, 4) ∷ []
unfolding opened item_outside
opening = refl

-- a piece 8, 12, 2, 3
abbrev bad : List ℤ
bad = pos 1000001 ∷ []

-- with R = 5 and a step of 1 ms there are at most 10,000,006 samples: one more is a broken state
pub piece_broken_before_sample : feed (quiet 1 10000007) bad bad ≡ (8, 0)
unfolding fed sound item_outside first_bad
piece_broken_before_sample = refl

pub piece_sample_before_length : feed (quiet 1 10000006) bad bad ≡ (2, 0)
unfolding fed sound item_outside first_bad
piece_sample_before_length = refl

-- closing 8, 4, then 5, 6: a record without a step is broken, and too short
pub end_broken_before_short : of_ended (ending (quiet 0 0)) ≡ (8, 0)
unfolding ending sound item_outside
end_broken_before_short = refl

-- broken, for N is above M, and full
pub enter_broken_before_full : enter (campaign 100000 100001 100000) 1 ≡ (8, 0)
unfolding entering campaigning.sound
enter_broken_before_full = refl

pub enter_full_before_rows : enter (campaign 100000 64 100000) 1 ≡ (5, 0)
unfolding entering campaigning.sound
enter_full_before_rows = refl

-- on a sheet 4, 3, 5, 6
pub sheet_short_before_full : line (campaign 100000 64 100000) 0 ≡ (4, 0)
unfolding telling entering campaigning.sound
sheet_short_before_full = refl

pub sheet_long_before_full : line (campaign 100000 64 100000) 10000001 ≡ (3, 0)
unfolding telling entering campaigning.sound
sheet_long_before_full = refl

pub sheet_full_before_rows : line (campaign 100000 64 100000) 1 ≡ (5, 0)
unfolding telling entering campaigning.sound
sheet_full_before_rows = refl

-- listing 1, 12, 2, 3, 4, 7: at D = 10,000 a record has at most 1,001 samples
abbrev lists : ℕ → List ℤ → List ℤ → ℕ × ℕ
lists D xs ys =
    let levels : Levels = record { roll = 1; acceleration = 1 } in
    of_listed (listed (record { step = D; ramp = 0; levels = levels; decorrelation = 0 }) xs ys 0)

abbrev silence : List ℤ
silence = replicate 1002 (pos 0)

pub list_item_before_sample : lists 0 bad bad ≡ (1, 1)
unfolding listed item_outside first_bad firsts groups attach passing moments
list_item_before_sample = refl

pub list_sample_before_length : lists 10000 (replicate 1001 (pos 0) ++ bad) silence ≡ (2, 1001)
unfolding listed item_outside first_bad firsts groups attach passing moments
list_sample_before_length = refl

pub list_sample_before_short : lists 1 bad (pos 0 ∷ []) ≡ (2, 0)
unfolding listed item_outside first_bad firsts groups attach passing moments
list_sample_before_short = refl

pub list_length_before_room : lists 10000 (replicate 1001 (pos 0) ++ (pos 2 ∷ [])) silence ≡ (3, 0)
unfolding listed item_outside first_bad firsts groups attach passing moments
list_length_before_room = refl
