-- What each C function of a record leaves, from the answers that the crates below give to the record that the array
-- holds. Assumes nothing.
use Rattle.std.specs.Prelude.{ℕ, List, ℤ, length, Result, Ok, Err}
use Rattle.refusal.specs.Numbers.{channel_of}
use Rattle.sample_channels.specs.declared.Levels.{Levels}
use Rattle.sample_items.specs.declared.Items.{Items}
use Rattle.sample_channels.specs.Channels.{moments}
use Rattle.record_list.specs.Answers.{listed, written}
use Rattle.record_state.specs.Answers.{opened}
use Rattle.record_feed.specs.Answers.{fed}
use Rattle.crossing_places.specs.Reading.{counted_times}
use Rattle.record_end.specs.Result.{ending}
use Rattle.capi.specs.Numbers.{record_of}
use Rattle.capi.specs.Told.{Told, channel_in, record_kept, refused, result_kept, told}
use Rattle.refusal.specs.declared.Refusal.{Refusal}

-- items 3 and 6
abbrev pub levels_of : ℕ → ℕ → Levels
levels_of a b = record { roll = a; acceleration = b }

-- the items as C hands them over: its numbers stand in the header's order, 1, 2, 3, 4, 6
abbrev pub items_of : ℕ → ℕ → ℕ → ℕ → ℕ → Items
items_of D R a τ b = record { step = D; ramp = R; levels = levels_of a b; decorrelation = τ }

abbrev pub record_opened : Items → List ℕ → Told
record_opened items s = record_kept (opened items) s

abbrev pub record_fed : List ℕ → List ℤ → List ℤ → Told
record_fed s xs ys = record_kept (fed (record_of s) xs ys) s

-- the channel that it names
abbrev pub channel_fed : List ℕ → List ℤ → List ℤ → ℕ
channel_fed s xs ys = channel_in (fed (record_of s) xs ys)

-- the lent array is that of the result
abbrev pub record_ended : List ℕ → List ℕ → Told
record_ended s x = result_kept (ending (record_of s)) x

-- the number of times is carried, and the lent array is that of the times
unfoldable pub list_told : Result ℕ Refusal → List ℕ → Told
list_told (Ok k) s = told 0 k s
list_told (Err f) s = refused f s

abbrev pub record_listed : Items → List ℤ → List ℤ → List ℕ → Told
record_listed items xs ys s =
    list_told (listed items xs ys (length s))
    (written (listed items xs ys (length s)) (counted_times items (moments xs ys)) s)

unfoldable pub list_channel : Result ℕ Refusal → ℕ
list_channel (Ok k) = 0
list_channel (Err f) = channel_of f

abbrev pub channel_listed : Items → List ℤ → List ℤ → List ℕ → ℕ
channel_listed items xs ys s = list_channel (listed items xs ys (length s))
