-- What `bin/count` writes of two small files, byte for byte, computed of the definition: each refusal with its line and
-- its channel or item. Each declaration has the name of its sentence. Assumes nothing.
use mathlib.Core.Path.{◌≡◌, refl}
use mathlib.Core.Bool.{false}
use mathlib.Core.List.{List, [], ◌∷◌}
use Prim.Native.Nat.{ℕ}
use Rattle.refusal.specs.declared.Refusal.TheVariants.{BrokenState, CommaLine, TooLong}
use Rattle.decimal.specs.Decimal.{all_digits, digits_of, digits_within, is_number, value_of}
use Rattle.decimal.specs.Field.{field_text}
use Rattle.decimal.specs.Leading.{leading}
use Rattle.decimal.specs.Lines.{lines_of}
use Rattle.degrees.specs.Degrees.{filled, is_size, size, size_length}
use Rattle.comma_line.specs.Line.{is_comma_line, right}
use Rattle.comma_line.specs.Text.{first_wrong}
use Rattle.sample_range.specs.Range.{first_bad}
use Rattle.sample_items.specs.declared.Items.{Items}
use Rattle.sample_items.specs.Limits.{item_outside}
use Rattle.sample_channels.specs.Channels.{moments}
use Rattle.crossing_places.specs.Reading.{first_of, passing}
use Rattle.crossing_sets.specs.Groups.{attach, groups}
use Rattle.crossing_sets.specs.Walk.{later, walk}
use Rattle.record_state.specs.State.{sound}
use Rattle.comma_stream.specs.declared.Follow.{Follow}
use Rattle.comma_stream.specs.Follow.{after_lines, bytes_of, resting, right_lines}
use Rattle.desk_line.specs.Said.{Said, places_then, refused_line, why_text}
use Rattle.comma_count.specs.Line.{figures_line, first_text, result_for}
use Rattle.comma_pair.specs.Line.{channel_line, pair_said, pair_said_of_lines}
use Rattle.comma_pair.specs.Taking.{judged, side_by_side, taking, watched}
use Rattle.sheet_pairs.specs.Files.{channel_record, refused_record_of}
use Rattle.demands.proofs.DeskCases.{still}
use Rattle.refusal.specs.declared.Refusal.{Refusal}
use Rattle.record_state.specs.declared.Record.{Record}
use Rattle.std.specs.Prelude.{Result, Ok, Err}

-- the step 500 ms, no ramp, 40 degrees, 9.81 m/s², 1,500 ms
abbrev items : Items
items = record { step = 500; ramp = 0; levels = record { roll = 40000; acceleration = 9810 }; decorrelation = 1500 }

-- files that were read, and files that were refused
abbrev read : List ℕ → Said
read bytes = record { line = bytes; end = 48 }

abbrev refused : List ℕ → Said
refused bytes = record { line = bytes; end = 49 }

-- 8 samples from 0 to 3500 ms: the roll passes its level at 500 and 3000 ms, the acceleration at 1500 ms, and not again at
-- 2000 ms, where it takes over from nobody: 3 crossings in 2 groups, the largest set 500 and 3000: 8 3 2 2 500 500
pair_failed : pair_said items (48 ∷ 44 ∷ 48 ∷ 10 ∷ 53 ∷ 48 ∷ 48 ∷ 44 ∷ 52 ∷ 49 ∷ 10 ∷ 49 ∷ 48 ∷ 48 ∷ 48 ∷ 44 ∷ 48 ∷ 10
    ∷ 49 ∷ 53 ∷ 48 ∷ 48 ∷ 44 ∷ 48 ∷ 10 ∷ 50 ∷ 48 ∷ 48 ∷ 48 ∷ 44 ∷ 48 ∷ 10 ∷ 50 ∷ 53 ∷ 48 ∷ 48 ∷ 44 ∷ 48 ∷ 10 ∷ 51 ∷ 48
    ∷ 48 ∷ 48 ∷ 44 ∷ 45 ∷ 52 ∷ 48 ∷ 46 ∷ 53 ∷ 10 ∷ 51 ∷ 53 ∷ 48 ∷ 48 ∷ 44 ∷ 48 ∷ 10 ∷ [])
    (48 ∷ 44 ∷ 48 ∷ 10 ∷ 53 ∷ 48 ∷ 48 ∷ 44 ∷ 48 ∷ 10 ∷ 49 ∷ 48 ∷ 48 ∷ 48 ∷ 44 ∷ 48 ∷ 10 ∷ 49 ∷ 53 ∷ 48 ∷ 48 ∷ 44 ∷ 49
    ∷ 48 ∷ 10 ∷ 50 ∷ 48 ∷ 48 ∷ 48 ∷ 44 ∷ 57 ∷ 46 ∷ 56 ∷ 49 ∷ 49 ∷ 10 ∷ 50 ∷ 53 ∷ 48 ∷ 48 ∷ 44 ∷ 48 ∷ 10 ∷ 51 ∷ 48 ∷ 48
    ∷ 48 ∷ 44 ∷ 48 ∷ 10 ∷ 51 ∷ 53 ∷ 48 ∷ 48 ∷ 44 ∷ 48 ∷ 10 ∷ [])
    ≡ read (56 ∷ 9 ∷ 51 ∷ 9 ∷ 50 ∷ 9 ∷ 50 ∷ 9 ∷ 53 ∷ 48 ∷ 48 ∷ 9 ∷ 53 ∷ 48 ∷ 48 ∷ 10 ∷ [])
unfolding pair_said_of_lines lines_of first_wrong right is_comma_line is_number all_digits leading value_of is_size size_length filled
    size digits_of digits_within field_text first_bad item_outside moments passing first_of groups attach walk later figures_line
    first_text result_for
pair_failed = refl

-- at their levels both are calm: a dash, and the full time
pair_calm : pair_said items (48 ∷ 44 ∷ 48 ∷ 10 ∷ 53 ∷ 48 ∷ 48 ∷ 44 ∷ 52 ∷ 48 ∷ 10 ∷ []) (48 ∷ 44 ∷ 48 ∷ 10 ∷ 53 ∷ 48 ∷ 48 ∷ 44 ∷ 45 ∷ 57 ∷ 46 ∷ 56 ∷ 49 ∷ 10 ∷ [])
    ≡ read (50 ∷ 9 ∷ 48 ∷ 9 ∷ 48 ∷ 9 ∷ 48 ∷ 9 ∷ 45 ∷ 9 ∷ 53 ∷ 48 ∷ 48 ∷ 10 ∷ [])
unfolding pair_said_of_lines lines_of first_wrong right is_comma_line is_number all_digits leading value_of is_size size_length filled
    size digits_of digits_within field_text first_bad item_outside moments passing first_of groups attach walk later figures_line
    first_text result_for
pair_calm = refl

-- the acceleration's level is item 6, and goes before a malformed line
pair_item : pair_said (record { step = 500; ramp = 0; levels = record { roll = 1; acceleration = 0 }; decorrelation = 0 }) (120 ∷ []) []
    ≡ refused (114 ∷ 101 ∷ 102 ∷ 117 ∷ 115 ∷ 101 ∷ 100 ∷ 9 ∷ 48 ∷ 9 ∷ 49 ∷ 9 ∷ 54 ∷ 10 ∷ [])
unfolding pair_said_of_lines lines_of first_wrong right is_comma_line is_number all_digits leading value_of is_size size_length filled
    size digits_of digits_within field_text first_bad item_outside places_then refused_line why_text channel_line
pair_item = refl

-- of two wrong lines with one number the roll's is named, channel 1
pair_tie : pair_said items (48 ∷ 44 ∷ 48 ∷ 10 ∷ 53 ∷ 48 ∷ 48 ∷ 44 ∷ 120 ∷ 10 ∷ []) (48 ∷ 44 ∷ 48 ∷ 10 ∷ 53 ∷ 48 ∷ 49 ∷ 44 ∷ 48 ∷ 10 ∷ [])
    ≡ refused (114 ∷ 101 ∷ 102 ∷ 117 ∷ 115 ∷ 101 ∷ 100 ∷ 9 ∷ 50 ∷ 9 ∷ 49 ∷ 48 ∷ 9 ∷ 49 ∷ 10 ∷ [])
unfolding pair_said_of_lines lines_of first_wrong right is_comma_line is_number all_digits leading value_of is_size size_length filled
    size digits_of digits_within field_text first_bad item_outside places_then refused_line why_text channel_line
pair_tie = refl

-- the lower line goes first, here the acceleration's, channel 2
pair_lower : pair_said items (48 ∷ 44 ∷ 48 ∷ 10 ∷ 53 ∷ 48 ∷ 48 ∷ 44 ∷ 120 ∷ 10 ∷ []) (120 ∷ [])
    ≡ refused (114 ∷ 101 ∷ 102 ∷ 117 ∷ 115 ∷ 101 ∷ 100 ∷ 9 ∷ 49 ∷ 9 ∷ 49 ∷ 48 ∷ 9 ∷ 50 ∷ 10 ∷ [])
unfolding pair_said_of_lines lines_of first_wrong right is_comma_line is_number all_digits leading value_of is_size size_length filled
    size digits_of digits_within field_text first_bad item_outside places_then refused_line why_text channel_line
pair_lower = refl

-- and here the roll's, channel 1
pair_lower_roll : pair_said items (120 ∷ []) (48 ∷ 44 ∷ 48 ∷ 10 ∷ 120 ∷ [])
    ≡ refused (114 ∷ 101 ∷ 102 ∷ 117 ∷ 115 ∷ 101 ∷ 100 ∷ 9 ∷ 49 ∷ 9 ∷ 49 ∷ 48 ∷ 9 ∷ 49 ∷ 10 ∷ [])
unfolding pair_said_of_lines lines_of first_wrong right is_comma_line is_number all_digits leading value_of is_size size_length filled
    size digits_of digits_within field_text first_bad item_outside places_then refused_line why_text channel_line
pair_lower_roll = refl

-- a wrong line after the other file's end goes before 12, here the roll's after one line of acceleration
pair_roll_after_end : pair_said items (48 ∷ 44 ∷ 48 ∷ 10 ∷ 53 ∷ 48 ∷ 48 ∷ 44 ∷ 48 ∷ 10 ∷ 120 ∷ []) (48 ∷ 44 ∷ 48 ∷ 10 ∷ [])
    ≡ refused (114 ∷ 101 ∷ 102 ∷ 117 ∷ 115 ∷ 101 ∷ 100 ∷ 9 ∷ 51 ∷ 9 ∷ 49 ∷ 48 ∷ 9 ∷ 49 ∷ 10 ∷ [])
unfolding pair_said_of_lines lines_of first_wrong right is_comma_line is_number all_digits leading value_of is_size size_length filled
    size digits_of digits_within field_text first_bad item_outside places_then refused_line why_text channel_line
pair_roll_after_end = refl

-- and here the acceleration's after no line of roll
pair_after_end : pair_said items [] (48 ∷ 44 ∷ 48 ∷ 10 ∷ 53 ∷ 48 ∷ 48 ∷ [])
    ≡ refused (114 ∷ 101 ∷ 102 ∷ 117 ∷ 115 ∷ 101 ∷ 100 ∷ 9 ∷ 50 ∷ 9 ∷ 49 ∷ 48 ∷ 9 ∷ 50 ∷ 10 ∷ [])
unfolding pair_said_of_lines lines_of first_wrong right is_comma_line is_number all_digits leading value_of is_size size_length filled
    size digits_of digits_within field_text first_bad item_outside places_then refused_line why_text channel_line
pair_after_end = refl

-- 12 goes before a sample out of range, and has no line and no channel
pair_unequal : pair_said items (48 ∷ 44 ∷ 50 ∷ 48 ∷ 48 ∷ 48 ∷ 10 ∷ 53 ∷ 48 ∷ 48 ∷ 44 ∷ 48 ∷ 10 ∷ []) (48 ∷ 44 ∷ 50 ∷ 48 ∷ 48 ∷ 48 ∷ 10 ∷ [])
    ≡ refused (114 ∷ 101 ∷ 102 ∷ 117 ∷ 115 ∷ 101 ∷ 100 ∷ 9 ∷ 48 ∷ 9 ∷ 49 ∷ 50 ∷ 10 ∷ [])
unfolding pair_said_of_lines lines_of first_wrong right is_comma_line is_number all_digits leading value_of is_size size_length filled
    size digits_of digits_within field_text first_bad item_outside places_then refused_line why_text channel_line
pair_unequal = refl

-- of two samples out of range on one line the roll's is named
pair_bad_tie : pair_said items (48 ∷ 44 ∷ 48 ∷ 10 ∷ 53 ∷ 48 ∷ 48 ∷ 44 ∷ 50 ∷ 48 ∷ 48 ∷ 48 ∷ 10 ∷ []) (48 ∷ 44 ∷ 48 ∷ 10 ∷ 53 ∷ 48 ∷ 48 ∷ 44 ∷ 50 ∷ 48 ∷ 48 ∷ 48 ∷ 10 ∷ [])
    ≡ refused (114 ∷ 101 ∷ 102 ∷ 117 ∷ 115 ∷ 101 ∷ 100 ∷ 9 ∷ 50 ∷ 9 ∷ 50 ∷ 9 ∷ 49 ∷ 10 ∷ [])
unfolding pair_said_of_lines lines_of first_wrong right is_comma_line is_number all_digits leading value_of is_size size_length filled
    size digits_of digits_within field_text first_bad item_outside places_then refused_line why_text channel_line
pair_bad_tie = refl

-- and else the lower, here the roll's
pair_bad_lower_roll : pair_said items (48 ∷ 44 ∷ 50 ∷ 48 ∷ 48 ∷ 48 ∷ 10 ∷ 53 ∷ 48 ∷ 48 ∷ 44 ∷ 48 ∷ 10 ∷ []) (48 ∷ 44 ∷ 48 ∷ 10 ∷ 53 ∷ 48 ∷ 48 ∷ 44 ∷ 50 ∷ 48 ∷ 48 ∷ 48 ∷ 10 ∷ [])
    ≡ refused (114 ∷ 101 ∷ 102 ∷ 117 ∷ 115 ∷ 101 ∷ 100 ∷ 9 ∷ 49 ∷ 9 ∷ 50 ∷ 9 ∷ 49 ∷ 10 ∷ [])
unfolding pair_said_of_lines lines_of first_wrong right is_comma_line is_number all_digits leading value_of is_size size_length filled
    size digits_of digits_within field_text first_bad item_outside places_then refused_line why_text channel_line
pair_bad_lower_roll = refl

-- and here the acceleration's, before 4
pair_bad_lower : pair_said items (48 ∷ 44 ∷ 48 ∷ 10 ∷ 53 ∷ 48 ∷ 48 ∷ 44 ∷ 50 ∷ 48 ∷ 48 ∷ 48 ∷ 10 ∷ []) (48 ∷ 44 ∷ 45 ∷ 49 ∷ 48 ∷ 48 ∷ 48 ∷ 46 ∷ 48 ∷ 48 ∷ 49 ∷ 10 ∷ 53 ∷ 48 ∷ 48 ∷ 44 ∷ 48 ∷ 10 ∷ [])
    ≡ refused (114 ∷ 101 ∷ 102 ∷ 117 ∷ 115 ∷ 101 ∷ 100 ∷ 9 ∷ 49 ∷ 9 ∷ 50 ∷ 9 ∷ 50 ∷ 10 ∷ [])
unfolding pair_said_of_lines lines_of first_wrong right is_comma_line is_number all_digits leading value_of is_size size_length filled
    size digits_of digits_within field_text first_bad item_outside places_then refused_line why_text channel_line
pair_bad_lower = refl

-- too few samples are on no line
pair_short : pair_said items (48 ∷ 44 ∷ 52 ∷ 49 ∷ 10 ∷ []) (48 ∷ 44 ∷ 49 ∷ 48 ∷ 10 ∷ [])
    ≡ refused (114 ∷ 101 ∷ 102 ∷ 117 ∷ 115 ∷ 101 ∷ 100 ∷ 9 ∷ 48 ∷ 9 ∷ 52 ∷ 10 ∷ [])
unfolding pair_said_of_lines lines_of first_wrong right is_comma_line is_number all_digits leading value_of is_size size_length filled
    size digits_of digits_within field_text first_bad item_outside places_then refused_line why_text channel_line
pair_short = refl

-- ---- a count that was not handed out
-- lines at a step, the first out of range among them
abbrev lines : ℕ → ℕ → ℕ → Follow
lines D n outside = record { step = D; lines = n; outside = outside }

-- what is answered when the next line of the roll is malformed
abbrev answered : Follow → Follow → Result Record Refusal → Result Record Refusal
answered f g a = (taking (watched f g a) (120 ∷ []) false [] false).watching.answer

-- 8, before 10: a record of another step, of more samples than both files have, of fewer, with a crossing that stands
-- nowhere; files of two steps; a noted line that was not read, of either. A record has the samples of the shorter file,
-- and one out of range counts among them
pair_eight :
    answered (lines 500 3 0) (lines 500 2 2) (Ok (still 500 2 0))
    ∷ answered (lines 500 3 0) (lines 500 2 0) (Ok (still 499 2 0))
    ∷ answered (lines 500 3 0) (lines 500 2 0) (Ok (still 500 3 0))
    ∷ answered (lines 500 2 0) (lines 500 2 0) (Ok (still 500 1 0))
    ∷ answered (lines 500 2 0) (lines 500 2 0) (Ok (still 500 2 1))
    ∷ answered (lines 500 2 0) (lines 499 2 0) (Ok (still 500 2 0))
    ∷ answered (lines 500 2 3) (lines 500 2 0) (Err TooLong)
    ∷ answered (lines 500 2 0) (lines 500 2 3) (Err TooLong)
    ∷ []
    ≡ Err (CommaLine 4)
    ∷ Err BrokenState
    ∷ Err BrokenState
    ∷ Err BrokenState
    ∷ Err BrokenState
    ∷ Err BrokenState
    ∷ Err BrokenState
    ∷ Err BrokenState
    ∷ []
unfolding taking judged side_by_side sound item_outside resting right_lines bytes_of after_lines lines_of first_wrong right
    is_comma_line is_number all_digits leading
pair_eight = refl

-- ---- bin/sheet over two files a record: the record, its line, the refusal's number, the channel
pairs_refused : refused_record_of 3 4 (CommaLine 4) 2 ≡ refused (114 ∷ 101 ∷ 102 ∷ 117 ∷ 115 ∷ 101 ∷ 100 ∷ 9 ∷ 51 ∷ 9 ∷ 52 ∷ 9 ∷ 49 ∷ 48 ∷ 9 ∷ 50 ∷ 10 ∷ [])
unfolding channel_record field_text digits_of digits_within
pairs_refused = refl
