-- What the clerk's commands write of small files, byte for byte, computed of the definitions: every field of a line with
-- a figure of its own, so that two that change places show here, and each refusal's line. Each declaration has the name
-- of its sentence. Assumes nothing.
use mathlib.Core.Path.{◌≡◌, refl}
use mathlib.Core.Bool.{false}
use mathlib.Core.List.{List, [], ◌∷◌, ◌++◌}
use Prim.Native.Nat.{ℕ}
use lib.IntN.{negsuc, pos}
use Rattle.refusal.specs.declared.Refusal.TheVariants.{BrokenState, CommaLine, TooLong}
use Rattle.decimal.specs.Decimal.{all_digits, digits_of, digits_within, is_number, value_of}
use Rattle.decimal.specs.Field.{field_text}
use Rattle.decimal.specs.Leading.{leading}
use Rattle.decimal.specs.Lines.{lines_of}
use Rattle.degrees.specs.Degrees.{filled, is_size, size, size_length}
use Rattle.comma_line.specs.Line.{is_comma_line, right}
use Rattle.comma_line.specs.Text.{first_wrong}
use Rattle.sample_range.specs.Range.{first_bad}
use Rattle.sample_items.specs.declared.Items.{Items}
use Rattle.sample_items.specs.Limits.{item_outside}
use Rattle.sample_channels.specs.Channels.{moments}
use Rattle.crossing_places.specs.Reading.{first_of, passing}
use Rattle.crossing_sets.specs.Groups.{attach, groups}
use Rattle.crossing_sets.specs.Walk.{later, walk}
use Rattle.record_state.specs.declared.Record.{Record}
use Rattle.record_state.specs.State.{sound}
use Rattle.comma_stream.specs.Follow.{after_lines, bytes_of, resting, right_lines}
use Rattle.desk_line.specs.Said.{Said, places_then, refused_line, why_text}
use Rattle.comma_count.specs.Line.{count_said, count_said_of_lines, figures_line, first_text, result_for}
use Rattle.comma_count.specs.Taking.{going, taking}
use Rattle.root.specs.HalfWidth as root
use Rattle.root.specs.Root.{first_from}
use Rattle.binomial_files.specs.Files.{binomial_from, binomial_said, sum_line}
use Rattle.sheet_records.specs.Ledger.{lines_from, sheet_text}
use Rattle.sheet_files.specs.Files.{failures_in, sheet_from, sheet_said}
use Rattle.refusal.specs.declared.Refusal.{Refusal}
use Rattle.std.specs.Prelude.{Result, Ok, Err}

-- the step 500 ms, no ramp, 40 degrees, 1,500 ms
abbrev items : Items
items = record { step = 500; ramp = 0; levels = record { roll = 40000; acceleration = 1000000 }; decorrelation = 1500 }

-- a file that was read, and one that was refused
abbrev read : List ℕ → Said
read bytes = record { line = bytes; end = 48 }

abbrev refused : List ℕ → Said
refused bytes = record { line = bytes; end = 49 }

-- ---- bin/count
-- 13 samples from 0,0 to 6000,0, above the level at 500, 1500, 2500, 4500 and 5500 ms: 5 crossings in 2 groups, the
-- largest set 500, 2500, 4500
abbrev rolling : List ℕ
rolling =
    48 ∷ 44 ∷ 48 ∷ 10 ∷
    53 ∷ 48 ∷ 48 ∷ 44 ∷ 52 ∷ 49 ∷ 10 ∷
    49 ∷ 48 ∷ 48 ∷ 48 ∷ 44 ∷ 48 ∷ 10 ∷
    49 ∷ 53 ∷ 48 ∷ 48 ∷ 44 ∷ 52 ∷ 49 ∷ 10 ∷
    50 ∷ 48 ∷ 48 ∷ 48 ∷ 44 ∷ 48 ∷ 10 ∷
    50 ∷ 53 ∷ 48 ∷ 48 ∷ 44 ∷ 52 ∷ 49 ∷ 10 ∷
    51 ∷ 48 ∷ 48 ∷ 48 ∷ 44 ∷ 48 ∷ 10 ∷
    51 ∷ 53 ∷ 48 ∷ 48 ∷ 44 ∷ 48 ∷ 10 ∷
    52 ∷ 48 ∷ 48 ∷ 48 ∷ 44 ∷ 48 ∷ 10 ∷
    52 ∷ 53 ∷ 48 ∷ 48 ∷ 44 ∷ 52 ∷ 49 ∷ 10 ∷
    53 ∷ 48 ∷ 48 ∷ 48 ∷ 44 ∷ 48 ∷ 10 ∷
    53 ∷ 53 ∷ 48 ∷ 48 ∷ 44 ∷ 52 ∷ 49 ∷ 10 ∷
    54 ∷ 48 ∷ 48 ∷ 48 ∷ 44 ∷ 48 ∷ 10 ∷ []

-- samples, crossings, groups, largest set, time of the first failure, exposure: 13 5 2 3 500 500
count_failed : count_said items rolling ≡ read (49 ∷ 51 ∷ 9 ∷ 53 ∷ 9 ∷ 50 ∷ 9 ∷ 51 ∷ 9 ∷ 53 ∷ 48 ∷ 48 ∷ 9 ∷ 53 ∷ 48 ∷ 48 ∷ 10 ∷ [])
unfolding count_said_of_lines lines_of first_wrong right is_comma_line is_number all_digits leading value_of is_size size_length filled
    size digits_of digits_within field_text first_bad item_outside moments passing first_of groups attach walk later figures_line
    first_text result_for
count_failed = refl

-- no failure is a dash, and the exposure is the full time: 0,0; 500,40; 1000,-7.5 give 3 0 0 0 - 1000
count_calm : count_said items (48 ∷ 44 ∷ 48 ∷ 10 ∷ 53 ∷ 48 ∷ 48 ∷ 44 ∷ 52 ∷ 48 ∷ 10 ∷ 49 ∷ 48 ∷ 48 ∷ 48 ∷ 44 ∷ 45 ∷ 55 ∷ 46 ∷ 53 ∷ 10 ∷ [])
    ≡ read (51 ∷ 9 ∷ 48 ∷ 9 ∷ 48 ∷ 9 ∷ 48 ∷ 9 ∷ 45 ∷ 9 ∷ 49 ∷ 48 ∷ 48 ∷ 48 ∷ 10 ∷ [])
unfolding count_said_of_lines lines_of first_wrong right is_comma_line is_number all_digits leading value_of is_size size_length filled
    size digits_of digits_within field_text first_bad item_outside moments passing first_of groups attach walk later figures_line
    first_text result_for
count_calm = refl

-- of two items out of range the lower goes first, before a malformed line, and is named: refused 0 1 2
count_item : count_said (record { step = 500; ramp = 1000001; levels = record { roll = 0; acceleration = 1 }; decorrelation = 0 }) (120 ∷ [])
    ≡ refused (114 ∷ 101 ∷ 102 ∷ 117 ∷ 115 ∷ 101 ∷ 100 ∷ 9 ∷ 48 ∷ 9 ∷ 49 ∷ 9 ∷ 50 ∷ 10 ∷ [])
unfolding count_said_of_lines item_outside places_then refused_line why_text field_text digits_of digits_within
count_item = refl

-- a malformed last line, without its LF, goes before a sample out of range in the first; no item after 10: 0,2000 and
-- 500 give refused 2 10
count_line : count_said items (48 ∷ 44 ∷ 50 ∷ 48 ∷ 48 ∷ 48 ∷ 10 ∷ 53 ∷ 48 ∷ 48 ∷ []) ≡ refused (114 ∷ 101 ∷ 102 ∷ 117 ∷ 115 ∷ 101 ∷ 100 ∷ 9 ∷ 50 ∷ 9 ∷ 49 ∷ 48 ∷ 10 ∷ [])
unfolding count_said_of_lines lines_of first_wrong right is_comma_line is_number all_digits leading value_of is_size size_length filled
    size digits_of digits_within field_text first_bad item_outside places_then refused_line why_text
count_line = refl

-- a sample out of range has its line, and goes before too few samples: 0,2000 gives refused 1 2
count_sample : count_said items (48 ∷ 44 ∷ 50 ∷ 48 ∷ 48 ∷ 48 ∷ 10 ∷ []) ≡ refused (114 ∷ 101 ∷ 102 ∷ 117 ∷ 115 ∷ 101 ∷ 100 ∷ 9 ∷ 49 ∷ 9 ∷ 50 ∷ 10 ∷ [])
unfolding count_said_of_lines lines_of first_wrong right is_comma_line is_number all_digits leading value_of is_size size_length filled
    size digits_of digits_within field_text first_bad item_outside places_then refused_line why_text
count_sample = refl

-- too few samples are on no line: 0,0 gives refused 0 4
count_short : count_said items (48 ∷ 44 ∷ 48 ∷ 10 ∷ []) ≡ refused (114 ∷ 101 ∷ 102 ∷ 117 ∷ 115 ∷ 101 ∷ 100 ∷ 9 ∷ 48 ∷ 9 ∷ 52 ∷ 10 ∷ [])
unfolding count_said_of_lines lines_of first_wrong right is_comma_line is_number all_digits leading value_of is_size size_length filled
    size digits_of digits_within field_text first_bad item_outside places_then refused_line why_text
count_short = refl

-- ---- a count that was not handed out
-- so many samples of 0 at a step, and how many crossings are told of them
abbrev pub still : ℕ → ℕ → ℕ → Record
still D n crossings =
    record {
      items = record { step = D; ramp = 0; levels = record { roll = 40000; acceleration = 1000000 }; decorrelation = 1500 };
      n = n;
      last = record { roll = pos 0; acceleration = pos 0 };
      crossings = crossings;
      largest = 0;
      first = 0;
      last_chosen = 0;
      last_crossing = 0;
      groups = 0;
    }

-- lines at 500 ms, the first out of range among them, and what is answered when the next is malformed
abbrev answered : ℕ → ℕ → Result Record Refusal → Result Record Refusal
answered lines outside a = (taking (going (record { step = 500; lines = lines; outside = outside }) a) (120 ∷ []) false).counting.answer

-- 8, before 10: a record of another step, of a sample too many, of one too few, of lines of which one was out of range,
-- with a crossing that stands nowhere; lines out of range or refused as too many, of which the noted one was not read
count_eight :
    answered 2 0 (Ok (still 500 2 0))
    ∷ answered 2 0 (Ok (still 499 2 0))
    ∷ answered 2 0 (Ok (still 500 3 0))
    ∷ answered 2 0 (Ok (still 500 1 0))
    ∷ answered 2 1 (Ok (still 500 2 0))
    ∷ answered 2 0 (Ok (still 500 2 1))
    ∷ answered 2 2 (Err TooLong)
    ∷ answered 2 3 (Err TooLong)
    ∷ []
    ≡ Err (CommaLine 3)
    ∷ Err BrokenState
    ∷ Err BrokenState
    ∷ Err BrokenState
    ∷ Err BrokenState
    ∷ Err BrokenState
    ∷ Err (CommaLine 3)
    ∷ Err BrokenState
    ∷ []
unfolding taking sound item_outside resting right_lines bytes_of after_lines lines_of first_wrong right is_comma_line is_number
    all_digits leading
count_eight = refl

-- ---- bin/binomial
abbrev calm : List ℕ
calm = 48 ∷ 44 ∷ 48 ∷ 10 ∷ 53 ∷ 48 ∷ 48 ∷ 44 ∷ 52 ∷ 48 ∷ 10 ∷ 49 ∷ 48 ∷ 48 ∷ 48 ∷ 44 ∷ 45 ∷ 55 ∷ 46 ∷ 53 ∷ 10 ∷ []

-- N, P, the estimate, lower, upper, the time, of two files: 2 16 2000 0 4593 8000
binomial_summed : binomial_said items (rolling ∷ calm ∷ []) ≡ read (50 ∷ 9 ∷ 49 ∷ 54 ∷ 9 ∷ 50 ∷ 48 ∷ 48 ∷ 48 ∷ 9 ∷ 48 ∷ 9 ∷ 52 ∷ 53 ∷ 57 ∷ 51 ∷ 9 ∷ 56 ∷ 48 ∷ 48 ∷ 48 ∷ 10 ∷ [])
unfolding binomial_said binomial_from sum_line lines_of first_wrong right is_comma_line is_number all_digits leading value_of is_size
    size_length filled size digits_of digits_within field_text first_bad item_outside moments passing groups attach
    root.half_width first_from
binomial_summed = refl

-- samples of the ramp are not among P: with a ramp of 1 the three samples of a file give 0 2 0 0 0 1000
binomial_ramp :
    binomial_said (record { step = 500; ramp = 1; levels = record { roll = 40000; acceleration = 1000000 }; decorrelation = 1500 }) (calm ∷ [])
    ≡ read (48 ∷ 9 ∷ 50 ∷ 9 ∷ 48 ∷ 9 ∷ 48 ∷ 9 ∷ 48 ∷ 9 ∷ 49 ∷ 48 ∷ 48 ∷ 48 ∷ 10 ∷ [])
unfolding binomial_said binomial_from sum_line lines_of first_wrong right is_comma_line is_number all_digits leading value_of is_size
    size_length filled size digits_of digits_within field_text first_bad item_outside moments passing groups attach
    root.half_width first_from
binomial_ramp = refl

-- the third file is the first at fault, on its line 2: refused 3 2 10
binomial_file : binomial_said items (calm ∷ calm ∷ (48 ∷ 44 ∷ 48 ∷ 10 ∷ 53 ∷ 48 ∷ 49 ∷ 44 ∷ 48 ∷ 10 ∷ []) ∷ (120 ∷ []) ∷ [])
    ≡ refused (114 ∷ 101 ∷ 102 ∷ 117 ∷ 115 ∷ 101 ∷ 100 ∷ 9 ∷ 51 ∷ 9 ∷ 50 ∷ 9 ∷ 49 ∷ 48 ∷ 10 ∷ [])
unfolding binomial_said binomial_from lines_of first_wrong right is_comma_line is_number all_digits leading value_of is_size size_length
    filled size digits_of digits_within field_text first_bad item_outside moments passing groups attach places_then refused_line
    why_text
binomial_file = refl

-- an item is no file's, and is named: refused 0 0 1 4
binomial_item : binomial_said (record { step = 1; ramp = 0; levels = record { roll = 1; acceleration = 1 }; decorrelation = 10000001 }) ((120 ∷ []) ∷ [])
    ≡ refused (114 ∷ 101 ∷ 102 ∷ 117 ∷ 115 ∷ 101 ∷ 100 ∷ 9 ∷ 48 ∷ 9 ∷ 48 ∷ 9 ∷ 49 ∷ 9 ∷ 52 ∷ 10 ∷ [])
unfolding binomial_said item_outside places_then refused_line why_text field_text digits_of digits_within
binomial_item = refl

-- ---- bin/sheet
-- the standard, and for each file its number, whether it failed, its exposure: two files, 500 ms to the first failure of
-- one, 1,000 ms of the other
sheet_written : sheet_said 7200000 items (rolling ∷ calm ∷ [])
    ≡ read
    (115 ∷ 116 ∷ 97 ∷ 110 ∷ 100 ∷ 97 ∷ 114 ∷ 100 ∷ 9 ∷ 55 ∷ 50 ∷ 48 ∷ 48 ∷ 48 ∷ 48 ∷ 48 ∷ 10 ∷ 49 ∷ 9 ∷ 49 ∷ 9 ∷ 53 ∷ 48 ∷ 48 ∷ 10 ∷ 50 ∷ 9 ∷ 48 ∷ 9 ∷ 49 ∷ 48 ∷ 48 ∷ 48 ∷ 10 ∷ [])
unfolding sheet_said sheet_from sheet_text lines_from failures_in lines_of first_wrong right is_comma_line is_number all_digits
    leading value_of is_size size_length filled size digits_of digits_within field_text first_bad item_outside moments passing first_of groups
    attach walk later result_for
sheet_written = refl

-- the records that failed are counted, whatever their exposure: of 5, -7 and -1 two
sheet_failures : failures_in (pos 5 ∷ negsuc 6 ∷ negsuc 0 ∷ []) ≡ 2
unfolding failures_in
sheet_failures = refl

-- the standard is item 5 and goes before an item and before the files: refused 0 0 1 5
sheet_standard : sheet_said 0 (record { step = 0; ramp = 0; levels = record { roll = 1; acceleration = 1 }; decorrelation = 0 }) ((120 ∷ []) ∷ [])
    ≡ refused (114 ∷ 101 ∷ 102 ∷ 117 ∷ 115 ∷ 101 ∷ 100 ∷ 9 ∷ 48 ∷ 9 ∷ 48 ∷ 9 ∷ 49 ∷ 9 ∷ 53 ∷ 10 ∷ [])
unfolding sheet_said places_then refused_line why_text field_text digits_of digits_within
sheet_standard = refl

-- the second file is the first at fault: refused 2 1 10, and no sheet
sheet_file : sheet_said 7200000 items (calm ∷ (120 ∷ []) ∷ []) ≡ refused (114 ∷ 101 ∷ 102 ∷ 117 ∷ 115 ∷ 101 ∷ 100 ∷ 9 ∷ 50 ∷ 9 ∷ 49 ∷ 9 ∷ 49 ∷ 48 ∷ 10 ∷ [])
unfolding sheet_said sheet_from failures_in lines_of first_wrong right is_comma_line is_number all_digits leading value_of is_size size_length filled
    size digits_of digits_within field_text first_bad item_outside moments passing first_of groups attach walk later result_for places_then
    refused_line why_text
sheet_file = refl
