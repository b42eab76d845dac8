-- What `bin/peaks` writes of small files, byte for byte, computed of the definitions: a file alone, several with their
-- numbers, and each kind of refused line. Each declaration has the name of its sentence. Assumes nothing.
use mathlib.Core.Path.{◌≡◌, refl}
use mathlib.Core.List.{List, [], ◌∷◌, ◌++◌}
use Prim.Native.Nat.{ℕ}
use Rattle.decimal.specs.Decimal.{all_digits, digits_of, digits_within, is_number, value_of}
use Rattle.decimal.specs.Field.{field_text}
use Rattle.decimal.specs.Leading.{leading}
use Rattle.decimal.specs.Lines.{lines_of}
use Rattle.degrees.specs.Degrees.{degrees_text, filled, is_size, size, size_length}
use Rattle.comma_line.specs.Line.{is_comma_line, right}
use Rattle.comma_line.specs.Text.{first_wrong}
use Rattle.sample_range.specs.Range.{first_bad}
use Rattle.sample_items.specs.Limits.{item_outside, most_in_range}
use Rattle.crossing_sets.specs.Groups.{attach, groups}
use Rattle.peak_groups.specs.Groups.{those, larger, largest, tops}
use Rattle.peak_groups.specs.Runs.{points, started, peaks}
use Rattle.peak_groups.specs.Peaks.{sum}
use Rattle.peak_lines.specs.Lines.{file_text, peak_line, peaks_text}
use Rattle.comma_peaks.specs.Judged.{comes_to}
use Rattle.desk_line.specs.Said.{Said, places_then, refused_line, why_text}
use Rattle.peak_files.specs.Said.{file_said, files_from, files_said, items_said, peaks_said, places_of, then_said}

-- a file that was read, and one that was refused
abbrev read : List ℕ → Said
read bytes = record { line = bytes; end = 48 }

abbrev refused : List ℕ → Said
refused bytes = record { line = bytes; end = 49 }

-- 0,1; 500,-1; 1000,9; 1500,-1; 2000,1: the peaks are 1, 9 and 1 degrees, of which 9 is above the mean
abbrev wave : List ℕ
wave =
    48 ∷ 44 ∷ 49 ∷ 10 ∷
    53 ∷ 48 ∷ 48 ∷ 44 ∷ 45 ∷ 49 ∷ 10 ∷
    49 ∷ 48 ∷ 48 ∷ 48 ∷ 44 ∷ 57 ∷ 10 ∷
    49 ∷ 53 ∷ 48 ∷ 48 ∷ 44 ∷ 45 ∷ 49 ∷ 10 ∷
    50 ∷ 48 ∷ 48 ∷ 48 ∷ 44 ∷ 49 ∷ 10 ∷ []

-- alone: the magnitude in degrees and its time, 9.000 1000
peaks_alone : peaks_said 500 0 0 wave ≡ read (57 ∷ 46 ∷ 48 ∷ 48 ∷ 48 ∷ 9 ∷ 49 ∷ 48 ∷ 48 ∷ 48 ∷ 10 ∷ [])
unfolding peaks_said file_said then_said items_said comes_to most_in_range lines_of first_wrong right is_comma_line is_number
    all_digits leading value_of is_size size_length filled size first_bad item_outside peaks points started attach groups
    those larger largest tops sum peaks_text peak_line file_text degrees_text field_text digits_of digits_within
peaks_alone = refl

-- two in the order of their times: after 1, -1, 9, -1, 1 comes -1, 8, -1, 1, so 9.000 1000 and 8.000 3000
peaks_in_order : peaks_said 500 0 0 (wave ++ (50 ∷ 53 ∷ 48 ∷ 48 ∷ 44 ∷ 45 ∷ 49 ∷ 10 ∷ 51 ∷ 48 ∷ 48 ∷ 48 ∷ 44 ∷ 56 ∷ 10 ∷ 51 ∷ 53 ∷ 48 ∷ 48 ∷ 44 ∷ 45 ∷ 49 ∷ 10 ∷ 52 ∷ 48 ∷ 48 ∷ 48 ∷ 44 ∷ 49 ∷ 10 ∷ []))
    ≡ read
    (57 ∷ 46 ∷ 48 ∷ 48 ∷ 48 ∷ 9 ∷ 49 ∷ 48 ∷ 48 ∷ 48 ∷ 10 ∷
    56 ∷ 46 ∷ 48 ∷ 48 ∷ 48 ∷ 9 ∷ 51 ∷ 48 ∷ 48 ∷ 48 ∷ 10 ∷ [])
unfolding peaks_said file_said then_said items_said comes_to most_in_range lines_of first_wrong right is_comma_line is_number
    all_digits leading value_of is_size size_length filled size first_bad item_outside peaks points started attach groups
    those larger largest tops sum peaks_text peak_line file_text degrees_text field_text digits_of digits_within
peaks_in_order = refl

-- the largest magnitude and the latest time are written as they are: 1000.000 10000000
peaks_largest : peak_line 0 1000000 10000000
    ≡ 49 ∷ 48 ∷ 48 ∷ 48 ∷ 46 ∷ 48 ∷ 48 ∷ 48 ∷ 9 ∷ 49 ∷ 48 ∷ 48 ∷ 48 ∷ 48 ∷ 48 ∷ 48 ∷ 48 ∷ 10 ∷ []
unfolding peak_line file_text degrees_text field_text digits_of digits_within
peaks_largest = refl

-- of two files each line has its file's number first: 1 9.000 1000, 2 9.000 1000
peaks_several : files_said 500 0 0 (wave ∷ wave ∷ [])
    ≡ read
    (49 ∷ 9 ∷ 57 ∷ 46 ∷ 48 ∷ 48 ∷ 48 ∷ 9 ∷ 49 ∷ 48 ∷ 48 ∷ 48 ∷ 10 ∷
    50 ∷ 9 ∷ 57 ∷ 46 ∷ 48 ∷ 48 ∷ 48 ∷ 9 ∷ 49 ∷ 48 ∷ 48 ∷ 48 ∷ 10 ∷ [])
unfolding files_said files_from file_said then_said items_said comes_to most_in_range lines_of first_wrong right is_comma_line
    is_number all_digits leading value_of is_size size_length filled size first_bad item_outside peaks points started attach
    groups those larger largest tops sum peaks_text peak_line file_text degrees_text field_text digits_of digits_within
peaks_several = refl

-- the lines of the files before the first at fault stay, and none comes after it: 1 9.000 1000, refused 2 1 10
peaks_fault : files_said 500 0 0 (wave ∷ (120 ∷ []) ∷ wave ∷ [])
    ≡ refused
    (49 ∷ 9 ∷ 57 ∷ 46 ∷ 48 ∷ 48 ∷ 48 ∷ 9 ∷ 49 ∷ 48 ∷ 48 ∷ 48 ∷ 10 ∷
    114 ∷ 101 ∷ 102 ∷ 117 ∷ 115 ∷ 101 ∷ 100 ∷ 9 ∷ 50 ∷ 9 ∷ 49 ∷ 9 ∷ 49 ∷ 48 ∷ 10 ∷ [])
unfolding files_said files_from file_said then_said items_said comes_to most_in_range lines_of first_wrong right is_comma_line
    is_number all_digits leading value_of is_size size_length filled size first_bad item_outside peaks points started attach
    groups those larger largest tops sum peaks_text peak_line file_text degrees_text field_text digits_of digits_within
    places_of places_then refused_line why_text
peaks_fault = refl

-- alone a file has no number, and its line is named: a second line x gives refused 2 10
peaks_line : peaks_said 500 0 0 (48 ∷ 44 ∷ 49 ∷ 10 ∷ 120 ∷ 10 ∷ [])
    ≡ refused (114 ∷ 101 ∷ 102 ∷ 117 ∷ 115 ∷ 101 ∷ 100 ∷ 9 ∷ 50 ∷ 9 ∷ 49 ∷ 48 ∷ 10 ∷ [])
unfolding peaks_said file_said then_said items_said comes_to most_in_range lines_of first_wrong right is_comma_line is_number
    all_digits leading value_of is_size size_length filled size first_bad item_outside field_text digits_of digits_within
    places_of places_then refused_line why_text
peaks_line = refl

-- among several it has its number also where no line is named: the first has too few samples, refused 1 0 4
peaks_short_first : files_said 500 0 0 ((48 ∷ 44 ∷ 48 ∷ 10 ∷ []) ∷ wave ∷ [])
    ≡ refused (114 ∷ 101 ∷ 102 ∷ 117 ∷ 115 ∷ 101 ∷ 100 ∷ 9 ∷ 49 ∷ 9 ∷ 48 ∷ 9 ∷ 52 ∷ 10 ∷ [])
unfolding files_said files_from file_said then_said items_said comes_to most_in_range lines_of first_wrong right is_comma_line
    is_number all_digits leading value_of is_size size_length filled size first_bad item_outside field_text digits_of
    digits_within places_of places_then refused_line why_text
peaks_short_first = refl

-- one sample is too few, on no line: refused 0 4
peaks_short : peaks_said 500 0 0 (48 ∷ 44 ∷ 48 ∷ 10 ∷ [])
    ≡ refused (114 ∷ 101 ∷ 102 ∷ 117 ∷ 115 ∷ 101 ∷ 100 ∷ 9 ∷ 48 ∷ 9 ∷ 52 ∷ 10 ∷ [])
unfolding peaks_said file_said then_said items_said comes_to most_in_range lines_of first_wrong right is_comma_line is_number
    all_digits leading value_of is_size size_length filled size first_bad item_outside field_text digits_of digits_within
    places_of places_then refused_line why_text
peaks_short = refl

-- the ramp is an item too: refused 0 1 2
peaks_ramp : peaks_said 500 1000001 0 (120 ∷ [])
    ≡ refused (114 ∷ 101 ∷ 102 ∷ 117 ∷ 115 ∷ 101 ∷ 100 ∷ 9 ∷ 48 ∷ 9 ∷ 49 ∷ 9 ∷ 50 ∷ 10 ∷ [])
unfolding peaks_said then_said items_said item_outside field_text digits_of digits_within places_then refused_line why_text
peaks_ramp = refl

-- an item goes before all files and is named, also of several: refused 0 1 4
peaks_item : files_said 500 0 10000001 ((120 ∷ []) ∷ [])
    ≡ refused (114 ∷ 101 ∷ 102 ∷ 117 ∷ 115 ∷ 101 ∷ 100 ∷ 9 ∷ 48 ∷ 9 ∷ 49 ∷ 9 ∷ 52 ∷ 10 ∷ [])
unfolding files_said then_said items_said item_outside field_text digits_of digits_within places_then refused_line why_text
peaks_item = refl
