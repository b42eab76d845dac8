-- WHAT IS SAID OF A COMMA FILE (document 02, [1], [4], [5]; docs/CLERK.md, "From a simulator's file to the sheet"): one
-- line and a digit, over the whole text. Each refusal is judged over the whole file: 1, 10, 2, 3, 4. Assumes nothing.
use Rattle.std.specs.Prelude.{ℕ, ◌+◌, cond, not, List, [], ◌∷◌, ◌++◌, map, eqb, ltb, ℤ, pos, length, Result, Ok, Err}
use Rattle.refusal.specs.declared.Refusal.{Refusal}
use Rattle.refusal.specs.declared.Refusal.TheVariants.{Item, Sample, TooLong, TooShort, CommaLine}
use Rattle.sample_channels.specs.declared.Moment.{Moment}
use Rattle.sample_channels.specs.Channels.{moments}
use Rattle.sample_items.specs.declared.Items.{Items}
use Rattle.sample_items.specs.Limits.{item_outside, most_samples}
use Rattle.sample_range.specs.Range.{first_bad}
use Rattle.crossing_places.specs.Reading.{time_at, crossings, groups, largest_set, first_crossing, full_time, too_few}
use Rattle.decimal.specs.Field.{tab, line_feed, field_text}
use Rattle.decimal.specs.Lines.{lines_of}
use Rattle.comma_line.specs.Text.{first_wrong, samples_of}
use Rattle.record_state.specs.State.{state_of}
use Rattle.record_end.specs.declared.RecordResult.{RecordResult}
use Rattle.desk_line.specs.Said.{Said, read_digit, refused}
use Rattle.record_state.specs.declared.Record.{Record}

-- ---- a file has one channel
-- [8]: "a one-channel job lends zeros for the other"
abbrev pub zeros : List ℤ → List ℤ
zeros xs = map (λ x. pos 0) xs

abbrev pub one_channel : List ℤ → List Moment
one_channel xs = moments xs (zeros xs)

-- ---- the line of a file that was counted
-- the time of the first failure, or a dash: 0 is the place of none
unfoldable pub first_text : ℕ → ℕ → List ℕ
first_text first time = cond (eqb first 0) (45 ∷ tab ∷ []) (field_text time tab)

-- samples, crossings, groups, largest set, time of the first failure, exposure, which for a failed record is that time
unfoldable pub figures_line : ℕ → RecordResult → List ℕ
figures_line n x =
    field_text n tab
    ++ (field_text x.crossings tab
    ++ (field_text x.counted tab
    ++ (field_text x.largest tab
    ++ (first_text x.first x.exposure
    ++ field_text x.exposure line_feed))))

-- "Reading a record", figure by figure
unfoldable pub result_for : Items → List Moment → RecordResult
result_for i xs =
    record {
      crossings = length (crossings i.ramp i.levels xs);
      counted = length (groups i xs);
      first = first_crossing 0 i.ramp i.levels xs;
      exposure =
          cond (not (eqb (first_crossing 0 i.ramp i.levels xs) 0))
          (time_at i.step i.ramp (first_crossing 0 i.ramp i.levels xs))
          (full_time i.step i.ramp (length xs));
      largest = length (largest_set i xs);
    }

-- '0' goes with it
abbrev pub counted : ℕ → RecordResult → Said
counted n x = record { line = figures_line n x; end = read_digit }

-- the refused line of one file has one place, the line at fault
abbrev pub refused_at : ℕ → Refusal → Said
refused_at line r = refused (line ∷ []) r

-- ---- the tests of a file in their order, each over all its lines: 10, 2, 3, 4; a refusal has the line at fault or 0
abbrev pub lines_then : {X : Type 0} → Items → (ℕ → Refusal → X) → List (List ℕ) → X → X
lines_then i refuse lines proper =
    cond (ltb (first_wrong i.step 0 lines) (length lines)) (refuse (first_wrong i.step 0 lines + 1) (CommaLine (first_wrong i.step 0 lines + 1)))
    (cond (ltb (first_bad (samples_of lines)) (length lines)) (refuse (first_bad (samples_of lines) + 1) (Sample (first_bad (samples_of lines))))
    (cond (ltb (most_samples i.step i.ramp) (length lines)) (refuse 0 TooLong)
    proper))

abbrev pub file_then : {X : Type 0} → Items → (ℕ → Refusal → X) → List (List ℕ) → X → X
file_then i refuse lines proper = lines_then i refuse lines (cond (too_few i.ramp (length lines)) (refuse 0 TooShort) proper)

-- an item goes before all of them
unfoldable pub count_said_of_lines : Items → List (List ℕ) → Said
count_said_of_lines i lines =
    cond (not (eqb (item_outside i) 0)) (refused_at 0 (Item (item_outside i)))
    (file_then i refused_at lines (counted (length lines) (result_for i (one_channel (samples_of lines)))))

-- ---- what a text comes to, for programs that go on from its record: 1, 10, 2, 3 with the line at fault, or the
-- record's state over all samples
unfoldable pub end_of_lines : Items → List (List ℕ) → Result Record (ℕ × Refusal)
end_of_lines i lines =
    cond (not (eqb (item_outside i) 0)) (Err (0, Item (item_outside i)))
    (lines_then i (λ line q. Err (line, q)) lines (Ok (state_of i (one_channel (samples_of lines)))))

abbrev pub end_of_text : Items → List ℕ → Result Record (ℕ × Refusal)
end_of_text i text = end_of_lines i (lines_of text)

-- WHAT IS SAID OF A TEXT
abbrev pub count_said : Items → List ℕ → Said
count_said i text = count_said_of_lines i (lines_of text)

abbrev pub count_line : Items → List ℕ → List ℕ
count_line i text = (count_said i text).line
