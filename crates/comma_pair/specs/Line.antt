-- WHAT IS SAID OF TWO COMMA FILES, the roll's and the acceleration's of one record (document 02, [1], [8];
-- docs/CLERK.md): one line and a digit, over both whole texts. Each refusal is judged over both files: 1, 10, 12, 2, 3,
-- 4. After 10 and 2 the line names the channel: 1 for the roll, 2 for the acceleration. Assumes nothing.
use Rattle.std.specs.Prelude.{ℕ, ◌+◌, Bool, cond, not, ◌&&◌, ◌||◌, List, [], ◌∷◌, ◌++◌, eqb, leb, ltb, ℤ, length, Result, Ok, Err}
use Rattle.refusal.specs.declared.Refusal.{Refusal}
use Rattle.refusal.specs.declared.Refusal.TheVariants.{Item, Sample, TooLong, TooShort, CommaLine, Unequal}
use Rattle.refusal.specs.declared.Refusal.TheVariants.{Acceleration}
use Rattle.refusal.specs.Numbers.{number_of}
use Rattle.sample_channels.specs.declared.Moment.{Moment}
use Rattle.sample_channels.specs.Channels.{moments, has_bad}
use Rattle.sample_items.specs.declared.Items.{Items}
use Rattle.sample_items.specs.Limits.{item_outside, most_samples}
use Rattle.sample_range.specs.Range.{first_bad}
use Rattle.crossing_places.specs.Reading.{too_few}
use Rattle.decimal.specs.Field.{tab, line_feed, field_text}
use Rattle.decimal.specs.Lines.{lines_of}
use Rattle.comma_line.specs.Text.{first_wrong, samples_of}
use Rattle.record_state.specs.State.{state_of}
use Rattle.desk_line.specs.Said.{Said, refused_digit, refused_word}
use Rattle.comma_count.specs.Line.{counted, refused_at, result_for}
use Rattle.comma_pair.specs.declared.PairFault.TheVariants.{Plain, AtLine}
use Rattle.record_state.specs.declared.Record.{Record}
use Rattle.comma_pair.specs.declared.PairFault.{PairFault}

-- ---- the refused line with a channel: the word, the line at fault, the refusal's number, the channel
unfoldable pub channel_line : ℕ → Refusal → ℕ → List ℕ
channel_line line r channel =
    refused_word ++ (field_text line tab ++ (field_text (number_of r) tab ++ field_text channel line_feed))

abbrev pub refused_of : ℕ → Refusal → ℕ → Said
refused_of line r channel = record { line = channel_line line r channel; end = refused_digit }

-- ---- which line is wrong first, ls of the roll and ms of the acceleration, at the step D
-- a line is wrong, and the first one's place
abbrev pub any_wrong : ℕ → List (List ℕ) → Bool
any_wrong D lines = ltb (first_wrong D 0 lines) (length lines)

-- the lower line goes first, and of two lines with one number the roll's
abbrev pub wrong_roll : ℕ → List (List ℕ) → List (List ℕ) → Bool
wrong_roll D ls ms = any_wrong D ls && (not (any_wrong D ms) || leb (first_wrong D 0 ls) (first_wrong D 0 ms))

-- and of samples in files of equal length alike
abbrev pub bad_roll : List ℤ → List ℤ → Bool
bad_roll xs ys = has_bad xs && leb (first_bad xs) (first_bad ys)

-- ---- the tests of both files in their order, each over all lines: 10, 12, 2, 3; `refuse` is told nothing but the
-- refusal, `refuseOf` the line and the channel too
abbrev pub pair_then : {X : Type 0} → Items → (Refusal → X) → (ℕ → Refusal → ℕ → X) → List (List ℕ) → List (List ℕ)
    → X → X
pair_then i refuse refuseOf ls ms proper =
    cond (wrong_roll i.step ls ms)
    (refuseOf (first_wrong i.step 0 ls + 1) (CommaLine (first_wrong i.step 0 ls + 1)) 1)
    (cond (any_wrong i.step ms)
    (refuseOf (first_wrong i.step 0 ms + 1) (CommaLine (first_wrong i.step 0 ms + 1)) 2)
    (cond (not (eqb (length ls) (length ms))) (refuse Unequal)
    (cond (bad_roll (samples_of ls) (samples_of ms))
    (refuseOf (first_bad (samples_of ls) + 1) (Sample (first_bad (samples_of ls))) 1)
    (cond (has_bad (samples_of ms)) (refuseOf (first_bad (samples_of ms) + 1) (Acceleration (first_bad (samples_of ms))) 2)
    (cond (ltb (most_samples i.step i.ramp) (length ls)) (refuse TooLong)
    proper)))))

-- the samples of both, side by side
abbrev pub both_channels : List (List ℕ) → List (List ℕ) → List Moment
both_channels ls ms = moments (samples_of ls) (samples_of ms)

-- ---- what the files come to, for programs that go on from their record: 1, 10, 12, 2, 3, or the record's state over
-- all samples of both channels
unfoldable pub end_of_both : Items → List (List ℕ) → List (List ℕ) → Result Record PairFault
end_of_both i ls ms =
    cond (not (eqb (item_outside i) 0)) (Err (Plain (Item (item_outside i))))
    (pair_then i (λ q. Err (Plain q)) (λ line q channel. Err (AtLine line q channel)) ls ms (Ok (state_of i (both_channels ls ms))))

-- ---- what is said of the files: an item goes before all tests, 4 after them, and then it is bin/count's line
unfoldable pub pair_said_of_lines : Items → List (List ℕ) → List (List ℕ) → Said
pair_said_of_lines i ls ms =
    cond (not (eqb (item_outside i) 0)) (refused_at 0 (Item (item_outside i)))
    (pair_then i (refused_at 0) refused_of ls ms
    (cond (too_few i.ramp (length ls)) (refused_at 0 TooShort)
    (counted (length ls) (result_for i (both_channels ls ms)))))

abbrev pub end_of_texts : Items → List ℕ → List ℕ → Result Record PairFault
end_of_texts i roll acceleration = end_of_both i (lines_of roll) (lines_of acceleration)

-- WHAT IS SAID OF TWO TEXTS
abbrev pub pair_said : Items → List ℕ → List ℕ → Said
pair_said i roll acceleration = pair_said_of_lines i (lines_of roll) (lines_of acceleration)
