-- WHAT IS SAID OF SEVERAL FILES (document 02, [7]; docs/CLERK.md, "Long records to their end"): one line and a digit,
-- over the whole texts, file by file in their order. Assumes nothing.
use Rattle.std.specs.Prelude.{ℕ, ◌+◌, ◌-◌, cond, not, List, [], ◌∷◌, ◌++◌, eqb, length}
use Rattle.refusal.specs.declared.Refusal.{Refusal}
use Rattle.refusal.specs.declared.Refusal.TheVariants.{Item, SumFull}
use Rattle.sample_items.specs.declared.Items.{Items}
use Rattle.sample_items.specs.Limits.{item_outside}
use Rattle.crossing_places.specs.Reading.{groups}
use Rattle.binomial_sum.specs.declared.Sum.{Sum}
use Rattle.binomial_sum.specs.State.{empty, grown, would_pass}
use Rattle.binomial_bounds.specs.declared.Bounds.{Bounds}
use Rattle.binomial_bounds.specs.Bounds.{bounds_of}
use Rattle.decimal.specs.Field.{tab, line_feed, field_text}
use Rattle.decimal.specs.Lines.{lines_of}
use Rattle.comma_line.specs.Text.{samples_of}
use Rattle.desk_line.specs.Said.{Said, read_digit, refused}
use Rattle.comma_count.specs.Line.{one_channel, file_then}

-- N, P, the estimate, its lower and its upper bound in thousandths of a failure, and P·D in ms
unfoldable pub sum_line : Sum → Bounds → List ℕ
sum_line s b =
    field_text s.failures tab
    ++ (field_text s.samples tab
    ++ (field_text b.estimate tab
    ++ (field_text b.lower tab
    ++ (field_text b.upper tab
    ++ field_text b.time line_feed))))

abbrev pub summed : Sum → Bounds → Said
summed s b = record { line = sum_line s b; end = read_digit }

-- the counted groups of a file's lines, and its timed samples
abbrev pub groups_of : Items → List (List ℕ) → ℕ
groups_of i lines = length (groups i (one_channel (samples_of lines)))

abbrev pub timed_of : Items → List (List ℕ) → ℕ
timed_of i lines = length lines - i.ramp

-- the refused line names the file and its line
abbrev pub refused_in : ℕ → ℕ → Refusal → Said
refused_in file line r = refused (file ∷ line ∷ []) r

-- the files from the one with this number on, after the sum s: each 10, 2, 3, 4, then 11, or its groups and its samples
-- are added
unfoldable pub binomial_from : Items → ℕ → Sum → List (List ℕ) → Said
binomial_from i file s [] = summed s (bounds_of s)
binomial_from i file s (text ∷ texts) =
    let lines = lines_of text in
    file_then i (refused_in file) lines
    (cond (would_pass s (groups_of i lines) (timed_of i lines)) (refused_in file 0 SumFull)
    (binomial_from i (file + 1) (grown s (groups_of i lines) (timed_of i lines)) texts))

-- WHAT IS SAID OF THE TEXTS: an item goes before all files
unfoldable pub binomial_said : Items → List (List ℕ) → Said
binomial_said i texts =
    cond (not (eqb (item_outside i) 0)) (refused_in 0 0 (Item (item_outside i))) (binomial_from i 1 (empty i.step) texts)
