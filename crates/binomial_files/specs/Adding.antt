-- What the functions over several files answer, and files that come in pieces. Assumes nothing.
use Rattle.std.specs.Prelude.{ℕ, ◌+◌, Bool, true, false, cond, List, [], ◌∷◌, eqb, Result, Ok, Err}
use Rattle.refusal.specs.declared.Refusal.TheVariants.{Item}
use Rattle.sample_items.specs.declared.Items.{Items}
use Rattle.sample_items.specs.Limits.{item_outside}
use Rattle.record_state.specs.declared.Record.{Record}
use Rattle.binomial_sum.specs.declared.Sum.{Sum}
use Rattle.binomial_sum.specs.State.{empty}
use Rattle.binomial_sum.specs.Answers.{adding}
use Rattle.binomial_bounds.specs.Answers.{bounding}
use Rattle.desk_line.specs.Said.{Said}
use Rattle.comma_count.specs.Taking.{end_of, opening}
use Rattle.comma_count.specs.Pieces.{carrying}
use Rattle.binomial_files.specs.Files.{summed, refused_in}
use Rattle.refusal.specs.declared.Refusal.{Refusal}
use Rattle.binomial_bounds.specs.declared.Bounds.{Bounds}

-- opening: 1 is no file's
unfoldable pub opened_files : Items → Result Sum (ℕ × ℕ × Refusal)
opened_files i = cond (eqb (item_outside i) 0) (Ok (empty i.step)) (Err (0, 0, Item (item_outside i)))

-- a record added; the file's number goes with a refusal
abbrev pub added_as : ℕ → Result Sum Refusal → Result Sum (ℕ × ℕ × Refusal)
added_as file (Ok t) = Ok t
added_as file (Err q) = Err (file, 0, q)

abbrev pub added_to : ℕ → Sum → Record → Result Sum (ℕ × ℕ × Refusal)
added_to file s r = added_as file (adding s r)

-- what a file came to, added
abbrev pub added_by : ℕ → Sum → Result Record (ℕ × Refusal) → Result Sum (ℕ × ℕ × Refusal)
added_by file s (Ok r) = added_to file s r
added_by file s (Err (line, q)) = Err (file, line, q)

-- the first refusal stays
abbrev pub added_in : ℕ → Result Sum (ℕ × ℕ × Refusal) → Result Record (ℕ × Refusal) → Result Sum (ℕ × ℕ × Refusal)
added_in file (Ok s) e = added_by file s e
added_in file (Err (first, line, q)) e = Err (first, line, q)

abbrev pub is_over : Result Sum (ℕ × ℕ × Refusal) → Bool
is_over (Ok s) = false
is_over (Err (file, line, q)) = true

-- what is said
abbrev pub said_bounded : Sum → Result (Bool × Bounds) Refusal → Said
said_bounded s (Ok (some, b)) = summed s b
said_bounded s (Err q) = refused_in 0 0 q

abbrev pub added_said : Result Sum (ℕ × ℕ × Refusal) → Said
added_said (Ok s) = said_bounded s (bounding s)
added_said (Err (file, line, q)) = refused_in file line q

-- files one after the other from this number on, each in its pieces
unfoldable pub files_after : Items → ℕ → Result Sum (ℕ × ℕ × Refusal) → List (List (List ℕ)) → Result Sum (ℕ × ℕ × Refusal)
files_after i file a [] = a
files_after i file a (pieces ∷ files) = files_after i (file + 1) (added_in file a (end_of (carrying (opening i) [] pieces))) files
