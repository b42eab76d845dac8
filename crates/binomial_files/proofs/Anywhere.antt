-- However each of several files is cut into pieces, what is said of them is what is said of their texts
-- (`files_anywhere`). File by file it is `comma_count`'s theorem; a sum stays sound as it grows, so that 8 and another
-- step are never met; and what was refused stays. Assumes nothing.
use Prim.Native.Nat.{ℕ, ◌+◌, ◌-◌}
use mathlib.Core.Path.{◌≡◌, refl, sym, ap, ◌∙◌}
use mathlib.Core.Bool.{Bool, true, false, cond, not}
use mathlib.Core.List.{List, [], ◌∷◌, map}
use native.Mathlib.Omega.{arith}
use lib.Dec.{T, eqb}
use lib.ListN.{length}
use borrow.Author.Tests.{eq-eqb, eqb-true}
use Rattle.truth.proofs.Cases.{by_test}
use Rattle.truth.proofs.Laws.{holds, is_true}
use Rattle.refusal.specs.declared.Refusal.{Refusal}
use Rattle.refusal.specs.declared.Refusal.TheVariants.{SumFull, TooShort}
use Rattle.sample_items.specs.declared.Items.{Items}
use Rattle.sample_items.specs.Limits.{item_outside}
use Rattle.crossing_places.specs.Reading.{too_few}
use Rattle.record_state.specs.declared.Record.{Record}
use Rattle.record_state.specs.State as reading
use Rattle.record_state.specs.State.{state_of}
use Rattle.binomial_sum.specs.declared.Sum.{Sum}
use Rattle.binomial_sum.specs.State.{empty, grown, sound, timed, would_pass}
use Rattle.binomial_sum.specs.Answers.{adding, opened}
use Rattle.binomial_sum.proofs.Answered.{adding_sound, opened_sound}
use Rattle.binomial_bounds.specs.Bounds.{bounds_of}
use Rattle.binomial_bounds.specs.Answers.{bounding}
use Rattle.text.specs.Pieces.{joined}
use Rattle.decimal.specs.Lines.{lines_of}
use Rattle.comma_line.specs.Text.{samples_of}
use Rattle.desk_line.specs.Said.{Said}
use Rattle.comma_count.specs.Line.{one_channel, end_of_text, file_then}
use Rattle.comma_count.specs.Taking.{end_of, on_end, opening}
use Rattle.comma_count.specs.Pieces.{carrying}
use Rattle.comma_count.proofs.Cut.{end_anywhere}
use Rattle.comma_count.proofs.Whole.{end_then, step_ok}
use Rattle.binomial_files.specs.Files.{summed, groups_of, timed_of, refused_in, binomial_from, binomial_said}
use Rattle.binomial_files.specs.Adding.{opened_files, added_as, added_to, added_by, added_in, added_said, files_after}
use Rattle.std.specs.Prelude.{Result, Ok, Err}

-- what was refused stays
refused_stays : (i : Items) (file : ℕ) (first line : ℕ) (q : Refusal) (files : List (List (List ℕ))) → files_after i file (Err (first, line, q)) files ≡ Err (first, line, q)
unfolding files_after
refused_stays i file first line q [] = refl
refused_stays i file first line q (pieces ∷ files) = refused_stays i (file + 1) first line q files

-- what a sound sum says
said_sum : (s : Sum) → sound s ≡ true → added_said (Ok s) ≡ summed s (bounds_of s)
unfolding bounding
said_sum s k = rw k

-- adding a sound record of n samples at the sum's step
adding_is : (s : Sum) (r : Record) (n : ℕ) → sound s ≡ true → reading.sound r ≡ true → r.items.step ≡ s.step → r.n ≡ n
    → adding s r
    ≡ cond (too_few r.items.ramp n) (Err TooShort)
    (cond (would_pass s r.groups (n - r.items.ramp)) (Err SumFull) (Ok (grown s r.groups (n - r.items.ramp))))
unfolding adding
adding_is s r n k l e f = rw (k, l, eq-eqb r.items.step s.step e, f)

module _ (i : Items) (ok : item_outside i ≡ 0) where
  -- what is said of the files after this one, whatever the sum that is handed on
  abbrev Later : ℕ → List (List (List ℕ)) → Type 0
  Later file files =
      (t : Sum) → sound t ≡ true → t.step ≡ i.step → added_said (files_after i file (Ok t) files) ≡ binomial_from i file t (map joined files)

  -- one file and those after it
  module _ (pieces : List (List ℕ)) (files : List (List (List ℕ))) (file : ℕ) (after : Later (file + 1) files)
      (s : Sum) (k : sound s ≡ true) (d : s.step ≡ i.step) where
    abbrev lines : List (List ℕ)
    lines = lines_of (joined pieces)

    abbrev whole : Record
    whole = state_of i (one_channel (samples_of lines))

    abbrev later : Result Sum (ℕ × ℕ × Refusal) → Said
    later a = added_said (files_after i (file + 1) a files)

    abbrev next : Sum
    next = grown s (groups_of i lines) (timed_of i lines)

    abbrev short : Bool
    short = too_few i.ramp (length lines)

    abbrev full : Bool
    full = would_pass s (groups_of i lines) (timed_of i lines)

    abbrev proper : Said
    proper = cond full (refused_in file 0 SumFull) (binomial_from i (file + 1) next (map joined files))

    stays : (line : ℕ) (q : Refusal) → later (Err (file, line, q)) ≡ refused_in file line q
    stays line q = ap added_said (refused_stays i (file + 1) file line q files)

    by_end : (e : Result Record (ℕ × Refusal)) → later (added_by file s e) ≡ on_end (refused_in file) (λ r. later (added_to file s r)) e
    by_end (Ok r) = refl
    by_end (Err (line, q)) = stays line q

    by_tests : (b c : Bool) (z : Said) → (b ≡ false → c ≡ false → later (Ok next) ≡ z)
        → later (added_as file (cond b (Err TooShort) (cond c (Err SumFull) (Ok next))))
        ≡ cond b (refused_in file 0 TooShort) (cond c (refused_in file 0 SumFull) z)
    by_tests true c z f = stays 0 TooShort
    by_tests false true z f = stays 0 SumFull
    by_tests false false z f = f refl refl

    module _ (l : reading.sound whole ≡ true) (n : whole.n ≡ length lines) where
      is : adding s whole ≡ cond short (Err TooShort) (cond full (Err SumFull) (Ok next))
      unfolding state_of
      is = adding_is s whole (length lines) k l (sym d) n

      next_sound : short ≡ false → full ≡ false → sound next ≡ true
      next_sound b c = is_true (sound next) (adding_sound s whole next (is ∙ rw (b, c)))

      record_added : later (added_to file s whole) ≡ cond short (refused_in file 0 TooShort) proper
      record_added = ap (λ a. later (added_as file a)) is ∙ by_tests short full _ (λ b c. after next (next_sound b c) d)

    one : later (added_by file s (end_of (carrying (opening i) [] pieces))) ≡ file_then i (refused_in file) lines proper
    one =
        ap (λ e. later (added_by file s e)) (end_anywhere i pieces)
        ∙ by_end (end_of_text i (joined pieces))
        ∙ end_then i ok (refused_in file) (λ r. later (added_to file s r)) proper lines record_added

  from : (files : List (List (List ℕ))) (file : ℕ) → Later file files
  unfolding files_after binomial_from
  from [] file s k d = said_sum s k
  from (pieces ∷ files) file s k d = one pieces files file (from files (file + 1)) s k d

  start_sound : sound (empty i.step) ≡ true
  start_sound = is_true (sound (empty i.step)) (opened_sound i.step (empty i.step) (rw (step_ok i ok)))

-- WHAT IS SAID OF SEVERAL FILES, however each is cut, is what is said of their texts
pub files_anywhere : (i : Items) (files : List (List (List ℕ))) → added_said (files_after i 1 (opened_files i) files) ≡ binomial_said i (map joined files)
unfolding opened_files binomial_said
files_anywhere i files =
    by_test (eqb (item_outside i) 0)
    (λ e. let ok = eqb-true (item_outside i) 0 e in rw e (from i ok files 1 (empty i.step) (start_sound i ok) refl))
    (λ e. rw e (ap added_said (refused_stays i 1 0 0 _ files)))
