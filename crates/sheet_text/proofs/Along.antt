-- A reader on its way through a text: what the whole text comes to is what its lines so far gave, before what the rest
-- comes to from where the reading stands. It is the invariant of both readers; a turn keeps it, and an end of the rest
-- is the whole text's end. Assumes nothing.
use Prim.Native.Nat.{ℕ, ◌≤◌, ◌<◌}
use mathlib.Core.Path.{◌≡◌, refl, ◌∙◌}
use mathlib.Core.Bool.{Bool, true}
use mathlib.Core.List.{List, [], ◌++◌, append_assoc}
use native.Mathlib.Omega.{arith}
use lib.ListN.{length, length-append, drop_of_length-le}
use Rattle.sheet_text.specs.declared.LineFound.TheVariants.{Taken}
use Rattle.sheet_text.specs.declared.Reading.{Reading}
use Rattle.sheet_line.specs.declared.Sheet.{Sheet}
use Rattle.decimal.specs.Lines.{lines_of}
use Rattle.sheet_text.specs.Sheet.{prefixed, end_text, ended, last_of, text_of, reading_sheet}
use Rattle.sheet_line.specs.Line.{sound_sheet}
use Rattle.sheet_text.specs.Cut.{found}
use Rattle.sheet_text.proofs.Steps.{most}
use Rattle.sheet_text.proofs.Turns.{here, found_taken}

-- `gave`: what the lines before `at` gave
pub record Along (more : Bool) (text : List ℕ) (from s : Sheet) (at : ℕ) (gave : List ℕ) : Type 0 where
  pub account : reading_sheet more (lines_of text) from ≡ prefixed gave (here more text at s)
  pub sound : sound_sheet s ≡ true
  pub within : at ≤ length text
  pub few : length gave ≤ most s

pub along_start : (more : Bool) (text : List ℕ) (s : Sheet) → sound_sheet s ≡ true → Along more text s s 0 []
along_start more text s g = record { account = refl; sound = g; within = omega arith; few = omega arith }

module _ {more : Bool} {text : List ℕ} {from s : Sheet} {at : ℕ} {gave : List ℕ} (a : Along more text from s at gave) where
  pub along_next : {t : Sheet} {next : ℕ} → at < length text → found more text at s ≡ Taken t next → Along more text from t next (gave ++ text_of t)
  along_next {t} {next} inside e =
      let took = found_taken more text at s inside a.sound e in
      record {
        account = a.account ∙ rw (took.reads, append_assoc);
        sound = took.sound;
        within = took.within;
        few = rw length-append (omega (arith, a.few, took.grows));
      }

  -- the lines have come to an end
  pub along_last : length text ≤ at → here more text at s ≡ ended (last_of more s)
  unfolding reading_sheet lines_of
  along_last h = rw (drop_of_length-le text h)

  pub whole_end : {r : Reading} → here more text at s ≡ ended r → r ≡ (reading_sheet more (lines_of text) from).end
  whole_end e = rw (a.account, e)

  pub whole_text : {r : Reading} → here more text at s ≡ ended r → gave ++ end_text r ≡ (reading_sheet more (lines_of text) from).text
  whole_text e = rw (a.account, e)
