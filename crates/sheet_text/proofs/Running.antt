-- A pass on its way through a text: the reader is `Along`, what its lines gave is counted, and where the lent bytes
-- have room for it, it stands at their start. Assumes nothing.
use Prim.Native.Nat.{ℕ, ◌+◌, ◌^◌, ◌≤◌, ◌<◌}
use mathlib.Core.Path.{◌≡◌, refl, sym, ◌∙◌}
use mathlib.Core.Bool.{Bool, true, false}
use mathlib.Core.List.{List, [], ◌++◌}
use native.Mathlib.Nat.{zero-add}
use native.Mathlib.Omega.{arith}
use lib.ListN.{length, length-append}
use Rattle.refusal.specs.declared.Refusal.TheVariants.{Line}
use Rattle.text.specs.Write.{laid, written}
use Rattle.text.proofs.Laws.{laid_none, laid_join, length_written, written_fits}
use Rattle.sheet_line.specs.declared.Sheet.{Sheet}
use Rattle.sheet_line.specs.declared.Sheet.TheVariants.{Fresh, Open}
use Rattle.sheet_line.specs.Form.{longest_sheet_line}
use Rattle.sheet_line.specs.Line.{sound_sheet}
use Rattle.sheet_reply.proofs.Few.{refused_few}
use Rattle.sheet_text.specs.declared.LineFound.TheVariants.{Taken}
use Rattle.sheet_text.specs.declared.Reading.{Reading}
use Rattle.sheet_text.specs.Sheet.{end_text, ended, last_of, left_in, text_of}
use Rattle.sheet_text.specs.Cut.{Passed, found}
use Rattle.sheet_text.proofs.Along.{Along, along_start, along_next, whole_end, whole_text}
use Rattle.sheet_text.proofs.Steps.{most_few}
use Rattle.sheet_text.proofs.Turns.{here, found_taken}

pub record Running (more : Bool) (text : List ℕ) (from : Sheet) (lent out : List ℕ) (s : Sheet) (at put : ℕ) : Type 0 where
  pub gave : List ℕ
  pub along : Along more text from s at gave
  pub place : put ≡ length gave
  pub size : length out ≡ length lent
  pub bytes : length gave ≤ length lent → out ≡ laid lent 0 gave

pub running_start : (more : Bool) (text : List ℕ) (s : Sheet) (lent : List ℕ) → sound_sheet s ≡ true → Running more text s lent lent s 0 0
running_start more text s lent g =
    record { gave = []; along = along_start more text s g; place = refl; size = refl; bytes = λ h. sym (laid_none lent 0) }

module _ {more : Bool} {text : List ℕ} {from : Sheet} {lent out : List ℕ} {s : Sheet} {at put : ℕ} (r : Running more text from lent out s at put) where
  -- a part that goes after what stands there
  joined : (part : List ℕ) → length (r.gave ++ part) ≤ length lent → written out put part ≡ laid lent 0 (r.gave ++ part)
  joined part h =
      let few : length r.gave + length part ≤ length lent = rw length-append at h in
      written_fits out put part (omega (arith, r.place, r.size))
      ∙ rw (r.bytes (omega arith), r.place) (rw zero-add at (laid_join lent 0 r.gave part (omega arith)))

  pub few_so_far : put ≤ 3000000
  few_so_far = omega (arith, r.place, r.along.few, most_few s r.along.sound)

  module _ {t : Sheet} {next : ℕ} (inside : at < length text) (e : found more text at s ≡ Taken t next) where
    pub line_few : (sound_sheet t ≡ true) × (put + length (text_of t) < 2 ^ 63)
    line_few =
        let took = found_taken more text at s inside r.along.sound e in
        (took.sound, omega (arith, r.place, r.along.few, took.grows, most_few t took.sound))

    pub running_next : {later : List ℕ} {n : ℕ} → (n ≡ put + length (text_of t)) × (later ≡ written out put (text_of t)) → Running more text from lent later t next n
    running_next (p, b) =
        record {
          gave = r.gave ++ text_of t;
          along = along_next r.along inside e;
          place = p ∙ rw (r.place, length-append);
          size = rw b (length_written out put (text_of t) ∙ r.size);
          bytes = λ h. b ∙ joined (text_of t) h;
        }

  -- the end of the rest is the end of the whole
  pub running_end : {end : Reading} {later : List ℕ} {n : ℕ} → here more text at s ≡ ended end → length (end_text end) ≤ 35 → (left_in end ≤ length text) × (left_in end < longest_sheet_line)
      → (n ≡ put + length (end_text end)) × (later ≡ written out put (end_text end)) → Passed more text from lent end n later
  running_end {end} e few left (p, b) =
      let text_is = whole_text r.along e in
      record {
        ends = whole_end r.along e;
        counts = p ∙ rw (← text_is, length-append, r.place);
        writes = λ h.
            let all : length (r.gave ++ end_text end) ≤ length lent = rw length-append (omega (arith, p, r.place)) in
            b ∙ joined (end_text end) all ∙ rw text_is (sym (written_fits lent 0 _ (omega (arith, rw text_is at all))));
        left = left;
        small = omega (arith, p, few_so_far);
      }

-- an end has a short line, and leaves less than a line unread
pub last_few : (more : Bool) (s : Sheet) → length (end_text (last_of more s)) ≤ 35
last_few true s = omega arith
last_few false Fresh = refused_few 1 0 (Line 1) (omega arith) (omega arith)
last_few false (Open c) = omega arith

pub last_left : (more : Bool) (s : Sheet) → left_in (last_of more s) ≡ 0
last_left true s = refl
last_left false Fresh = refl
last_left false (Open c) = refl
