-- What a run promises, from the pass that it makes: with room for all that is written it is the pass, without it
-- refusal 7. Assumes nothing.
use Prim.Native.Nat.{ℕ, ◌≤◌, ◌<◌}
use mathlib.Core.Path.{◌≡◌, refl}
use mathlib.Core.Bool.{Bool, true, false}
use mathlib.Core.List.{List}
use native.Mathlib.Omega.{arith}
use lib.ListN.{length}
use borrow.Author.Tests.{le-leb, lt-leb}
use Rattle.refusal.specs.declared.Refusal.TheVariants.{BrokenState, Room}
use Rattle.sheet_line.specs.declared.Sheet.{Sheet}
use Rattle.sheet_line.specs.Form.{longest_sheet_line}
use Rattle.sheet_line.specs.Line.{sound_sheet}
use Rattle.sheet_text.specs.declared.Reading.{Reading}
use Rattle.decimal.specs.Lines.{lines_of}
use Rattle.sheet_text.specs.Sheet.{left_by, put_by, reading_sheet, running, run_left}
use Rattle.sheet_text.specs.Cut.{Passed}
use Rattle.text.proofs.Laws.{wrote_short}
use Rattle.refusal.specs.declared.Refusal.{Refusal}
use Rattle.std.specs.Prelude.{Result, Ok, Err}

module _ (more : Bool) (text : List ℕ) (from : Sheet) (lent : List ℕ) where
  abbrev Promised : Result (Reading × ℕ) Refusal → List ℕ → Type 0
  Promised ran later =
      (ran ≡ running more text from lent)
      × ((later ≡ run_left more text from lent)
      × ((put_by ran ≤ length lent)
      × ((left_by ran ≤ length text) × (left_by ran < longest_sheet_line))))

  pub run_broken : sound_sheet from ≡ false → Promised (Err BrokenState) lent
  unfolding running run_left
  run_broken g = rw g (refl, (refl, (omega arith, (omega arith, omega arith))))

  pub run_short : {n : ℕ} → sound_sheet from ≡ true → n ≡ length (reading_sheet more (lines_of text) from).text → length lent < n → Promised (Err (Room n)) lent
  unfolding running run_left
  run_short g e h =
      let all = (reading_sheet more (lines_of text) from).text in
      let short : length lent < length all = omega (arith, e) in
      rw (g, lt-leb (length all) (length lent) short, e)
      (refl, ((wrote_short lent 0 all (omega arith)).1, (omega arith, (omega arith, omega arith))))

  pub run_came : {end : Reading} {put : ℕ} {later : List ℕ} → sound_sheet from ≡ true → length (reading_sheet more (lines_of text) from).text ≤ length lent
      → Passed more text from lent end put later → Promised (Ok (end, put)) later
  unfolding running run_left
  run_came {put = put} g h p =
      let fits : put ≤ length lent = omega (arith, p.counts) in
      rw (g, le-leb (length (reading_sheet more (lines_of text) from).text) (length lent) h)
      (cc (p.ends, p.counts), (p.writes fits, (fits, p.left)))
