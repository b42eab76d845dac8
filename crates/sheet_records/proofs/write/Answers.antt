-- `sheet_records::write` meets its contract: each refusal has the tests that led to it, and then the sheet is put.
-- Assumes nothing.
use mathlib.Core.Path.{◌≡◌, refl, sym, ◌∙◌}
use mathlib.Core.List.{List}
use Prim.Native.Nat.{ℕ, ◌≤◌}
use native.Mathlib.Omega.{arith}
use lib.IntN.{ℤ}
use lib.ListN.{length}
use Rattle.truth.proofs.Answers.{handed_on}
use Rattle.text.specs.Write.{laid_by}
use Rattle.text.proofs.Laws.{laid_front, written_fits}
use Rattle.sheet_records.specs.Ledger.{sheet_text}
use Rattle.sheet_records.specs.Answers.{judged, judged_as}
use Rattle.sheet_records.proofs.Entered.{judged_few}
use Rattle.sheet_records.proofs.Judging.{judged_clean}
use Rattle.sheet_records.proofs.Puts.{all_written, at_fault, no_room}
use Rattle.sheet_records.proofs.write.Goals as goal
use Rattle.sheet_records.proofs.write.Goals.{In_ok-judge}
use Rattle.std.specs.Prelude.{Ok}

-- all records are clean
module _ (c : In_ok-judge) where
  abbrev Q : ℕ
  Q = c.args.q

  abbrev Records : List ℤ
  Records = c.args.records.now

  abbrev Out : List ℕ
  Out = c.args.out.now

  clean : (Ok (tt {0})) ≡ judged_as (judged Q Records)
  clean = sym c.in_ok-judge.was ∙ c.judge.ensures

  few : length Records ≤ 100000
  few = let (d, e) = judged_clean (judged Q Records) clean in judged_few Q Records d e

pub sheet_length-needed-requires : goal.sheet_length-needed-requires
sheet_length-needed-requires c = few c

pub returns-then-out-needed : goal.returns-then-out-needed
unfolding laid_by
returns-then-out-needed c =
    let e = (goal.at.returns-then-out-needed c).In_ok-judge in
    record { value = rw c.sheet_length-needed.ensures (no_room (Q e) (Records e) (Out e) (clean e) (omega (arith, c.sheet_length-needed.ensures, c.if-out-needed.true))); out_after = refl }

pub put_sheet-requires : goal.put_sheet-requires
put_sheet-requires c =
    (few (goal.at.put_sheet-requires c).In_ok-judge, omega (arith, c.sheet_length-needed.ensures, c.if-out-needed.false))

pub returns-in_err-judge : goal.returns-in_err-judge
unfolding laid_by
returns-in_err-judge c =
    rw (handed_on _ c.from_residual.ensures) (record { value = at_fault c.args.q c.args.records.now c.args.out.now _ (sym c.in_err-judge.was ∙ c.judge.ensures); out_after = refl })

pub returns : goal.returns
returns c =
    let e = (goal.at.returns c).In_ok-judge in
    let text = sheet_text (Q e) (Records e) in
    let room : length text ≤ length (Out e) = omega (arith, c.sheet_length-needed.ensures, c.if-out-needed.false) in
    record { value = rw c.sheet_length-needed.ensures (all_written (Q e) (Records e) (Out e) (clean e) room); out_after = rw c.sheet_length-needed.ensures (c.put_sheet.ensures ∙ written_fits (Out e) 0 text (omega (arith, room)) ∙ laid_front (Out e) text) }
