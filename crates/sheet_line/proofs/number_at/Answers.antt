-- `sheet_line::number_at` meets its contract. What the run of digits and the byte after it make of the field is
-- `Reading`'s law; each return has the tests that pick its case. Assumes nothing.
use mathlib.Core.Path.{◌≡◌, sym, ◌∙◌}
use mathlib.Core.Bool.{true, false, not}
use mathlib.Core.List.{List}
use Prim.Native.Nat.{ℕ, ◌+◌, ◌<◌}
use native.Mathlib.Omega.{arith}
use borrow.Author.Tests.{le-leb, lt-leb, lt-ltb, le-ltb, eq-eqb, ne_eqb}
use lib.Dec.{eqb}
use lib.ListN.{length, get_or, drop}
use Rattle.decimal.specs.Decimal.{zero_byte}
use Rattle.sheet_line.specs.Field.{ends_here}
use Rattle.decimal.proofs.Reading.{run, run_within}
use Rattle.sheet_line.proofs.Reading.{is_one, no_number, number_is, read_number}
use Rattle.sheet_line.proofs.number_at.Goals as goal
use Rattle.sheet_line.proofs.number_at.Goals.{Else-not-ended}

pub fault_at-requires : goal.fault_at-requires
fault_at-requires c =
    let a = c.args in
    let r = c.run_at-run in
    no_number a.s.now a.at r.result.end r.ensures.end_value (sym c.ended.ensures ∙ c.if-not-ended.true)

-- past the first test the field ends after the run, and the run alone decides
module _ (c : Else-not-ended) where
  abbrev S : List ℕ
  S = c.args.s.now

  abbrev At : ℕ
  At = c.args.at

  abbrev End : ℕ
  End = c.run_at-run.result.end

  end : End ≡ At + length (run S At)
  end = c.run_at-run.ensures.end_value

  ends : ends_here (drop End S) ≡ true
  ends = sym c.ended.ensures ∙ c.if-not-ended.false

  none : End ≡ At → is_one S At ≡ false
  none h = number_is S At End end ends ∙ rw (lt-leb 1 (length (run S At)) (omega (arith, end)))

  one : End ≡ At + 1 → is_one S At ≡ true
  one h = number_is S At End end ends ∙ rw (le-leb 1 (length (run S At)) (omega (arith, end)), le-ltb 1 (length (run S At)) (omega (arith, end)))

  more : At + 1 < End → is_one S At ≡ not (eqb (get_or S At 0) zero_byte)
  more h = number_is S At End end ends ∙ rw (le-leb 1 (length (run S At)) (omega (arith, end)), lt-ltb 1 (length (run S At)) (omega (arith, end)))

pub fault_at-requires-then-end-at : goal.fault_at-requires-then-end-at
fault_at-requires-then-end-at c = none (goal.at.fault_at-requires-then-end-at c).Else-not-ended c.if-end-at.true

pub returns-then-end-at-eq1 : goal.returns-then-end-at-eq1
returns-then-end-at-eq1 c =
    let d = (goal.at.returns-then-end-at-eq1 c).Else-not-ended in
    read_number (S d) (At d) (End d) (end d) (ends d) _ c.run_at-run.ensures.value_value (one d (omega arith))

pub bounds-s-at : goal.bounds-s-at
bounds-s-at c =
    let d = (goal.at.bounds-s-at c).Else-not-ended in
    run_within (S d) (At d) (omega (arith, end d))

pub fault_at-requires-then-s-at-eq-ZERO : goal.fault_at-requires-then-s-at-eq-ZERO
fault_at-requires-then-s-at-eq-ZERO c =
    let d = (goal.at.fault_at-requires-then-s-at-eq-ZERO c).Else-not-ended in
    more d (omega arith) ∙ rw (eq-eqb (get_or (S d) (At d) 0) zero_byte c.if-s-at-eq-ZERO.true)

pub returns : goal.returns
returns c =
    let d = (goal.at.returns c).Else-not-ended in
    read_number (S d) (At d) (End d) (end d) (ends d) _ c.run_at-run.ensures.value_value
    (more d (omega arith) ∙ rw (ne_eqb (get_or (S d) (At d) 0) zero_byte c.if-s-at-eq-ZERO.false))
