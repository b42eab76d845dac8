-- `decimal::leading_at` meets its contract: the byte after the run of digits decides, and then the run; each return
-- has the tests that pick its case. Assumes nothing.
use mathlib.Core.Path.{◌≡◌, sym, ◌∙◌}
use mathlib.Core.Bool.{cond, not, ◌&&◌}
use mathlib.Core.List.{List}
use Prim.Native.Nat.{ℕ, ◌+◌, ◌<◌}
use native.Mathlib.Omega.{arith}
use borrow.Author.Tests.{le-leb, lt-leb, lt-ltb, le-ltb, eq-eqb, ne_eqb}
use lib.Dec.{leb, ltb, eqb}
use lib.ListN.{length, get_or}
use Rattle.decimal.specs.Decimal.{zero_byte}
use Rattle.decimal.specs.Leading.{leading_at}
use Rattle.decimal.proofs.Reading.{run, run_within}
use Rattle.decimal.proofs.Leading.{leads_bad, leads_read}
use Rattle.decimal.proofs.leading_at.Goals as goal
use Rattle.decimal.proofs.leading_at.Goals.{Else-digit_at}
use Rattle.std.specs.Prelude.{Some, None}

pub returns-then-digit_at : goal.returns-then-digit_at
returns-then-digit_at c =
    let a = c.args in
    let r = c.run_at-run in
    sym (leads_bad a.s.now a.at r.result.end r.ensures.end_value (sym c.digit_at.ensures ∙ c.if-digit_at.true))

-- past the first test the run alone decides
module _ (c : Else-digit_at) where
  abbrev S : List ℕ
  S = c.args.s.now

  abbrev At : ℕ
  At = c.args.at

  abbrev End : ℕ
  End = c.run_at-run.result.end

  abbrev Value : ℕ
  Value = c.run_at-run.result.value

  end : End ≡ At + length (run S At)
  end = c.run_at-run.ensures.end_value

  by-run : leading_at S At
      ≡ cond (leb 1 (length (run S At)) && not (ltb 1 (length (run S At)) && eqb (get_or S At 0) zero_byte))
      (Some (Value, End)) None
  by-run =
      leads_read S At End end (sym c.digit_at.ensures ∙ c.if-digit_at.false) Value c.run_at-run.ensures.value_value

  none : End ≡ At → None ≡ leading_at S At
  none h = rw (by-run, lt-leb 1 (length (run S At)) (omega (arith, end)))

  one : End ≡ At + 1 → Some (Value, End) ≡ leading_at S At
  one h = rw (
    by-run,
    le-leb 1 (length (run S At)) (omega (arith, end)),
    le-ltb 1 (length (run S At)) (omega (arith, end)),
  )

  more : At + 1 < End → leading_at S At ≡ cond (not (eqb (get_or S At 0) zero_byte)) (Some (Value, End)) None
  more h = rw (
    by-run,
    le-leb 1 (length (run S At)) (omega (arith, end)),
    lt-ltb 1 (length (run S At)) (omega (arith, end)),
  )

pub returns-then-end-at : goal.returns-then-end-at
returns-then-end-at c = none (goal.at.returns-then-end-at c).Else-digit_at c.if-end-at.true

pub returns-then-end-at-eq1 : goal.returns-then-end-at-eq1
returns-then-end-at-eq1 c = let else1 = (goal.at.returns-then-end-at-eq1 c).Else-digit_at in one else1 (omega arith)

pub bounds-s-at : goal.bounds-s-at
bounds-s-at c = let d = (goal.at.bounds-s-at c).Else-digit_at in run_within (S d) (At d) (omega (arith, end d))

pub returns-then-s-at-eq-ZERO : goal.returns-then-s-at-eq-ZERO
returns-then-s-at-eq-ZERO c =
    let d = (goal.at.returns-then-s-at-eq-ZERO c).Else-digit_at in
    rw (more d (omega arith), eq-eqb (get_or (S d) (At d) 0) zero_byte c.if-s-at-eq-ZERO.true)

pub returns : goal.returns
returns c =
    let d = (goal.at.returns c).Else-digit_at in
    rw (more d (omega arith), ne_eqb (get_or (S d) (At d) 0) zero_byte c.if-s-at-eq-ZERO.false)
