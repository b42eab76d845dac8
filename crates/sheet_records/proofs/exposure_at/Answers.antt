-- `sheet_records::exposure_at` meets its contract: by the digits that stand there, and past seven by what they read as.
-- Assumes nothing.
use mathlib.Core.Path.{◌≡◌, sym, ◌∙◌}
use mathlib.Core.Bool.{false}
use mathlib.Core.List.{List}
use Prim.Native.Nat.{ℕ}
use native.Mathlib.Omega.{arith}
use Rattle.decimal.specs.Decimal.{zero_byte}
use Rattle.decimal.specs.Leading.{leading_at, stands_at}
use Rattle.sheet_records.specs.Pass.{ExposureAt}
use Rattle.sheet_records.proofs.Exposures.{few, no_digits, no_number, read, too_much, zero_first}
use Rattle.sheet_records.proofs.exposure_at.Goals as goal
use Rattle.sheet_records.proofs.exposure_at.Goals.{After-digits_end-end, Else-stands, In_ok-t}
use Rattle.std.specs.Prelude.{Some}

module _ (c : After-digits_end-end) where
  abbrev Text : List ℕ
  Text = c.args.text.now

  abbrev At : ℕ
  At = c.args.at

module _ (c : Else-stands) where
  abbrev Text₂ : List ℕ
  Text₂ = c.args.text.now

  abbrev At₂ : ℕ
  At₂ = c.args.at

module _ (c : In_ok-t) where
  abbrev Text₃ : List ℕ
  Text₃ = c.args.text.now

  abbrev At₃ : ℕ
  At₃ = c.args.at

-- the first digit is not 0
other : (c : Else-stands) → stands_at (Text₂ c) (At₂ c) zero_byte ≡ false
other c = sym c.stands.ensures ∙ c.if-stands.false

-- what more than seven digits read as
module _ (c : In_ok-t) where
  abbrev Value : ℕ
  Value = c.in_ok-t.t

  abbrev End : ℕ
  End = c.in_ok-t.next

  number : leading_at (Text₃ c) (At₃ c) ≡ Some (Value, End)
  number =
      sym c.leading_at.ensures ∙ c.in_ok-t.was

pub returns-then-end-at : goal.returns-then-end-at
unfolding ExposureAt
returns-then-end-at c =
    let d = (goal.at.returns-then-end-at c).After-digits_end-end in
    no_digits (Text d) (At d) c.digits_end-end.result c.digits_end-end.ensures c.if-end-at.true

pub returns-then-stands : goal.returns-then-stands
unfolding ExposureAt
returns-then-stands c =
    let d = (goal.at.returns-then-stands c).After-digits_end-end in
    zero_first (Text d) (At d) (sym c.stands.ensures ∙ c.if-stands.true)

pub returns-then-end-at-le-FREE_DIGITS : goal.returns-then-end-at-le-FREE_DIGITS
unfolding ExposureAt
returns-then-end-at-le-FREE_DIGITS c =
    let d = (goal.at.returns-then-end-at-le-FREE_DIGITS c).After-digits_end-end in
    few (Text d) (At d) (other (goal.at.returns-then-end-at-le-FREE_DIGITS c).Else-stands) c.digits_end-end.result c.digits_end-end.ensures c.if-end-at.false (omega (arith, c.digits_end-end.ensures, c.if-end-at-le-FREE_DIGITS.true))

pub returns-in_err-t : goal.returns-in_err-t
unfolding ExposureAt
returns-in_err-t c =
    let d = (goal.at.returns-in_err-t c).After-digits_end-end in
    rw c.from_residual.ensures (no_number (Text d) (At d) (sym c.leading_at.ensures ∙ c.in_err-t.was))

pub returns-then-t-gt-LONGEST_TIME : goal.returns-then-t-gt-LONGEST_TIME
unfolding ExposureAt
returns-then-t-gt-LONGEST_TIME c =
    let at1 = (goal.at.returns-then-t-gt-LONGEST_TIME c).After-digits_end-end in
    let k = (goal.at.returns-then-t-gt-LONGEST_TIME c).In_ok-t in
    too_much (Text at1) (At at1) (Value k) (End k) (number k) c.if-t-gt-LONGEST_TIME.true

pub returns : goal.returns
unfolding ExposureAt
returns c =
    let at1 = (goal.at.returns c).After-digits_end-end in
    let k = (goal.at.returns c).In_ok-t in
    read (Text at1) (At at1) (other (goal.at.returns c).Else-stands) (Value k) (End k) (number k) c.if-t-gt-LONGEST_TIME.false
