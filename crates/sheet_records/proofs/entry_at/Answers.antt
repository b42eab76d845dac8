-- `sheet_records::entry_at` meets its contract: number, flag and exposure with the bytes after them make up the line,
-- and where one fails none stands there. Assumes nothing.
use mathlib.Core.Path.{◌≡◌, subst, sym, ◌∙◌}
use mathlib.Core.Bool.{Bool, true, cond}
use mathlib.Core.List.{List}
use Prim.Native.Nat.{ℕ, ◌+◌, ◌<◌}
use lib.ListN.{length}
use Rattle.truth.proofs.Laws.{neither}
use Rattle.decimal.specs.Decimal.{zero_byte}
use Rattle.decimal.specs.Field.{tab}
use Rattle.decimal.specs.Leading.{leading_at, stands_at}
use Rattle.sheet_records.specs.Pass.{EntryAt, ExposureAt, ExposureHere}
use Rattle.sheet_records.proofs.At.{entry_here, flag_stands, no_exposure, no_feed, no_flag, no_number, no_second, no_tab, other_number, stand_bytes}
use Rattle.sheet_records.proofs.entry_at.Goals as goal
use Rattle.sheet_records.proofs.entry_at.Goals.{Else-not-stands, Else-not-stands-2, In_ok-number, In_ok-feed}
use Rattle.std.specs.Prelude.{Some}

-- the record number that was read
module _ (c : In_ok-number) where
  abbrev Text : List ℕ
  Text = c.args.text.now

  abbrev N : ℕ
  N = c.in_ok-number.number

  abbrev End : ℕ
  End = c.in_ok-number.end

  number : leading_at Text c.args.at ≡ Some (N, End)
  number =
      sym c.leading_at.ensures ∙ c.in_ok-number.was

module _ (c : Else-not-stands) where
  abbrev Text₂ : List ℕ
  Text₂ = c.args.text.now

  abbrev N₂ : ℕ
  N₂ = c.in_ok-number.number

  abbrev End₂ : ℕ
  End₂ = c.in_ok-number.end

  number₂ : leading_at Text₂ c.args.at ≡ Some (N₂, End₂)
  number₂ =
      sym c.leading_at.ensures ∙ c.in_ok-number.was

module _ (c : Else-not-stands-2) where
  abbrev Text₃ : List ℕ
  Text₃ = c.args.text.now

  abbrev N₃ : ℕ
  N₃ = c.in_ok-number.number

  abbrev End₃ : ℕ
  End₃ = c.in_ok-number.end

  number₃ : leading_at Text₃ c.args.at ≡ Some (N₃, End₃)
  number₃ =
      sym c.leading_at.ensures ∙ c.in_ok-number.was

module _ (c : In_ok-feed) where
  abbrev Text₄ : List ℕ
  Text₄ = c.args.text.now

  abbrev N₄ : ℕ
  N₄ = c.in_ok-number.number

  abbrev End₄ : ℕ
  End₄ = c.in_ok-number.end

  number₄ : leading_at Text₄ c.args.at ≡ Some (N₄, End₄)
  number₄ =
      sym c.leading_at.ensures ∙ c.in_ok-number.was

-- the tab after it
module _ (c : Else-not-stands) where
  due : N₂ c ≡ c.args.due
  due = c.if-number-due.false

  first : stands_at (Text₂ c) (End₂ c) tab ≡ true
  first = (sym c.stands.ensures ∙ c.if-not-stands.false)

  inside : End₂ c < length (Text₂ c)
  inside = (stand_bytes (Text₂ c) (End₂ c) tab first).1

-- the flag and its tab
module _ (c : Else-not-stands-2) where
  abbrev Failed : Bool
  Failed = c.stands-failed.result

  flag : stands_at (Text₃ c) (End₃ c + 1) (zero_byte + cond Failed 1 0) ≡ true
  flag =
      flag_stands (Text₃ c) (End₃ c + 1)
      c.stands-failed.ensures
      (sym c.either.ensures ∙ c.if-not-either.false)
      c.stands-2.ensures

  second : stands_at (Text₃ c) (End₃ c + 2) tab ≡ true
  second = (sym c.stands-3.ensures ∙ c.if-not-stands-2.false)

-- the exposure that was read
module _ (c : In_ok-feed) where
  abbrev Feed : ℕ
  Feed = c.in_ok-feed.feed

  exposure : ExposureHere (Text₄ c) (End₄ c + 3) Feed
  unfolding ExposureAt
  exposure =
      subst (ExposureAt (Text₄ c) (End₄ c + 3)) c.in_ok-feed.was c.exposure_at.ensures

pub returns-in_err-number : goal.returns-in_err-number
unfolding EntryAt
returns-in_err-number c =
    rw c.from_residual.ensures (no_number c.args.text.now c.args.at c.args.due (sym c.leading_at.ensures ∙ c.in_err-number.was))

pub returns-then-number-due : goal.returns-then-number-due
unfolding EntryAt
returns-then-number-due c =
    let k = (goal.at.returns-then-number-due c).In_ok-number in
    other_number (Text k) c.args.at c.args.due (N k) (End k) (number k) c.if-number-due.true

pub returns-then-not-stands : goal.returns-then-not-stands
unfolding EntryAt
returns-then-not-stands c =
    let k = (goal.at.returns-then-not-stands c).In_ok-number in
    no_tab (Text k) c.args.at c.args.due (N k) (End k) (number k) (sym c.stands.ensures ∙ c.if-not-stands.true)

pub returns-then-not-either : goal.returns-then-not-either
unfolding EntryAt
returns-then-not-either c =
    let k = (goal.at.returns-then-not-either c).In_ok-number in
    let (one, zero) = neither _ _ (sym c.either.ensures ∙ c.if-not-either.true) in
    no_flag (Text k) c.args.at c.args.due (N k) (End k) (number k) (sym c.stands-failed.ensures ∙ one) (sym c.stands-2.ensures ∙ zero)

pub returns-then-not-stands-2 : goal.returns-then-not-stands-2
unfolding EntryAt
returns-then-not-stands-2 c =
    let k = (goal.at.returns-then-not-stands-2 c).In_ok-number in
    no_second (Text k) c.args.at c.args.due (N k) (End k) (number k) (sym c.stands-3.ensures ∙ c.if-not-stands-2.true)

pub returns-in_err-feed : goal.returns-in_err-feed
unfolding EntryAt
returns-in_err-feed c =
    let k = (goal.at.returns-in_err-feed c).In_ok-number in
    rw c.from_residual-in_err-feed.ensures (no_exposure (Text k) c.args.at c.args.due (N k) (End k) (number k) (subst (ExposureAt (Text k) (End k + 3)) c.in_err-feed.was c.exposure_at.ensures))

pub returns-then-not-stands-3 : goal.returns-then-not-stands-3
unfolding EntryAt
returns-then-not-stands-3 c =
    let k = (goal.at.returns-then-not-stands-3 c).In_ok-number in
    let t = (goal.at.returns-then-not-stands-3 c).In_ok-feed in
    no_feed (Text k) c.args.at c.args.due (N k) (End k) (number k) (Feed t) (exposure t) (sym c.stands-4.ensures ∙ c.if-not-stands-3.true)

pub returns : goal.returns
unfolding EntryAt
returns c =
    let k = (goal.at.returns c).In_ok-number in
    let t = (goal.at.returns c).In_ok-feed in
    let at3 = (goal.at.returns c).Else-not-stands-2 in
    let e = (goal.at.returns c).Else-not-stands in
    entry_here (Text k) c.args.at c.args.due (N k) (End k) (number k) (Feed t) (exposure t)
    (Failed at3) (due e) (first e) (flag at3) (second at3)
    (sym c.stands-4.ensures ∙ c.if-not-stands-3.false)
