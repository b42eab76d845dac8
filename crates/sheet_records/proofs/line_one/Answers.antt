-- `sheet_records::line_one` meets its contract: the word, the number and the LF make up line 1. Assumes nothing.
use mathlib.Core.Path.{◌≡◌, sym, ◌∙◌}
use mathlib.Core.Bool.{true}
use mathlib.Core.List.{List}
use Prim.Native.Nat.{ℕ}
use Rattle.decimal.specs.Leading.{leading_at}
use Rattle.sheet_line.specs.Form.{begins, standard_start}
use Rattle.sheet_records.specs.Pass.{HeadOf}
use Rattle.sheet_records.proofs.At.{head_here, no_end, no_standard, no_word}
use Rattle.sheet_records.proofs.line_one.Goals as goal
use Rattle.sheet_records.proofs.line_one.Goals.{After-begins, In_ok-q}
use Rattle.std.specs.Prelude.{Some}

abbrev Text : After-begins → List ℕ
Text c = c.args.text.now

abbrev Text₂ : In_ok-q → List ℕ
Text₂ c = c.args.text.now

-- the number that was read
module _ (c : In_ok-q) where
  abbrev Q : ℕ
  Q = c.in_ok-q.q

  abbrev Feed : ℕ
  Feed = c.in_ok-q.feed

  number : leading_at (Text₂ c) 9 ≡ Some (Q, Feed)
  number =
      sym c.leading_at.ensures ∙ c.in_ok-q.was

  begun : begins standard_start (Text₂ c) ≡ true
  begun = (sym c.begins.ensures ∙ c.if-not-begins.false)

pub returns-then-not-begins : goal.returns-then-not-begins
unfolding HeadOf
returns-then-not-begins c = no_word _ (sym c.begins.ensures ∙ c.if-not-begins.true)

pub returns-in_err-q : goal.returns-in_err-q
unfolding HeadOf
returns-in_err-q c =
    rw c.from_residual.ensures (no_standard (Text (goal.at.returns-in_err-q c).After-begins) (sym c.leading_at.ensures ∙ c.in_err-q.was))

pub returns-then-not-stands : goal.returns-then-not-stands
unfolding HeadOf
returns-then-not-stands c =
    let k = (goal.at.returns-then-not-stands c).In_ok-q in
    no_end (Text (goal.at.returns-then-not-stands c).After-begins) (Q k) (Feed k) (number k) (sym c.stands.ensures ∙ c.if-not-stands.true)

pub returns : goal.returns
returns c =
    let k = (goal.at.returns c).In_ok-q in
    head_here (Text (goal.at.returns c).After-begins) (Q k) (Feed k) (number k) (begun k) (sym c.stands.ensures ∙ c.if-not-stands.false)
