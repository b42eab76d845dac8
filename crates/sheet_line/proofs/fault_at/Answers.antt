-- `sheet_line::fault_at` meets its contract: each answer has the tests that pick its case (`Faults`). Assumes nothing.
use mathlib.Core.Path.{◌≡◌, sym, ◌∙◌}
use mathlib.Core.Bool.{true, false}
use lib.ListN.{drop}
use Rattle.sheet_line.specs.Field.{ends_here}
use Rattle.sheet_line.proofs.Faults.{inside, is_empty, is_strange, is_leading_zero, is_too_long}
use Rattle.sheet_line.proofs.fault_at.Goals as goal
use Rattle.sheet_line.proofs.fault_at.Goals.{Else-ended, Else-strange}

some : (c : Else-ended) → ends_here (drop c.args.at c.args.s.now) ≡ false
some c = sym c.ended.ensures ∙ c.if-ended.false

pub returns-then-ended : goal.returns-then-ended
returns-then-ended c =
    is_empty c.args.s.now c.args.at c.requires (sym c.ended.ensures ∙ c.if-ended.true)

pub bounds-s-at : goal.bounds-s-at
bounds-s-at c =
    inside c.args.s.now c.args.at c.requires (some (goal.at.bounds-s-at c).Else-ended)

pub returns-then-strange : goal.returns-then-strange
returns-then-strange c =
    is_strange c.args.s.now c.args.at c.requires (some (goal.at.returns-then-strange c).Else-ended) _ c.digits_end-end.ensures (sym c.ended-strange.ensures ∙ c.if-strange.true)

all : (c : Else-strange) → ends_here (drop c.digits_end-end.result c.args.s.now) ≡ true
all c = (sym c.ended-strange.ensures ∙ c.if-strange.false)

pub returns-then-zero : goal.returns-then-zero
returns-then-zero c =
    is_leading_zero c.args.s.now c.args.at c.requires (some (goal.at.returns-then-zero c).Else-ended) _ c.digits_end-end.ensures (all (goal.at.returns-then-zero c).Else-strange) c.if-zero.true

pub returns : goal.returns
returns c =
    is_too_long c.args.s.now c.args.at c.requires (some (goal.at.returns c).Else-ended) _ c.digits_end-end.ensures (all (goal.at.returns c).Else-strange) c.if-zero.false
