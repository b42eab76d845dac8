-- `comma_pair::came_to` meets its contract, by its tests in their order. Assumes nothing.
use Prim.Native.Nat.{◌≤◌}
use mathlib.Core.Path.{◌≡◌, sym, ◌∙◌}
use mathlib.Core.Bool.{true, false}
use native.Mathlib.Omega.{arith}
use lib.Dec.{eqb}
use borrow.Author.Tests.{eq-eqb, ne_eqb, eqb-false, not-true}
use Rattle.truth.proofs.Laws.{and-true}
use Rattle.comma_pair.specs.declared.Watching.{Watching}
use Rattle.comma_pair.specs.Taking.{roll_outside, end_of}
use borrow.Author.Rules.{rules}
use Rattle.comma_pair.proofs.came_to.Goals as goal
use Rattle.comma_pair.proofs.came_to.Goals.{After-roll_outside, After-struct_known-then-roll_outside-1, Else-roll_outside}

pub returns-then-w : goal.returns-then-w
unfolding end_of
returns-then-w c = rw c.if-w.true c.by_answer.ensures

pub returns-then-f-g : goal.returns-then-f-g
unfolding end_of
returns-then-f-g c =
    let w = c.args.w in
    rw (c.if-w.false, ne_eqb w.roll.lines w.acceleration.lines c.if-f-g.true)

abbrev W : After-roll_outside → Watching
W k = k.args.w

abbrev W₂ : Else-roll_outside → Watching
W₂ k = k.args.w

abbrev W₃ : After-struct_known-then-roll_outside-1 → Watching
W₃ k = k.args.w

equal : (k : After-roll_outside) → eqb (W k).roll.lines (W k).acceleration.lines ≡ true
equal k = eq-eqb (W k).roll.lines (W k).acceleration.lines k.if-f-g.false

is-roll : (c : After-struct_known-then-roll_outside-1) → roll_outside (W₃ c).roll (W₃ c).acceleration ≡ true
is-roll c = sym c.roll_outside.ensures ∙ c.if-roll_outside.true

not-roll : (c : Else-roll_outside) → roll_outside (W₂ c).roll (W₂ c).acceleration ≡ false
not-roll c = sym c.roll_outside.ensures ∙ c.if-roll_outside.false

pub returns-then-roll_outside : goal.returns-then-roll_outside
unfolding end_of
returns-then-roll_outside c = rw (c.if-w.false, equal (goal.at.returns-then-roll_outside c).After-roll_outside, is-roll c)

pub returns-then-g-ne0 : goal.returns-then-g-ne0
unfolding end_of
returns-then-g-ne0 c =
    let k = (goal.at.returns-then-g-ne0 c).After-roll_outside in
    rw (c.if-w.false, equal k, not-roll (goal.at.returns-then-g-ne0 c).Else-roll_outside, ne_eqb (W k).acceleration.outside 0 c.if-g-ne0.true)

pub returns : goal.returns
unfolding end_of
returns c =
    let k = (goal.at.returns c).After-roll_outside in
    rw (c.if-w.false, equal k, not-roll (goal.at.returns c).Else-roll_outside, eq-eqb (W k).acceleration.outside 0 c.if-g-ne0.false) c.by_answer-2.ensures
