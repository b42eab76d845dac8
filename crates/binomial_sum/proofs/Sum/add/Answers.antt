-- `Sum::add` meets its contract: each answer follows from the tests that led to it; a sound record's figures are small
-- enough to add. Assumes nothing.
use native.Mathlib.Omega.{arith}
use borrow.Author.Tests.{eq-eqb, le-ltb, lt-ltb, ne_eqb}
use Rattle.truth.proofs.Laws.{holds}
use Rattle.record_state.proofs.Bounds.{items_of}
use Rattle.record_state.proofs.Relations as kept
use Rattle.binomial_sum.specs.Answers.{adding}
use Rattle.binomial_sum.proofs.Relations.{brings, kept_from}
use Rattle.binomial_sum.proofs.Sum.add.Goals as goal
use Rattle.binomial_sum.proofs.Sum.add.Goals.{After-struct_known-4-1, Else-not-sound-2}
use mathlib.Core.Path.{sym}
use mathlib.Core.Path.{◌∙◌}

-- ways back to earlier places of the function
abbrev else2 : After-struct_known-4-1 → Else-not-sound-2
else2 c = c.before.before.before.before.before

pub returns-then-not-sound : goal.returns-then-not-sound
unfolding adding
returns-then-not-sound c = rw ((sym c.sound.ensures ∙ c.if-not-sound.true))

pub returns-then-not-sound-2 : goal.returns-then-not-sound-2
unfolding adding
returns-then-not-sound-2 c = rw ((sym c.sound.ensures ∙ c.if-not-sound.false), (sym c.sound-2.ensures ∙ c.if-not-sound-2.true))

pub overflow_add-r : goal.overflow_add-r
overflow_add-r c = omega (arith, (items_of (kept.kept_from _ ((sym c.sound-2.ensures ∙ c.if-not-sound-2.false)))).ramp)

pub returns-then-r : goal.returns-then-r
unfolding adding
returns-then-r c =
    let b = c.before.before.before in
    rw ((sym b.sound.ensures ∙ b.if-not-sound.false), (sym b.sound-2.ensures ∙ b.if-not-sound-2.false), lt-ltb _ _ c.if-r.true)

pub returns-then-r-self : goal.returns-then-r-self
unfolding adding
returns-then-r-self c =
    let b = else2 c.before in
    rw (
      (sym b.sound.ensures ∙ b.if-not-sound.false),
      (sym b.sound-2.ensures ∙ b.if-not-sound-2.false),
      le-ltb _ _ c.if-r.false,
      ne_eqb _ _ c.if-r-self.true,
    )

pub take-requires : goal.take-requires
take-requires c =
    let d = else2 c.before.before in let e = d.before.before in
    let a = e.args in
    let b = brings a.r ((sym d.sound-2.ensures ∙ d.if-not-sound-2.false)) (le-ltb _ _ c.if-r.false) in
    (kept_from a.self (holds ((sym e.sound.ensures ∙ e.if-not-sound.false))), omega (arith, b.groups, b.few), b.few)

pub returns : goal.returns
unfolding adding
returns c =
    let b = else2 c.before.before.before in
    rw (
      (sym b.sound.ensures ∙ b.if-not-sound.false),
      (sym b.sound-2.ensures ∙ b.if-not-sound-2.false),
      le-ltb _ _ c.if-r.false,
      eq-eqb _ _ c.if-r-self.false,
    )
    c.take.ensures
