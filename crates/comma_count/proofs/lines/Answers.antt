use Prim.Native.Nat.{ℕ, ◌-◌, ◌≤◌}
use mathlib.Core.Path.{◌≡◌, sym, ap, ◌∙◌}
use mathlib.Core.Bool.{true}
use mathlib.Core.List.{List}
use native.Mathlib.Omega.{arith}
use lib.IntN.{ℤ, pos}
use lib.ListN.{length, drop, length-replicate, length-take}
use lib.Seq.{length-take-le}
use borrow.Author.Rules.{rules}
use Rattle.sample_items.specs.Limits.{step_in_range}
use Rattle.comma_count.proofs.Way.{Way, Took, way_start, took, never_refused, from, turn_few, turn_within, turn_falls, turn_on, turn_ends}
use Rattle.comma_count.proofs.lines.Goals as goal
use Rattle.comma_count.proofs.lines.Goals.{At-loop-f, In-Ok, Start}

-- the text has a length
short : (c : Start) → length c.args.text.now ≤ 18446744073709551615
short c = search rules

-- the step is in range all along
step : (c : At-loop-f) → step_in_range c.loop-f.follow.step ≡ true
step c = ap step_in_range c.loop-f.invariant.1.step ∙ c.requires

step₂ : (c : In-Ok) → step_in_range c.loop-f.follow.step ≡ true
step₂ c = ap step_in_range c.loop-f.invariant.1.step ∙ c.requires

-- lines were taken
module _ (c : In-Ok) where
  abbrev text : List ℕ
  text = c.args.text.now

  abbrev later : List ℤ
  later = c.take.new.samples

  taken : Took c.loop-f.follow (drop c.loop-f.at text) c.loop-f.samples (step₂ c) c.in-Ok.f c.in-Ok.bytes c.in-Ok.n later
  taken =
      let t = c.take in
      took c.loop-f.follow (drop c.loop-f.at text) c.loop-f.samples (step₂ c) (from text c.loop-f.at) t.ensures.value t.ensures.samples_after c.in-Ok.is

  later-long : length later ≡ 1024
  later-long = search rules

  few : c.in-Ok.n ≤ 1024
  few = omega (arith, turn_few c.loop-f.invariant.1 taken, c.loop-f.invariant.0)

pub returns-in_default : goal.returns-in_default
returns-in_default c =
    let text = c.args.text.now in
    let told = c.take.ensures.value in
    absurd (never_refused c.loop-f.follow (drop c.loop-f.at text) c.loop-f.samples (step (goal.at.returns-in_default c).At-loop-f) (from text c.loop-f.at) told c.in_default.is)

pub slice_bounds-samples-end : goal.slice_bounds-samples-end
slice_bounds-samples-end c = omega (arith, few c, later-long c)

pub slice_bounds-answering-end : goal.slice_bounds-answering-end
slice_bounds-answering-end c =
    let at1 = (goal.at.slice_bounds-answering-end c).In-Ok in
    sym (length-take-le _ _ (omega (arith, few at1, later-long at1)))

pub overflow_add-at : goal.overflow_add-at
overflow_add-at c =
    omega (arith, turn_within c.loop-f.invariant.1 (taken (goal.at.overflow_add-at c).In-Ok), short (goal.at.overflow_add-at c).Start)

pub returns-then-n-lt-LINES : goal.returns-then-n-lt-LINES
returns-then-n-lt-LINES c =
    turn_ends c.loop-f.invariant.1 (taken (goal.at.returns-then-n-lt-LINES c).In-Ok) c.answering-answer.ensures (omega (arith, c.if-n-lt-LINES.true, c.loop-f.invariant.0))

pub loop-f-smaller : goal.loop-f-smaller
loop-f-smaller c =
    turn_falls c.loop-f.invariant.1 (taken (goal.at.loop-f-smaller c).In-Ok) (omega (arith, c.if-n-lt-LINES.false))

pub loop-f-preserved : goal.loop-f-preserved
loop-f-preserved c =
    let k = (goal.at.loop-f-preserved c).In-Ok in
    (later-long k, turn_on c.loop-f.invariant.1 (taken k) c.answering-answer.ensures)
