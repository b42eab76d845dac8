use Prim.Native.Nat.{◌<◌}
use mathlib.Core.Path.{◌≡◌, sym, ◌∙◌}
use mathlib.Core.Bool.{true}
use native.Mathlib.Omega.{arith}
use lib.ListN.{length}
use Rattle.sheet_text.specs.Sheet.{reading_end}
use Rattle.sheet_line.specs.Line.{sound_sheet}
use Rattle.sheet_text.specs.Cut.{found}
use Rattle.sheet_text.proofs.Along.{along_next, along_last, whole_end}
use Rattle.sheet_text.proofs.Turns.{found_taken, found_waits, found_bad}
use Rattle.sheet_text.proofs.read.Goals as goal
use Rattle.sheet_text.proofs.read.Goals.{After-find, At-loop-at, In-loop-at}

from-sound : (c : At-loop-at) → sound_sheet c.args.s ≡ true
from-sound c = (sym c.sound.ensures ∙ c.if-not-sound.false)

inside : (c : In-loop-at) → c.loop-at.at < length c.args.text.now
inside c = c.loop-at-test.true

-- what was found at the loop's place
found-is : (c : After-find) → found c.args.more c.args.text.now c.loop-at.at c.loop-at.sheet ≡ c.find.result
found-is c = sym c.find.ensures

pub returns-then-not-sound : goal.returns-then-not-sound
unfolding reading_end
returns-then-not-sound c = rw (sym c.sound.ensures ∙ c.if-not-sound.true)

pub loop-at-smaller : goal.loop-at-smaller
loop-at-smaller c =
    let t = found_taken _ _ _ _ (inside (goal.at.loop-at-smaller c).In-loop-at) c.loop-at.invariant.1.sound (found-is (goal.at.loop-at-smaller c).After-find ∙ c.in-Taken.is) in
    omega (arith, t.further, t.within)

pub loop-at-preserved : goal.loop-at-preserved
loop-at-preserved c =
    (_, along_next c.loop-at.invariant.1 (inside (goal.at.loop-at-preserved c).In-loop-at) (found-is (goal.at.loop-at-preserved c).After-find ∙ c.in-Taken.is))

pub returns-in-Waits : goal.returns-in-Waits
unfolding reading_end
returns-in-Waits c =
    rw (from-sound (goal.at.returns-in-Waits c).At-loop-at) (whole_end c.loop-at.invariant.1 (found_waits _ _ _ _ (inside (goal.at.returns-in-Waits c).In-loop-at) (found-is (goal.at.returns-in-Waits c).After-find ∙ c.in-Waits.is)).0)

pub returns-in-Bad : goal.returns-in-Bad
unfolding reading_end
returns-in-Bad c =
    rw (from-sound (goal.at.returns-in-Bad c).At-loop-at) (whole_end c.loop-at.invariant.1 (found_bad _ _ _ _ (inside (goal.at.returns-in-Bad c).In-loop-at) c.loop-at.invariant.1.sound (found-is (goal.at.returns-in-Bad c).After-find ∙ c.in-Bad.is)).0)

pub returns : goal.returns
unfolding reading_end
returns c =
    rw (from-sound (goal.at.returns c).At-loop-at) (c.last.ensures ∙ whole_end c.loop-at.invariant.1 (along_last c.loop-at.invariant.1 (omega arith)))
