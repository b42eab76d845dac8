-- `sheet_text::run` meets its contract: past its tests the lent bytes have room for all that is written, so that the
-- pass writes it. Assumes nothing.
use Prim.Native.Nat.{◌≤◌}
use mathlib.Core.Path.{◌≡◌}
use native.Mathlib.Omega.{arith}
use lib.ListN.{length}
use mathlib.Core.Bool.{true}
use Rattle.sheet_line.specs.Line.{sound_sheet}
use Rattle.decimal.specs.Lines.{lines_of}
use Rattle.sheet_text.specs.Sheet.{reading_sheet}
use Rattle.sheet_text.proofs.Enough.{enough}
use Rattle.sheet_text.proofs.Promised.{run_broken, run_came, run_short}
use Rattle.sheet_text.proofs.run.Goals as goal
use Rattle.sheet_text.proofs.run.Goals.{Else-not-sound, Joined-not-has_any_room, else-not-has_any_room, then-not-has_any_room+else-out-bytes}
use mathlib.Core.Path.{sym}
use mathlib.Core.Path.{◌∙◌}

from-sound : (c : Else-not-sound) → sound_sheet c.args.s ≡ true
from-sound c = (sym c.sound.ensures ∙ c.if-not-sound.false)

from-sound₂ : (c : Joined-not-has_any_room) → sound_sheet c.args.s ≡ true
from-sound₂ c = (sym c.sound.ensures ∙ c.if-not-sound.false)

-- either way the lent bytes have room: for anything, or for what was counted
fits : (c : Joined-not-has_any_room) → let a = c.args in length (reading_sheet a.more (lines_of a.text.now) a.s).text ≤ length a.out.now
fits c =
    let a = c.args in
    elim c.if-not-has_any_room.branch [
      | then-not-has_any_room+else-out-bytes w ↦ omega (arith, w.needed-bytes.ensures, w.if-out-bytes.false)
      | else-not-has_any_room w ↦ omega (arith, enough a.more a.text.now a.s (from-sound₂ c), c.has_any_room.ensures w.if-not-has_any_room.false)
    ]

pub returns-then-not-sound : goal.returns-then-not-sound
returns-then-not-sound c =
    let a = c.args in
    let whole = run_broken a.more a.text.now a.s a.out.now (sym c.sound.ensures ∙ c.if-not-sound.true) in record { value = whole.0; out_after = whole.1.0; result_in_bounds = whole.1.1.0; result_in_bounds_2 = whole.1.1.1 }

pub needed-bytes-requires : goal.needed-bytes-requires
needed-bytes-requires c = from-sound (goal.at.needed-bytes-requires c).Else-not-sound

pub returns-then-out-bytes : goal.returns-then-out-bytes
returns-then-out-bytes c =
    let a = c.args in
    let whole = run_short a.more a.text.now a.s a.out.now (from-sound (goal.at.returns-then-out-bytes c).Else-not-sound) c.needed-bytes.ensures c.if-out-bytes.true in record { value = whole.0; out_after = whole.1.0; result_in_bounds = whole.1.1.0; result_in_bounds_2 = whole.1.1.1 }

pub pass-passed-requires : goal.pass-passed-requires
pass-passed-requires c = from-sound (goal.at.pass-passed-requires c).Else-not-sound

pub returns : goal.returns
returns c =
    let a = c.args in
    let whole = run_came a.more a.text.now a.s a.out.now (from-sound (goal.at.returns c).Else-not-sound) (fits (goal.at.returns c).Joined-not-has_any_room) c.pass-passed.ensures in record { value = whole.0; out_after = whole.1.0; result_in_bounds = whole.1.1.0; result_in_bounds_2 = whole.1.1.1 }
