-- Two answers that a promise allows are the same answer: each promise says that the answer is the value of a definition
-- at what was handed in. Assumes nothing.
use mathlib.Core.Path.{◌≡◌, sym, ◌∙◌}
use mathlib.Core.Bool.{Bool}
use Rattle.sample_items.specs.declared.Items.{Items}
use Rattle.record_state.specs.declared.Record.{Record}
use Rattle.record_state.specs.State.{sound}
use Rattle.record_state.specs.Answers.{opened}
use Rattle.refusal.specs.declared.Refusal.{Refusal}
use Rattle.std.specs.Prelude.{Result}

pub open_unique : (items : Items) (x y : Result Record Refusal) → x ≡ opened items → y ≡ opened items → x ≡ y
open_unique items x y e f = e ∙ sym f

pub sound_unique : (r : Record) (x y : Bool) → x ≡ sound r → y ≡ sound r → x ≡ y
sound_unique r x y e f = e ∙ sym f
