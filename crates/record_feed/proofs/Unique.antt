-- Two answers that a promise allows are the same answer: the promise says that the answer is the value of a definition
-- at what was handed in. Assumes nothing.
use mathlib.Core.Path.{◌≡◌, sym, ◌∙◌}
use mathlib.Core.List.{List}
use lib.IntN.{ℤ}
use Rattle.record_state.specs.declared.Record.{Record}
use Rattle.record_feed.specs.Answers.{fed}
use Rattle.refusal.specs.declared.Refusal.{Refusal}
use Rattle.std.specs.Prelude.{Result}

pub feed_unique : (r : Record) (xs ys : List ℤ) (x y : Result Record Refusal) → x ≡ fed r xs ys → y ≡ fed r xs ys → x ≡ y
feed_unique r xs ys x y e f = e ∙ sym f
