-- Two answers that the promise allows are the same answer: the promise is an equation. Assumes nothing.
use mathlib.Core.Path.{◌≡◌, sym, ◌∙◌}
use mathlib.Core.List.{List}
use lib.IntN.{ℤ}
use Rattle.sample_items.specs.declared.Items.{Items}
use Rattle.record_whole.specs.Tests.{sized}
use Rattle.refusal.specs.declared.Refusal.{Refusal}
use Rattle.std.specs.Prelude.{Result}

pub judge_unique : (items : Items) (xs ys : List ℤ) (x y : Result (Unit {0}) Refusal) → x ≡ sized items xs ys → y ≡ sized items xs ys → x ≡ y
judge_unique items xs ys x y e f = e ∙ sym f
