-- Two answers that a promise allows are the same answer: each promise is an equation. Assumes nothing.
use Prim.Native.Nat.{ℕ}
use mathlib.Core.Path.{◌≡◌, sym, ◌∙◌}
use Rattle.sample_items.specs.declared.Items.{Items}
use Rattle.sample_items.specs.Limits.{item_outside, most_in_range}

pub item_outside_unique : (items : Items) (x y : ℕ) → x ≡ item_outside items → y ≡ item_outside items → x ≡ y
item_outside_unique items x y e f = e ∙ sym f

pub most_samples_unique : (D R : ℕ) (x y : ℕ) → x ≡ most_in_range D R → y ≡ most_in_range D R → x ≡ y
most_samples_unique D R x y e f = e ∙ sym f
