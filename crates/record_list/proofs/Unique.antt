-- Two answers that a promise allows are the same answer: the promise equates it with a definition's value. Assumes
-- nothing.
use mathlib.Core.Path.{◌≡◌, sym, ◌∙◌, ap}
use mathlib.Core.Bool.{Bool}
use Rattle.record_list.specs.declared.Walk.{Walk}
use Rattle.record_list.specs.Walk.{starts}
use Prim.Native.Nat.{ℕ}
use mathlib.Core.List.{List}
use lib.IntN.{ℤ}
use Rattle.sample_items.specs.declared.Items.{Items}
use Rattle.sample_channels.specs.Channels.{moments}
use Rattle.crossing_places.specs.Reading.{counted_times}
use Rattle.record_list.specs.Answers.{written, ListsTo}
use Rattle.refusal.specs.declared.Refusal.{Refusal}
use Rattle.std.specs.Prelude.{Result}

pub starts_unique : (w : Walk) (x y : Bool) → x ≡ starts w → y ≡ starts w → x ≡ y
starts_unique w x y p q = p ∙ sym q

pub list_unique : (items : Items) (xs ys : List ℤ) (slice : List ℕ) (x y : Result ℕ Refusal) (s t : List ℕ) → ListsTo items xs ys slice x s → ListsTo items xs ys slice y t → (x ≡ y) × (s ≡ t)
list_unique items xs ys slice x y s t p q =
    let e = p.answers ∙ sym q.answers in
    (e, p.leaves ∙ ap (λ (l : Result ℕ Refusal). written l (counted_times items (moments xs ys)) slice) e ∙ sym q.leaves)
