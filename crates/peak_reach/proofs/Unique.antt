-- Two answers that the promise allows are the same answer: it equates the answer with a definition's value. Assumes
-- nothing.
use mathlib.Core.Path.{◌≡◌, sym, ◌∙◌}
use mathlib.Core.List.{List}
use Prim.Native.Nat.{ℕ}
use Rattle.peak_reach.specs.Answers.{ExtrapolatesTo}
use Rattle.refusal.specs.declared.Refusal.{Refusal}
use Rattle.peak_reach.specs.declared.Times.{Times}
use Rattle.peak_reach.specs.declared.Letter.{Letter}
use Rattle.std.specs.Prelude.{Result}

pub extrapolate_unique : (ys : List ℕ) (k c D P q : ℕ) (x y : Result (Times × Letter) Refusal)
    → ExtrapolatesTo ys k c D P q x → ExtrapolatesTo ys k c D P q y → x ≡ y
extrapolate_unique ys k c D P q x y a b = a.answers ∙ sym b.answers
