-- Two answers that a promise allows are the same answer. Assumes nothing.
use Prim.Native.Nat.{ℕ}
use mathlib.Core.Path.{◌≡◌, sym, ◌∙◌}
use mathlib.Core.List.{List}
use lib.ListN.{set}
use Rattle.peak_groups.specs.declared.Peak.{Peak}
use Rattle.peak_machine.specs.declared.Envelope.{Envelope}
use Rattle.peak_machine.specs.Step.{advanced, fresh}

pub advance_unique : (n s τ : ℕ) (e : Envelope) (p : Peak) (f g : Envelope) → f ≡ advanced n s τ e p → g ≡ advanced n s τ e p → f ≡ g
advance_unique n s τ e p f g a b = a ∙ sym b

pub fresh_unique : (f g : Envelope) → f ≡ fresh → g ≡ fresh → f ≡ g
fresh_unique f g a b = a ∙ sym b

pub place_unique : (slice : List ℕ) (k v : ℕ) (l m : List ℕ) → l ≡ set slice k v → m ≡ set slice k v → l ≡ m
place_unique slice k v l m a b = a ∙ sym b
