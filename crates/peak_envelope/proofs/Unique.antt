-- Two answers that the promise allows are the same answer, and so are the two later contents of either slice. Assumes
-- nothing.
use Prim.Native.Nat.{ℕ}
use mathlib.Core.Path.{◌≡◌, sym, ap, ◌∙◌}
use mathlib.Core.List.{List, map}
use lib.IntN.{ℤ}
use Rattle.peak_groups.specs.Peaks.{handed}
use Rattle.peak_machine.specs.Step.{size_of, moment_of}
use Rattle.peak_envelope.specs.Answers.{written, FindsTo}
use Rattle.refusal.specs.declared.Refusal.{Refusal}
use Rattle.std.specs.Prelude.{Result}

pub find_unique : (D R τ : ℕ) (xs : List ℤ) (sizes times : List ℕ) (x y : Result ℕ Refusal) (s t u v : List ℕ) →
    FindsTo D R τ xs sizes times x s u → FindsTo D R τ xs sizes times y t v → (x ≡ y) × (s ≡ t) × (u ≡ v)
find_unique D R τ xs sizes times x y s t u v p q =
    let e = p.answers ∙ sym q.answers in (
      e,
      p.sizes_left ∙ ap (λ (f : Result ℕ Refusal). written f (map size_of (handed D R τ xs)) sizes) e ∙
          sym q.sizes_left,
      p.times_left ∙ ap (λ (f : Result ℕ Refusal). written f (map moment_of (handed D R τ xs))
          times) e ∙ sym q.times_left,
    )
