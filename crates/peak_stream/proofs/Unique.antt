-- Two answers that a promise allows are the same answer, and so are the two later contents of either slice. Assumes
-- nothing.
use Prim.Native.Nat.{ℕ}
use mathlib.Core.Path.{◌≡◌, sym, ap, ◌∙◌}
use mathlib.Core.Bool.{Bool}
use mathlib.Core.List.{List, map}
use lib.IntN.{ℤ}
use Rattle.peak_machine.specs.Step.{size_of, moment_of}
use Rattle.peak_stream.specs.declared.Surveying.{Surveying}
use Rattle.peak_stream.specs.declared.Handing.{Handing}
use Rattle.peak_stream.specs.Survey.{started, sound, taken}
use Rattle.peak_stream.specs.Hands.{begun, ready, closed_by, noted, last_of, HandsOver}
use Rattle.refusal.specs.declared.Refusal.{Refusal}
use Rattle.peak_groups.specs.declared.Peak.{Peak}
use Rattle.std.specs.Prelude.{Option, Result}

pub survey_unique : (D : ℕ) (x y : Result Surveying Refusal) → x ≡ started D → y ≡ started D → x ≡ y
survey_unique D x y e f = e ∙ sym f

pub sound_unique : (s : Surveying) (x y : Bool) → x ≡ sound s → y ≡ sound s → x ≡ y
sound_unique s x y e f = e ∙ sym f

pub take_unique : (s : Surveying) (xs : List ℤ) (x y : Result Surveying Refusal) → x ≡ taken s xs → y ≡ taken s xs → x ≡ y
take_unique s xs x y e f = e ∙ sym f

pub begin_unique : (D τ n s : ℕ) (x y : Result (Handing × ℕ) Refusal) → x ≡ begun D τ n s → y ≡ begun D τ n s → x ≡ y
begin_unique D τ n s x y e f = e ∙ sym f

pub ready_unique : (h : Handing) (x y : Bool) → x ≡ ready h → y ≡ ready h → x ≡ y
ready_unique h x y e f = e ∙ sym f

pub finish_unique : (h : Handing) (x y : Option Peak) → x ≡ last_of h → y ≡ last_of h → x ≡ y
finish_unique h x y e f = e ∙ sym f

pub hand_over_unique : (h : Handing) (xs : List ℤ) (sizes times : List ℕ) (x y : Result (Handing × ℕ) Refusal) (s t u v : List ℕ)
    → HandsOver h xs sizes times x s u → HandsOver h xs sizes times y t v → (x ≡ y) × (s ≡ t) × (u ≡ v)
hand_over_unique h xs sizes times x y s t u v p q =
    let e = p.answers ∙ sym q.answers in (
      e,
      p.sizes_left ∙ ap (λ (a : Result (Handing × ℕ) Refusal). noted a (map size_of (closed_by h xs)) sizes) e ∙ sym q.sizes_left,
      p.times_left ∙ ap (λ (a : Result (Handing × ℕ) Refusal). noted a (map moment_of (closed_by h xs)) times) e ∙ sym q.times_left,
    )
