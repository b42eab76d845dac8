-- Two answers that a promise allows are the same answer, and so are the two later contents of either slice. Assumes
-- nothing.
use Rattle.std.proofs.Common.{◌≡◌, ℕ, Bool, List, ℤ, sym, ◌∙◌}
use Rattle.comma_stream.specs.declared.Follow.{Follow}
use Rattle.peak_stream.specs.declared.Surveying.{Surveying}
use Rattle.peak_stream.specs.declared.Handing.{Handing}
use Rattle.peak_stream.specs.Hands.{HandsOver}
use Rattle.peak_stream.proofs.Unique.{hand_over_unique}
use Rattle.comma_peaks.specs.Timed.{timed_of, counting}
use Rattle.comma_peaks.specs.Judged.{judging, alike}
use Rattle.refusal.specs.declared.Refusal.{Refusal}
use Rattle.std.specs.Prelude.{Result}

pub count_unique : (R lines : ℕ) (s : Surveying) (xs : List ℤ) (x y : Surveying) → x ≡ counting R lines s xs → y ≡ counting R lines s xs → x ≡ y
count_unique R lines s xs x y e f = e ∙ sym f

pub hand_unique : (R lines : ℕ) (h : Handing) (xs : List ℤ) (sizes times : List ℕ) (x y : Result (Handing × ℕ) Refusal) (s t u v : List ℕ)
    → HandsOver h (timed_of R lines h.reading xs) sizes times x s u → HandsOver h (timed_of R lines h.reading xs) sizes times y t v
    → (x ≡ y) × (s ≡ t) × (u ≡ v)
hand_unique R lines h xs sizes times = hand_over_unique h (timed_of R lines h.reading xs) sizes times

pub judge_unique : (f : Follow) (R : ℕ) (wrong : Bool) (x y : Result (Unit {0}) (ℕ × Refusal)) → x ≡ judging f R wrong → y ≡ judging f R wrong → x ≡ y
judge_unique f R wrong x y e d = e ∙ sym d

pub alike_unique : (f g : Follow) (s t : Surveying) (x y : Bool) → x ≡ alike f s g t → y ≡ alike f s g t → x ≡ y
alike_unique f g s t x y e d = e ∙ sym d
