-- The number, what it carries and the array are settled, as `peak_tail::fit`'s answer and slice are. Assumes nothing.
use Prim.Native.Nat.{ℕ}
use mathlib.Core.Path.{◌≡◌, sym, ◌∙◌}
use mathlib.Core.List.{List}
use Rattle.peak_tail.proofs.Unique.{fit_unique}
use Rattle.capi.specs.Told.{Told, told}
use Rattle.capi_tail.specs.Told.{FitTold, fit_told}

pub tail_fit_unique : (peaks : List ℕ) (k : ℕ) (before : List ℕ) {n v m w : ℕ} {s t : List ℕ}
    → FitTold peaks k before n v s → FitTold peaks k before m w t → told n v s ≡ told m w t
tail_fit_unique peaks k before {s = s} {t = t} p q =
    let (a, e) = fit_unique peaks k before p.answer q.answer s t p.fits q.fits in
    p.tells ∙ rw (a, e) (sym q.tells)
