-- The cases of a sample more, as the code tests them. Assumes nothing.
use Prim.Native.Nat.{ℕ, ◌+◌}
use mathlib.Core.Path.{◌≡◌, sym, ap, ◌∙◌}
use mathlib.Core.Bool.{Bool, true, false, ◌&&◌}
use lib.Dec.{ltb, eqb}
use lib.IntN.{ℤ, pos, nat_abs}
use lib.Signed.{lt_z}
use borrow.Author.Tests.{eq-eqb, ne_eqb}
use Rattle.peak_groups.specs.declared.Peak.{Peak}
use Rattle.peak_groups.specs.Groups.{larger}
use Rattle.peak_groups.specs.Runs.{same, point}
use Rattle.peak_stream.specs.declared.Reading.{Reading}
use Rattle.peak_stream.specs.Reading.{here, waits, stays, grown, read}

module _ (r : Reading) (x : ℤ) (p : Peak) (e : p ≡ here r x) where
  waiting : {b : Bool} → (eqb r.opened 0 && eqb p.size 0) ≡ b → waits r x ≡ b
  waiting h = sym (ap (λ (q : Peak). eqb r.opened 0 && eqb q.size 0) e) ∙ h

  staying : {b : Bool} → (ltb 0 r.opened && same r.best.below p.below) ≡ b → stays r x ≡ b
  staying h = sym (ap (λ (q : Peak). ltb 0 r.opened && same r.best.below q.below) e) ∙ h

  pub read_waits : (eqb r.opened 0 && eqb p.size 0) ≡ true → grown r r.opened r.best ≡ read r x
  unfolding read
  read_waits h = rw (waiting h)

  pub read_stays : (eqb r.opened 0 && eqb p.size 0) ≡ false → (ltb 0 r.opened && same r.best.below p.below) ≡ true → grown r r.opened (larger r.best p) ≡ read r x
  unfolding read
  read_stays h k = rw (waiting h, staying k, e)

  pub read_opens : (eqb r.opened 0 && eqb p.size 0) ≡ false → (ltb 0 r.opened && same r.best.below p.below) ≡ false → grown r (r.opened + 1) p ≡ read r x
  unfolding read
  read_opens h k = rw (waiting h, staying k, e)

-- ---- a sample
module _ (s : Bool) (t : ℕ) (x : ℤ) (m : ℕ) (e : m ≡ nat_abs x) where
  pub point_zero : m ≡ 0 → record { below = s; size = m; time = t } ≡ point s t x
  point_zero z = let k : eqb (nat_abs x) 0 ≡ true = eq-eqb (nat_abs x) 0 (sym e ∙ z) in rw (k, e)

  pub point_some : (m ≡ 0 → ⊥) → record { below = lt_z x (pos 0); size = m; time = t } ≡ point s t x
  point_some z = let k : eqb (nat_abs x) 0 ≡ false = ne_eqb (nat_abs x) 0 (λ h. z (e ∙ h)) in rw (k, e)
