-- `record_feed::far` meets its contract: with a crossing the place is between the ramp and n, and the times of two
-- places are as far apart as so many samples are long. Assumes nothing.
use Prim.Native.Nat.{ℕ, ◌+◌, ◌-◌, ◌*◌}
use mathlib.Core.Path.{◌≡◌, refl, ap}
use mathlib.Core.Bool.{Bool, true, false}
use native.Mathlib.Omega.{arith}
use lib.Dec.{leb}
use borrow.Author.Tests.{ne_eqb, leb-true, leb-false, le-leb, lt-leb}
use Rattle.record_feed.proofs.Gaps.{in_samples}
use Rattle.record_feed.proofs.far.Goals as goal

-- of p + q samples the last q are long enough
apart : (D τ p q m : ℕ) → m ≡ p + q → leb (p * D + τ) (m * D) ≡ leb τ (q * D)
apart D τ p q m e = go (leb τ (q * D)) refl (ap (λ (k : ℕ). k * D) e)
  where
    go : (b : Bool) → leb τ (q * D) ≡ b → m * D ≡ (p + q) * D → leb (p * D + τ) (m * D) ≡ b
    go true t d = let l = leb-true τ (q * D) t in le-leb (p * D + τ) (m * D) (omega arith)
    go false t d = let l = leb-false τ (q * D) t in lt-leb (p * D + τ) (m * D) (omega arith)

pub returns : goal.returns
returns c =
    let r = c.args.r in
    let p = c.args.place in
    let h = c.requires.2 c.if-r-eq0.false in
    let l = c.requires.1 in
    rw (ne_eqb _ _ c.if-r-eq0.false, apart r.items.step r.items.decorrelation (p - r.items.ramp) (r.n - p) (r.n - r.items.ramp) (omega arith)) (in_samples c.requires.0 (r.n - p))
