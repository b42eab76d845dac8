-- What the letters say of the three times, and that the peaks of a list with times are not all alike. Assumes nothing.
use mathlib.Core.Path.{◌≡◌, refl}
use mathlib.Core.Bool.{Bool, true, false, cond, ◌&&◌}
use mathlib.Core.List.{List}
use Prim.Native.Nat.{ℕ, ◌*◌, ◌^◌, ◌≤◌, ◌<◌}
use native.Mathlib.Nat.{mul-le-mul_right, one-le-pow, pow-le-pow_left}
use native.Mathlib.Omega.{arith}
use borrow.Author.Tests.{le-leb, leb-true, lt-leb}
use lib.Dec.{leb}
use lib.Pow.{pow_mono}
use Rattle.truth.proofs.Cases.{by_order}
use Rattle.truth.proofs.Laws.{and-true, impossible}
use Rattle.logarithm.specs.Logarithm.{units}
use Rattle.peak_tail.specs.Hill.{HillSum, kth}
use Rattle.peak_reach.specs.declared.Times.{Times}
use Rattle.peak_reach.specs.declared.Letter.TheVariants.{Accept, Reject, Continue}
use Rattle.peak_reach.specs.Answers.{letter_for}
use Rattle.peak_reach.specs.Reach.{product}
use Rattle.peak_reach.proofs.Hill.{hill_low}

module _ (q : ℕ) (t : Times) where
  pub from_accept : letter_for q t ≡ Accept → q ≤ t.accepted
  from_accept = go (leb q t.accepted) refl (leb 1 t.rejected && leb t.rejected q)
    where
      go : (a : Bool) → leb q t.accepted ≡ a → (b : Bool) → cond a Accept (cond b Reject Continue) ≡ Accept → q ≤ t.accepted
      go true x b e = leb-true q t.accepted x
      go false x true e = impossible (cc)
      go false x false e = impossible (cc)

  pub to_accept : q ≤ t.accepted → letter_for q t ≡ Accept
  to_accept l = rw (le-leb q t.accepted l)

  pub from_reject : letter_for q t ≡ Reject → (1 ≤ t.rejected) × (t.rejected ≤ q)
  from_reject = go (leb q t.accepted) (leb 1 t.rejected && leb t.rejected q) refl
    where
      go : (a b : Bool) → (leb 1 t.rejected && leb t.rejected q) ≡ b → cond a Accept (cond b Reject Continue) ≡ Reject
          → (1 ≤ t.rejected) × (t.rejected ≤ q)
      go true b x e = impossible (cc)
      go false true x e = let (l, m) = and-true (leb 1 t.rejected) (leb t.rejected q) x in (leb-true _ _ l, leb-true _ _ m)
      go false false x e = impossible (cc)

  pub to_reject : t.accepted < q → 1 ≤ t.rejected → t.rejected ≤ q → letter_for q t ≡ Reject
  to_reject less some l = rw (lt-leb q t.accepted less, le-leb 1 t.rejected some, le-leb t.rejected q l)

-- a Hill sum of 1 or more is that of peaks that are not all alike
pub apart : (ys : List ℕ) (k sum : ℕ) → HillSum ys k sum → 1 ≤ sum → 1 ≤ kth ys k → kth ys k ^ k < product ys k
apart ys k sum hill some unit =
    by_order (kth ys k ^ k) (product ys k)
    (λ l. l)
    (λ l.
    let a = (kth ys k ^ k) ^ units in
    let pos : 1 ≤ a = one-le-pow units (kth ys k ^ k) (one-le-pow k (kth ys k) unit) in
    let twice : 2 * a ≤ product ys k ^ units =
    omega (arith, hill_low ys k sum hill, mul-le-mul_right a (pow_mono {i = 1} {j = sum} some))
    in
    absurd (omega (arith, pow-le-pow_left l units)))
