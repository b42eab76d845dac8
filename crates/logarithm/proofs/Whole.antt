-- Our figure as the definition has it is what `Logarithm` says, for any two values of 32 bits: 16 turns lead from the
-- ratio's parts to it. And every answer that `Logarithm` allows is that figure. Assumes nothing.
use mathlib.Core.Path.{◌≡◌, refl, subst}
use Prim.Native.Nat.{ℕ, zero, suc, ◌+◌, ◌*◌, ◌^◌, ◌≤◌, ◌<◌}
use native.Mathlib.Decide.{dec_le}
use native.Mathlib.Nat.{le_of_lt, lt_of_not-le}
use native.Mathlib.Omega.{arith}
use borrow.Author.Tests.{le-leb, ne_eqb}
use lib.Dec.{lit<}
use Rattle.logarithm.specs.Logarithm.{Logarithm, Near, units}
use Rattle.logarithm.specs.Ours.{our_figure, part, whole}
use Rattle.logarithm.proofs.Figure.{equal_near}
use Rattle.logarithm.proofs.Parts.{ours_quotient}
use Rattle.logarithm.proofs.Turn.{After, ends, figure_fits, starts, turn}

all_turns : (n a b i m x : ℕ) → n + i ≡ 16 → b < a → After a b i m x → Near a b (our_figure a b) × (our_figure a b < 32 * units)
all_turns zero a b i m x e apart s =
    let near = ends a b i m x s apart (omega arith) in
    (subst (λ (r : ℕ). Near a b r) near.ours near, subst (λ (r : ℕ). r < 32 * units) near.ours (figure_fits a b i m x s))
all_turns (suc n) a b i m x e apart s = all_turns n a b (i + 1) _ _ (omega arith) apart (turn a b i m x s (omega arith))

-- over 0, and for a ratio of at most 1, it is 0
none_over : (a : ℕ) → our_figure a 0 ≡ 0
unfolding our_figure
none_over a = refl

pub none_within : (a b : ℕ) → a ≤ b → our_figure a b ≡ 0
unfolding our_figure
none_within a zero h = refl
none_within a (suc b) h = rw (ne_eqb (suc b) 0 (λ z. omega arith), le-leb a (suc b) h)

pub our_logarithm : (a b : ℕ) → a < 2 ^ 32 → Logarithm a b (our_figure a b)
our_logarithm a b fits = go b (dec_le a b)
  where
    go : (b : ℕ) → Dec (a ≤ b) → Logarithm a b (our_figure a b)
    go zero l =
        record { near = λ h k. absurd (omega arith); no_ratio = λ _. none_over a; below_one = λ _. none_over a; bound = rw (none_over a) (lit< tt) }
    go (suc b) (yes l) =
        let e = none_within a (suc b) l in
        record {
          near = λ h k. rw e (equal_near a (suc b) h (omega arith));
          no_ratio = λ z. absurd (omega arith);
          below_one = λ _. e;
          bound = rw e (lit< tt);
        }
    go (suc b) (no l) =
        let h = lt_of_not-le l in
        let (near, bound) =
        all_turns 16 a (suc b) 0 (whole a (suc b)) (part a (suc b)) refl h
        (starts a (suc b) (whole a (suc b)) (part a (suc b)) (omega arith) h fits (ours_quotient a (suc b) (omega arith) (le_of_lt h) fits))
        in
        record { near = λ _ _. near; no_ratio = λ z. absurd (omega arith); below_one = λ k. absurd (omega arith); bound = bound }

-- whatever the values are, the answer is our figure
pub is_ours : (a b r : ℕ) → Logarithm a b r → r ≡ our_figure a b
is_ours a b r x = go b x (dec_le b a)
  where
    go : (b : ℕ) → Logarithm a b r → Dec (b ≤ a) → r ≡ our_figure a b
    go zero x l = rw (none_over a) (x.no_ratio refl)
    go (suc b) x (yes l) = (x.near (omega arith) l).ours
    go (suc b) x (no l) = let h = lt_of_not-le l in rw (none_within a (suc b) (le_of_lt h)) (x.below_one h)
