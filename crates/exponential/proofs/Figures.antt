-- Our figures of e ^ x, as the definitions have them: a turn of the loop is a row of the definition, so the figure of
-- all 26 rows is what `down` and `up` answer; and it is what `Down` and `Up` say, whatever X is. Assumes nothing.
use mathlib.Core.Path.{◌≡◌, refl}
use Prim.Native.Nat.{ℕ, zero, suc, ◌+◌, ◌-◌, ◌*◌, ◌/◌, ◌%◌, ◌≤◌, ◌<◌}
use native.Mathlib.Numerals.{add-one}
use native.Mathlib.Omega.{arith}
use borrow.Author.Tests.{eqb-false, eqb-true, le-leb, leb-false, leb-true, lt-leb}
use lib.Dec.{eqb, leb, lit≤}
use Rattle.truth.proofs.Cases.{by_test}
use Rattle.exponential.specs.declared.Power.{Power}
use Rattle.exponential.specs.Exponential.{Down, Up, one, past}
use Rattle.exponential.specs.Ours.{nothing, our_down, our_up, row_down, row_of, row_up, rows_down, rows_up, times_down}
use Rattle.exponential.specs.Ours.{times_up, unit}
use Rattle.exponential.proofs.Cuts.{cut_down, cut_up, product_fits, product_least}
use Rattle.exponential.proofs.Ends.{ends_down, ends_up, none_down, none_up}
use Rattle.exponential.proofs.Rows.{rows}
use Rattle.exponential.proofs.Turn.{AfterDown, AfterUp, factors_down, factors_up, skipped, starts, taken_down}
use Rattle.exponential.proofs.Turn.{taken_up}

-- ---- from below
-- a bit that is set, and one that is not
turn_down : (x i rest : ℕ) (p : Power) → AfterDown x i rest p.mantissa p.shift → i < 26 → rest % 2 ≡ 1
    → AfterDown x (i + 1) (rest / 2) (times_down p (row_of i).mantissa (row_of i).shift).mantissa (times_down p (row_of i).mantissa (row_of i).shift).shift
turn_down x i rest p a h bit =
    let f = factors_down x i rest p.mantissa p.shift (row_of i).mantissa (row_of i).shift a (rows i h) in
    taken_down x i rest p.mantissa p.shift (row_of i).mantissa (row_of i).shift _ _ a h (omega arith) (rows i h)
    (cut_down (p.mantissa * (row_of i).mantissa) (p.shift + (row_of i).shift)
    (product_least _ _ _ _ f)
    (omega (arith, product_fits _ _ _ _ f)))

pass_down : (x i rest : ℕ) (p : Power) → AfterDown x i rest p.mantissa p.shift → i < 26 → (rest % 2 ≡ 1 → ⊥)
    → AfterDown x (i + 1) (rest / 2) p.mantissa p.shift
pass_down x i rest p a h bit = skipped 1 1 (suc one) one 4294967295 x i rest p.mantissa p.shift a h (omega arith)

-- the rows from i on are row i, or none, and those after it
pub rows_down_lem : (i rest : ℕ) (p : Power) → i < 26
    → rows_down (26 - i) i rest p ≡ rows_down (26 - (i + 1)) (i + 1) (rest / 2) (row_down p i (rest % 2))
unfolding rows_down
rows_down_lem i rest p h =
    let e : 26 - i ≡ suc (26 - (i + 1)) = omega arith in
    rw (e, add-one i)

none_left_down : (i rest : ℕ) (p : Power) → 26 ≤ i → rows_down (26 - i) i rest p ≡ p
unfolding rows_down
none_left_down i rest p h = let e : 26 - i ≡ 0 = omega arith in rw e

-- all 26 rows are our figure
pub whole_down : (x i rest : ℕ) (p : Power) → x < past → 26 ≤ i → rows_down (26 - i) i rest p ≡ rows_down 26 0 x unit → p ≡ our_down x
unfolding our_down
whole_down x i rest p l h e = rw (lt-leb past x l, ← e, none_left_down i rest p h)

pub none_our_down : (x : ℕ) → past ≤ x → nothing ≡ our_down x
unfolding our_down
none_our_down x h = rw (le-leb past x h)

-- one turn, whatever the bit is
pub turned_down : (x i rest : ℕ) (p : Power) → AfterDown x i rest p.mantissa p.shift → i < 26
    → AfterDown x (i + 1) (rest / 2) (row_down p i (rest % 2)).mantissa (row_down p i (rest % 2)).shift
turned_down x i rest p a h =
    by_test (eqb (rest % 2) 1)
    (λ b. rw b (turn_down x i rest p a h (eqb-true _ _ b)))
    (λ b. rw b (pass_down x i rest p a h (eqb-false _ _ b)))

-- and the figure is near e ^ x
down_from : (n x i rest : ℕ) (p : Power) → n + i ≡ 26 → x < past → AfterDown x i rest p.mantissa p.shift
    → Down x (rows_down n i rest p).mantissa (rows_down n i rest p).shift
unfolding rows_down
down_from zero x i rest p e l a = ends_down x i rest p.mantissa p.shift (omega arith) l a
down_from (suc n) x i rest p e l a =
    down_from n x (suc i) (rest / 2) (row_down p i (rest % 2)) (omega arith) l (rw add-one at (turned_down x i rest p a (omega arith)))

pub down_is : (x : ℕ) → Down x (our_down x).mantissa (our_down x).shift
unfolding our_down
down_is x =
    by_test (leb past x)
    (λ b. rw b (none_down x (leb-true _ _ b)))
    (λ b. rw b (down_from 26 x 0 x unit refl (leb-false _ _ b) (starts 1 1 (suc one) one 4294967295 (lit≤ tt) x)))

-- ---- from above
-- a bit that is set, and one that is not
turn_up : (x i rest : ℕ) (p : Power) → AfterUp x i rest p.mantissa p.shift → i < 26 → rest % 2 ≡ 1
    → AfterUp x (i + 1) (rest / 2) (times_up p (suc (row_of i).mantissa) (row_of i).shift).mantissa (times_up p (suc (row_of i).mantissa) (row_of i).shift).shift
turn_up x i rest p a h bit =
    let f = factors_up x i rest p.mantissa p.shift (row_of i).mantissa (row_of i).shift a (rows i h) in
    taken_up x i rest p.mantissa p.shift (row_of i).mantissa (row_of i).shift _ _ a h (omega arith) (rows i h)
    (cut_up (p.mantissa * (suc (row_of i).mantissa)) (p.shift + (row_of i).shift)
    (product_least _ _ _ _ f)
    (omega (arith, product_fits _ _ _ _ f)))

pass_up : (x i rest : ℕ) (p : Power) → AfterUp x i rest p.mantissa p.shift → i < 26 → (rest % 2 ≡ 1 → ⊥)
    → AfterUp x (i + 1) (rest / 2) p.mantissa p.shift
pass_up x i rest p a h bit = skipped one (suc one) 1 1 4294967296 x i rest p.mantissa p.shift a h (omega arith)

-- the rows from i on are row i, or none, and those after it
pub rows_up_lem : (i rest : ℕ) (p : Power) → i < 26
    → rows_up (26 - i) i rest p ≡ rows_up (26 - (i + 1)) (i + 1) (rest / 2) (row_up p i (rest % 2))
unfolding rows_up
rows_up_lem i rest p h =
    let e : 26 - i ≡ suc (26 - (i + 1)) = omega arith in
    rw (e, add-one i)

none_left_up : (i rest : ℕ) (p : Power) → 26 ≤ i → rows_up (26 - i) i rest p ≡ p
unfolding rows_up
none_left_up i rest p h = let e : 26 - i ≡ 0 = omega arith in rw e

-- all 26 rows are our figure
pub whole_up : (x i rest : ℕ) (p : Power) → x < past → 26 ≤ i → rows_up (26 - i) i rest p ≡ rows_up 26 0 x unit → p ≡ our_up x
unfolding our_up
whole_up x i rest p l h e = rw (lt-leb past x l, ← e, none_left_up i rest p h)

pub none_our_up : (x : ℕ) → past ≤ x → nothing ≡ our_up x
unfolding our_up
none_our_up x h = rw (le-leb past x h)

-- one turn, whatever the bit is
pub turned_up : (x i rest : ℕ) (p : Power) → AfterUp x i rest p.mantissa p.shift → i < 26
    → AfterUp x (i + 1) (rest / 2) (row_up p i (rest % 2)).mantissa (row_up p i (rest % 2)).shift
turned_up x i rest p a h =
    by_test (eqb (rest % 2) 1)
    (λ b. rw b (turn_up x i rest p a h (eqb-true _ _ b)))
    (λ b. rw b (pass_up x i rest p a h (eqb-false _ _ b)))

-- and the figure is near e ^ x
up_from : (n x i rest : ℕ) (p : Power) → n + i ≡ 26 → x < past → AfterUp x i rest p.mantissa p.shift
    → Up x (rows_up n i rest p).mantissa (rows_up n i rest p).shift
unfolding rows_up
up_from zero x i rest p e l a = ends_up x i rest p.mantissa p.shift (omega arith) l a
up_from (suc n) x i rest p e l a =
    up_from n x (suc i) (rest / 2) (row_up p i (rest % 2)) (omega arith) l (rw add-one at (turned_up x i rest p a (omega arith)))

pub up_is : (x : ℕ) → Up x (our_up x).mantissa (our_up x).shift
unfolding our_up
up_is x =
    by_test (leb past x)
    (λ b. rw b (none_up x (leb-true _ _ b)))
    (λ b. rw b (up_from 26 x 0 x unit refl (leb-false _ _ b) (starts one (suc one) 1 1 4294967296 (lit≤ tt) x)))
