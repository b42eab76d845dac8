-- After the last turn: the figure is what `down` and `up` promise, and its shift is at most 92, as e ^ 64 is below 2 ^
-- 93. Assumes nothing.
use mathlib.Core.Path.{refl}
use Prim.Native.Nat.{ℕ, suc, ◌+◌, ◌*◌, ◌^◌, ◌≤◌, ◌<◌}
use native.Mathlib.Nat.{le_trans, mul-le-mul, mul-le-mul_left, mul-le-mul_right, not-le_of_lt, one-le-pow}
use native.Mathlib.Decide.{dec_le}
use native.Mathlib.Omega.{arith}
use lib.Dec.{lit<, lit≤}
use lib.Pow.{pow_mono}
use Rattle.exponential.specs.Exponential.{Down, Up, one, parts, past}
use Rattle.exponential.specs.Tables.{mantissas, shifts}
use Rattle.exponential.proofs.Bounds.{Above, Below, above_more, above_times, below_less, between}
use Rattle.exponential.proofs.Bounds.{from_not_passed, not_passed, reached}
use Rattle.exponential.proofs.Product.{loss, one-pow, one_times_pos}
use Rattle.exponential.proofs.Rows.{rows}
use Rattle.exponential.proofs.Turn.{AfterDown, AfterUp, all_done}

-- row 25, one more, in units of 2 ^ -31: e ^ 32 and so e ^ 64 from above
last : ℕ
last = 2409758307 * 2 ^ 46

above_32 : Above last one (2 ^ 25)
unfolding last mantissas shifts
above_32 = from_not_passed last one (2 ^ 25) (rows 25 (lit< tt)).none_above

above_64 : Above (last * last) (one * one) (2 ^ 25 + 2 ^ 25)
above_64 = above_times above_32 above_32

below_64 : (p r x : ℕ) → x < past → Below p r x → p * (one * one) ≤ last * last * r
below_64 p r x h l = between (omega arith) l above_64

shift_small : (x m s : ℕ) → x < past → one ≤ m → Below (m * 2 ^ s * parts) (one * suc parts) x → s ≤ 92
unfolding last
shift_small x m s h least l = go (dec_le s 92)
  where
    go : Dec (s ≤ 92) → s ≤ 92
    go (yes e) = e
    go (no e) =
        absurd (not-le_of_lt (lit< {m = last * last * (one * suc parts)} {n = one * 2 ^ 93 * parts * (one * one)} tt)
        (le_trans
        (mul-le-mul_right (one * one) (mul-le-mul_right parts (mul-le-mul least (pow_mono {i = 93} {j = s} (omega arith)))))
        (below_64 (m * 2 ^ s * parts) (one * suc parts) x h l)))

module _ (x i rest m s : ℕ) (end : 26 ≤ i) (h : x < past) where
  pub ends_down : AfterDown x i rest m s → Down x m s
  ends_down a =
      let n = a.cuts in
      let e = all_done 1 1 (suc one) one 4294967295 x i rest m s a end h in
      let low : Below (m * 2 ^ s) one x = rw e at (below_less (m * 2 ^ s) one (one_times_pos (one-le-pow n 1 (lit< tt))) (rw one-pow (omega arith)) a.state.below) in
      record {
        never_above = reached low;
        near = λ _.
            not_passed
            (rw e at (above_more (m * 2 ^ s * suc parts) (one * parts) (one_times_pos (one-le-pow n one (lit< tt)))
            (omega (arith, mul-le-mul_left (m * 2 ^ s * one) (loss n (omega (arith, a.few, a.turns)))))
            a.state.above));
        none = λ l. absurd (omega arith);
        full = λ _. a.least;
        bound = (omega (arith, a.most), shift_small x m s h a.least (below_less (m * 2 ^ s * parts) (one * suc parts) (lit< tt) (omega arith) low));
      }

  pub ends_up : AfterUp x i rest m s → Up x m s
  ends_up a =
      let n = a.cuts in
      let e = all_done one (suc one) 1 1 4294967296 x i rest m s a end h in
      let low : Below (m * 2 ^ s * parts) (one * suc parts) x =
      rw e at (below_less (m * 2 ^ s * parts) (one * suc parts) (one_times_pos (one-le-pow n (suc one) (lit< tt)))
      (omega (arith, mul-le-mul_left (m * 2 ^ s * one) (loss n (omega (arith, a.few, a.turns)))))
      a.state.below)
      in
      record {
        never_below = λ _.
            not_passed (rw e at (above_more (m * 2 ^ s) one (one_times_pos (one-le-pow n 1 (lit< tt))) (rw one-pow (omega arith)) a.state.above));
        near = reached low;
        none = λ l. absurd (omega arith);
        full = λ _. a.least;
        bound = (omega (arith, a.most), shift_small x m s h a.least low);
      }

-- past 64 there is no figure
pub none_down : (x : ℕ) → past ≤ x → Down x 0 0
none_down x l =
    record {
      never_above = (0, omega arith);
      near = λ h. absurd (omega arith);
      none = λ _. (refl, refl);
      full = λ h. absurd (omega arith);
      bound = (lit< tt, lit≤ tt);
    }

pub none_up : (x : ℕ) → past ≤ x → Up x 0 0
none_up x l =
    record {
      never_below = λ h. absurd (omega arith);
      near = (0, omega arith);
      none = λ _. (refl, refl);
      full = λ h. absurd (omega arith);
      bound = (lit≤ tt, lit≤ tt);
    }
