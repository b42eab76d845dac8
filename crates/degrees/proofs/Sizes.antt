-- Laws of degrees without a sign at a place of a text, by the number that stands there, the byte after it and the
-- digits after a point. Assumes nothing.
use mathlib.Core.Path.{◌≡◌, refl, sym}
use mathlib.Core.Bool.{Bool, true, false, cond, ◌&&◌, and-false}
use mathlib.Core.List.{List, [], ◌∷◌}
use Prim.Native.Nat.{ℕ, ◌+◌, ◌*◌, ◌≤◌, ◌<◌, min}
use native.Mathlib.Nat.{add-zero, add_assoc}
use native.Mathlib.Omega.{arith}
use lib.Dec.{leb, eqb}
use lib.ListN.{length, get_or, drop, length-take}
use lib.Seq.{drop-drop, get_or-drop, take_all}
use borrow.Author.Tests.{le-leb, lt-leb}
use Rattle.decimal.specs.Decimal.{longest, leading_digits, is_number, value_of}
use Rattle.decimal.specs.Leading.{leading, after_leading}
use Rattle.decimal.proofs.Leading.{LeadsTo, leading_front}
use Rattle.degrees.specs.Degrees.{point, pointed, is_size, size_length, filled, size, size_at}
use Rattle.std.specs.Prelude.{Some, None}

-- one to three digits, filled up with zeros, are worth so many thousandths
pub filled_value : (ds : List ℕ) → 1 ≤ length ds → length ds ≤ 3
    → value_of (filled ds) ≡ cond (eqb (length ds) 1) (value_of ds * 100) (cond (eqb (length ds) 2) (value_of ds * 10) (value_of ds))
unfolding filled value_of
filled_value [] some few = absurd (omega arith)
filled_value (a ∷ []) some few = omega arith
filled_value (a ∷ b ∷ []) some few = omega arith
filled_value (a ∷ b ∷ c ∷ []) some few = refl
filled_value (a ∷ b ∷ c ∷ d ∷ ds) some few = absurd (omega arith)

module _ (s : List ℕ) (at : ℕ) (minus : Bool) where
  pub size_bad : is_number (leading (drop at s)) ≡ false → size_at s at minus ≡ None
  unfolding size_at is_size
  size_bad n = rw n

  module _ (v end : ℕ) (l : LeadsTo s at v end) where
    after_is : after_leading (drop at s) ≡ drop end s
    after_is = rw (drop-drop, l.place)

    pointed_is : pointed (drop at s) ≡ eqb (get_or s end 0) point
    pointed_is = rw (after_is, get_or-drop, add-zero)

    -- the digits after the point
    abbrev pub After : List ℕ
    After = leading (drop (end + 1) s)

    pub size_plain : eqb (get_or s end 0) point ≡ false → size_at s at minus ≡ Some (minus, v * 1000, end)
    unfolding size_at is_size size size_length filled value_of
    size_plain p = rw (pointed_is, p, l.number) (rw (l.value, l.place, add-zero, add-zero))

    pub size_pointed : eqb (get_or s end 0) point ≡ true
        → size_at s at minus ≡ cond (leb 1 (length After) && leb (length After) 3) (Some (minus, v * 1000 + value_of (filled After), end + 1 + length After)) None
    unfolding size_at is_size size size_length
    size_pointed p = rw (l.number, pointed_is, p, after_is, drop-drop) (rw (l.value, l.place) (simp add_assoc))

    -- the reader takes at most 12 of the digits
    abbrev Run : List ℕ
    Run = leading_digits longest (drop (end + 1) s)

    run_length : length Run ≡ min longest (length After)
    run_length = rw (leading_front longest (drop (end + 1) s), length-take)

    pub run_short : length Run ≤ 3 → After ≡ Run
    run_short h = rw (leading_front longest (drop (end + 1) s)) (sym (take_all longest After (omega (arith, run_length))))

    pub size_none : eqb (get_or s end 0) point ≡ true → length Run ≡ 0 → size_at s at minus ≡ None
    size_none p h = rw (size_pointed p, lt-leb 1 (length After) (omega (arith, run_length)))

    pub size_many : eqb (get_or s end 0) point ≡ true → 3 < length Run → size_at s at minus ≡ None
    size_many p h = rw (size_pointed p, lt-leb (length After) 3 (omega (arith, run_length)), and-false)

    pub size-some : eqb (get_or s end 0) point ≡ true → 1 ≤ length Run → length Run ≤ 3
        → size_at s at minus ≡ Some (minus, v * 1000 + cond (eqb (length Run) 1) (value_of Run * 100) (cond (eqb (length Run) 2) (value_of Run * 10) (value_of Run)), end + 1 + length Run)
    size-some p some few =
        rw (size_pointed p, run_short few, le-leb 1 (length Run) some, le-leb (length Run) 3 few, filled_value Run some few)
