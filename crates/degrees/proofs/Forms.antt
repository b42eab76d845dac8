-- Degrees by their parts: whole degrees, a point or none, digits after it, and what follows. Assumes nothing.
use mathlib.Core.Path.{◌≡◌, refl}
use mathlib.Core.Bool.{Bool, true, false}
use mathlib.Core.List.{List, ◌∷◌, ◌++◌}
use Prim.Native.Nat.{ℕ, ◌+◌, ◌*◌, ◌≤◌}
use native.Mathlib.Nat.{add-zero}
use lib.Dec.{eqb}
use lib.ListN.{length, drop}
use lib.Seq.{drop-append_seam}
use borrow.Author.Tests.{le-leb}
use Rattle.decimal.specs.Decimal.{is_digit, all_digits, is_number, value_of}
use Rattle.decimal.specs.Leading.{leading}
use Rattle.decimal.proofs.Text.{sound}
use Rattle.decimal.proofs.Leading.{leading_is}
use Rattle.degrees.specs.Degrees.{point, first, is_size, size_length, filled, size, size_at}
use Rattle.std.specs.Prelude.{Some}

-- a text starts with degrees of so many thousandths and so many bytes
pub record Sized (text : List ℕ) (n bytes : ℕ) : Type 0 where
  pub right : is_size text ≡ true
  pub value : size text ≡ n
  pub count : size_length text ≡ bytes

module _ (w : List ℕ) (n : is_number w ≡ true) where
  pub with_point : (ds rest : List ℕ) → all_digits ds ≡ true → 1 ≤ length ds → length ds ≤ 3 → is_digit (first rest) ≡ false
      → Sized (w ++ (point ∷ (ds ++ rest))) (value_of w * 1000 + value_of (filled ds)) (length w + (1 + length ds))
  unfolding is_size size size_length
  with_point ds rest all some few ends =
      let whole : leading (w ++ (point ∷ (ds ++ rest))) ≡ w = leading_is w (point ∷ (ds ++ rest)) (sound w n).all refl in
      let tail : drop (length w) (w ++ (point ∷ (ds ++ rest))) ≡ point ∷ (ds ++ rest) = drop-append_seam w (point ∷ (ds ++ rest)) in
      let digits : leading (ds ++ rest) ≡ ds = leading_is ds rest all ends in
      record {
        right = rw (whole, tail, digits, n, le-leb 1 (length ds) some, le-leb (length ds) 3 few);
        value = rw (whole, tail, digits);
        count = rw (whole, tail, digits);
      }

  pub without_point : (rest : List ℕ) → is_digit (first rest) ≡ false → eqb (first rest) point ≡ false → Sized (w ++ rest) (value_of w * 1000) (length w)
  unfolding is_size size size_length filled value_of
  without_point rest ends none =
      let whole : leading (w ++ rest) ≡ w = leading_is w rest (sound w n).all ends in
      let tail : drop (length w) (w ++ rest) ≡ rest = drop-append_seam w rest in
      record {
        right = rw (whole, tail, none, n);
        value = rw (whole, tail, none, add-zero);
        count = rw (whole, tail, none, add-zero);
      }

-- a text at a place of another
pub sized_at : (s : List ℕ) (at : ℕ) (minus : Bool) {text : List ℕ} {n bytes : ℕ} → drop at s ≡ text → Sized text n bytes → Some (minus, n, at + bytes) ≡ size_at s at minus
unfolding size_at
sized_at s at minus e z = rw (e, z.right, z.value, z.count)
