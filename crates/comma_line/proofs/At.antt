-- What a line at a place of a text is, test by test: the number there, the comma after it, the degrees, the LF.
-- Assumes nothing.
use mathlib.Core.Path.{◌≡◌, sym, ap}
use mathlib.Core.Bool.{Bool, true, false, and-false}
use mathlib.Core.List.{List}
use Prim.Native.Nat.{ℕ, ◌+◌}
use native.Mathlib.Nat.{add-zero}
use native.Mathlib.Omega.{arith}
use lib.Dec.{eqb}
use lib.ListN.{length, get_or, drop}
use lib.Seq.{drop-drop, get_or-drop}
use borrow.Author.Tests.{eq-eqb, ne_eqb}
use Rattle.truth.proofs.Laws.{impossible}
use Rattle.truth.proofs.Cases.{by_test}
use Rattle.decimal.specs.Decimal.{is_number}
use Rattle.decimal.specs.Field.{line_feed}
use Rattle.decimal.specs.Leading.{leading, after_leading}
use Rattle.decimal.proofs.Leading.{LeadsTo}
use Rattle.degrees.specs.Degrees.{first, below, unsigned, size, is_degrees, degrees_length}
use Rattle.degrees.proofs.Signs.{ReadsAs}
use Rattle.comma_line.specs.Line.{comma, roll, is_comma_line, right, line_length, line_at}
use Rattle.std.specs.Prelude.{Some, None}
use Rattle.truth.proofs.Answers.{none_not_some, same_some, some_not_none}

module _ (s : List ℕ) (at time : ℕ) where
  pub no_number : is_number (leading (drop at s)) ≡ false → line_at s at time ≡ None
  unfolding line_at right is_comma_line
  no_number n = rw n

  module _ (v end : ℕ) (l : LeadsTo s at v end) where
    pub other_time : ¬ (v ≡ time) → line_at s at time ≡ None
    unfolding line_at right
    other_time e = rw (← l.value, ne_eqb v time e, and-false)

    after_is : after_leading (drop at s) ≡ drop end s
    after_is = rw (drop-drop, ← l.place)

    mark : first (after_leading (drop at s)) ≡ get_or s end 0
    mark = rw (after_is, get_or-drop, add-zero)

    roll_is : roll (drop at s) ≡ drop (end + 1) s
    roll_is = rw (after_is, drop-drop)

    pub no_comma : eqb (get_or s end 0) comma ≡ false → line_at s at time ≡ None
    unfolding line_at right is_comma_line
    no_comma e = rw (mark, e, l.number)

    pub no_degrees : is_degrees (drop (end + 1) s) ≡ false → line_at s at time ≡ None
    unfolding line_at right is_comma_line
    no_degrees e = rw (roll_is, e, and-false, and-false)

    module _ (b : Bool) (n next : ℕ) (d : ReadsAs s (end + 1) b n next) where
      last_byte : first (drop (degrees_length (roll (drop at s))) (roll (drop at s))) ≡ get_or s next 0
      last_byte = rw (roll_is, drop-drop, ← d.place, get_or-drop, add-zero)

      pub no_feed : eqb (get_or s next 0) line_feed ≡ false → line_at s at time ≡ None
      unfolding line_at right is_comma_line
      no_feed e = rw (last_byte, e, and-false, and-false, and-false)

      pub whole_line : v ≡ time → eqb (get_or s end 0) comma ≡ true → eqb (get_or s next 0) line_feed ≡ true → Some (b, n, next + 1) ≡ line_at s at time
      unfolding line_at right is_comma_line line_length
      whole_line t c f =
          let place : next + 1 ≡ at + (length (leading (drop at s)) + (1 + (degrees_length (drop (end + 1) s) + 1))) = omega (arith, d.place, l.place) in
          rw (last_byte, f, mark, c, l.number, roll_is, d.right, ← l.value, eq-eqb v time t, d.value, ← place) (ap (λ x. Some (x, n, next + 1)) (sym d.sign))

-- what an answer of the reader says
pub record LineRead (s : List ℕ) (at time : ℕ) (b : Bool) (n next : ℕ) : Type 0 where
  pub is : right time (drop at s) ≡ true
  pub sign : below (roll (drop at s)) ≡ b
  pub value : size (unsigned (roll (drop at s))) ≡ n
  pub place : next ≡ at + line_length (drop at s)

module _ (s : List ℕ) (at time : ℕ) where
  pub line_read : (b : Bool) (n next : ℕ) → line_at s at time ≡ Some (b, n, next) → LineRead s at time b n next
  unfolding line_at
  line_read b n next r =
      by_test (right time (drop at s))
      (λ h.
      let e : ◌≡◌ {A = Bool × ℕ × ℕ} (below (roll (drop at s)), size (unsigned (roll (drop at s))), at + line_length (drop at s)) (b, n, next) = same_some (rw h at r) in
      record {
        is = h;
        sign = ap (λ (p : Bool × ℕ × ℕ). p.0) e;
        value = ap (λ (p : Bool × ℕ × ℕ). p.1) e;
        place = sym (ap (λ (p : Bool × ℕ × ℕ). p.2) e);
      })
      (λ h. absurd (none_not_some (rw h at r)))

  pub line_wrong : line_at s at time ≡ None → right time (drop at s) ≡ false
  unfolding line_at
  line_wrong r = by_test (right time (drop at s)) (λ h. absurd (some_not_none (rw h at r))) (λ h. h)
