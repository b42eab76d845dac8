-- `comma_read::form_of` meets its contract: the minus says where the degrees start, and their second byte whether it is
-- a point. Assumes nothing.
use Rattle.std.proofs.Common.{◌≡◌, ℕ, ◌+◌, ◌-◌, ◌*◌, ◌/◌, ◌%◌, List, get_or, drop, sym, refl, ap, ◌∙◌, arith}
use Rattle.degrees.specs.Degrees.{minus, point, sign_length}
use Rattle.comma_word.specs.Plain.{byte_at}
use Rattle.comma_read.specs.Roll.{PlainRoll, AnyRoll}
use Rattle.comma_read.proofs.Rolls.{unsigned_roll, signed_roll, short_roll, long_roll}
use Rattle.comma_read.proofs.form_of.Goals as goal

module _ (s : List ℕ) (c : ℕ) (any : AnyRoll s c) where
  abbrev Roll : ℕ
  Roll = any.roll

  -- the number by its sign and the bytes of its degrees
  number : (k m w : ℕ) → sign_length (drop (c + 1) s) ≡ m → Roll / 2 - 2 - Roll % 2 ≡ w → k ≡ 2 * (2 + m + w) + m → PlainRoll s c k
  number k m w sign width e =
      let same : Roll ≡ k = omega (arith, any.found.ends, any.found.sign) in
      rw same at any.found

  -- the second byte of the degrees
  second : (m : ℕ) → sign_length (drop (c + 1) s) ≡ m → byte_at s (c + 1 + Roll % 2) 1 ≡ get_or s (c + 1 + m + 1) 0
  second m sign = ap (λ (n : ℕ). get_or s (c + 1 + n + 1) 0) (sym any.found.sign ∙ sign)

  after_minus : get_or s (c + 1) 0 ≡ minus → byte_at s (c + 1 + Roll % 2) 1 ≡ get_or s (c + 3) 0
  after_minus h = second 1 (signed_roll s c h) ∙ ap (λ (i : ℕ). get_or s i 0) (omega arith)

  after_none : ¬ (get_or s (c + 1) 0 ≡ minus) → byte_at s (c + 1 + Roll % 2) 1 ≡ get_or s (c + 2) 0
  after_none h = second 0 (unsigned_roll s c h) ∙ ap (λ (i : ℕ). get_or s i 0) (omega arith)

  minus_short_lem : get_or s (c + 1) 0 ≡ minus → get_or s (c + 3) 0 ≡ point → PlainRoll s c 17
  minus_short_lem h e = number 17 1 5 (signed_roll s c h) (short_roll s c any.found (after_minus h ∙ e)) refl

  minus_long_lem : get_or s (c + 1) 0 ≡ minus → ¬ (get_or s (c + 3) 0 ≡ point) → PlainRoll s c 19
  minus_long_lem h e = number 19 1 6 (signed_roll s c h) (long_roll s c any.found (λ q. e (sym (after_minus h) ∙ q))) refl

  plus_short_lem : ¬ (get_or s (c + 1) 0 ≡ minus) → get_or s (c + 2) 0 ≡ point → PlainRoll s c 14
  plus_short_lem h e = number 14 0 5 (unsigned_roll s c h) (short_roll s c any.found (after_none h ∙ e)) refl

  plus_long_lem : ¬ (get_or s (c + 1) 0 ≡ minus) → ¬ (get_or s (c + 2) 0 ≡ point) → PlainRoll s c 16
  plus_long_lem h e = number 16 0 6 (unsigned_roll s c h) (long_roll s c any.found (λ q. e (sym (after_none h) ∙ q))) refl

pub returns-then-s-c-eq-POINT : goal.returns-then-s-c-eq-POINT
returns-then-s-c-eq-POINT c =
    minus_short_lem c.args.s.now c.args.c c.requires c.if-s-c-eq-MINUS.true c.if-s-c-eq-POINT.true

pub returns-then-s-c-eq-MINUS : goal.returns-then-s-c-eq-MINUS
returns-then-s-c-eq-MINUS c =
    minus_long_lem c.args.s.now c.args.c c.requires c.if-s-c-eq-MINUS.true c.if-s-c-eq-POINT.false

pub returns-then-s-c-eq-POINT-2 : goal.returns-then-s-c-eq-POINT-2
returns-then-s-c-eq-POINT-2 c =
    plus_short_lem c.args.s.now c.args.c c.requires c.if-s-c-eq-MINUS.false c.if-s-c-eq-POINT-2.true

pub returns : goal.returns
returns c =
    plus_long_lem c.args.s.now c.args.c c.requires c.if-s-c-eq-MINUS.false c.if-s-c-eq-POINT-2.false
