-- `comma_read::plain_roll` meets its contract: eight bytes that are held by a form are of its kinds. Assumes nothing.
use Rattle.std.proofs.Common.{◌≡◌, ℕ, ◌+◌, ◌%◌, ◌^◌, ◌≤◌, true, List, length, sym, refl, ap, ◌∙◌, arith, ltb-true, eqb-true}
use lib.Bits.{bit_and, bit_xor}
use Rattle.truth.proofs.Laws.{and-true}
use Rattle.comma_word.specs.Word.{word}
use Rattle.comma_word.specs.Form.{Kind, mask_of, bits_of, more_of, mask, bits, more}
use Rattle.comma_word.proofs.Row.{row, row_is}
use Rattle.comma_word.proofs.Form.{Are, own, against}
use Rattle.comma_read.specs.Forms.{plus_long, plus_short, minus_long, minus_short}
use Rattle.comma_read.proofs.Rolls.{plus_long_lem, plus_short_lem, minus_long_lem, minus_short_lem}
use Rattle.comma_read.proofs.plain_roll.Goals as goal
use Rattle.comma_read.proofs.plain_roll.Goals.{After-eight-v}

-- the eight bytes at the comma
module _ (e : After-eight-v) where
  abbrev S : List ℕ
  S = e.args.s.now

  abbrev C : ℕ
  C = e.args.c

  room : C + 9 ≤ length S
  room = e.requires

  pub same : e.eight-v.result ≡ word (row S C 0 8)
  same = e.eight-v.ensures.0 ∙ ap word (row_is S C 8 (omega (arith, room)))

  are : (form : List Kind) → own form ≡ true → length form ≡ 8
      → (bit_and (bit_xor e.eight-v.result (bits form)) (mask form) ≡ 0) × (bit_and ((bit_xor e.eight-v.result (bits form) + more form) % 2 ^ 64) (mask form) ≡ 0) → Are form (row S C 0 8)
  are form o long h = against S C form o long (omega (arith, room)) e.eight-v.ensures.1 e.eight-v.result e.eight-v.ensures.0 h.0 h.1

  -- 0 says nothing
  nothing : {P : Type 0} → 1 ≤ 0 → P
  nothing h = absurd (omega arith)

pub returns-then-held : goal.returns-then-held
unfolding word mask_of bits_of more_of own
returns-then-held c =
    let e = (goal.at.returns-then-held c).After-eight-v in λ h. plus_long_lem (S e) (C e) (room e) c.eight-v.result (same e)
    (are e plus_long refl refl (c.held.ensures c.if-held.true)) c.if-v-gt3184107807242270986.true

pub returns-then-plus_short : goal.returns-then-plus_short
unfolding word mask_of bits_of more_of own
returns-then-plus_short c = let e = (goal.at.returns-then-plus_short c).After-eight-v in λ h. plus_short_lem (S e) (C e) (room e)
    c.eight-v.result (same e) (are e plus_short refl refl (c.plus_short.ensures c.if-plus_short.true))

pub returns-then-both : goal.returns-then-both
unfolding word mask_of bits_of more_of own
returns-then-both c =
    let e = (goal.at.returns-then-both c).After-eight-v in
    let (ten, feed) = and-true _ _ (sym c.both.ensures ∙ c.if-both.true) in
    λ h. minus_long_lem (S e) (C e) (room e) c.eight-v.result (same e) (are e minus_long refl refl (c.held-2.ensures c.if-held-2.true)) (ltb-true _ _ ten) (eqb-true _ _ feed)

pub returns-then-held-3 : goal.returns-then-held-3
unfolding word mask_of bits_of more_of own
returns-then-held-3 c = let e = (goal.at.returns-then-held-3 c).After-eight-v in λ h. minus_short_lem (S e) (C e) (room e)
    c.eight-v.result (same e) (are e minus_short refl refl (c.held-3.ensures c.if-held-3.true))

pub returns-then-plus_short-2 : goal.returns-then-plus_short-2
unfolding word mask_of bits_of more_of own
returns-then-plus_short-2 c = let e = (goal.at.returns-then-plus_short-2 c).After-eight-v in λ h. plus_short_lem (S e) (C e)
    (room e) c.eight-v.result (same e) (are e plus_short refl refl (c.plus_short-2.ensures c.if-plus_short-2.true))
