-- `sheet_reply::put_record` meets its contract: the line is written part by part, each taking itself off what is left
-- of it. Assumes nothing.
use Prim.Native.Nat.{ℕ}
use mathlib.Core.Path.{◌≡◌}
use mathlib.Core.List.{List, [], ◌∷◌, ◌++◌}
use native.Mathlib.Omega.{arith}
use borrow.Author.Tests.{eq-eqb, ne_eqb}
use Rattle.campaign_state.specs.declared.Campaign.{Campaign}
use Rattle.decimal.specs.Field.{tab, line_feed, field_text}
use Rattle.text.proofs.Parts.{Left, left_all, left_next, left_last, wrote_none}
use Rattle.sheet_reply.specs.Written.{figures, letter_for, record_text}
use Rattle.campaign_state.specs.State.{censored}
use Rattle.sheet_reply.proofs.put_record.Goals as goal
use Rattle.sheet_reply.proofs.put_record.Goals.{After-write_byte-end}

-- what is left of the line after each part, N* and the letter being those that were answered
module _ (c : Campaign) (n letter : ℕ) where
  abbrev Rest4 : List ℕ
  Rest4 = letter ∷ line_feed ∷ []

  abbrev Rest3 : List ℕ
  Rest3 = field_text c.exposure tab ++ Rest4

  abbrev Rest2 : List ℕ
  Rest2 = field_text n tab ++ Rest3

  abbrev Rest1 : List ℕ
  Rest1 = field_text c.failures tab ++ Rest2

  abbrev Rest0 : List ℕ
  Rest0 = field_text c.records tab ++ Rest1

  figures-whole : ¬ (c.records ≡ 0) → n ≡ censored c → letter ≡ letter_for c → record_text c ≡ Rest0
  unfolding record_text figures
  figures-whole some e f = rw (ne_eqb c.records 0 some, e, f)

empty : (c : Campaign) → c.records ≡ 0 → record_text c ≡ []
unfolding record_text
empty c e = rw (eq-eqb c.records 0 e)

abbrev Of : (Campaign → ℕ → ℕ → List ℕ) → After-write_byte-end → List ℕ
Of rest c = rest c.args.c c.censored-censors.result c.letter-verdict.result

abbrev Stands : After-write_byte-end → List ℕ → List ℕ → ℕ → Type 0
Stands c rest out at = Left c.args.out.now c.args.at (Of Rest0 c) rest out at

whole : (c : After-write_byte-end) → record_text c.args.c ≡ Of Rest0 c
whole c =
    figures-whole c.args.c _ _ c.if-c-eq0.false c.censored-censors.ensures c.letter-verdict.ensures

left0 : (c : After-write_byte-end) → Stands c (Of Rest0 c) c.args.out.now c.args.at
left0 c = left_all _ _ (Of Rest0 c) (rw (← whole c) c.requires.1)

left1 : (c : After-write_byte-end) → Stands c (Of Rest1 c) c.write_field-second.new.out c.write_field-second.result
left1 c =
    left_next (field_text c.args.c.records tab) _ (left0 c) (c.write_field-second.ensures.value, c.write_field-second.ensures.out_after)

left2 : (c : After-write_byte-end) → Stands c (Of Rest2 c) c.write_field-third.new.out c.write_field-third.result
left2 c =
    left_next (field_text c.args.c.failures tab) _ (left1 c) (c.write_field-third.ensures.value, c.write_field-third.ensures.out_after)

left3 : (c : After-write_byte-end) → Stands c (Of Rest3 c) c.write_field-fourth.new.out c.write_field-fourth.result
left3 c =
    left_next (field_text c.censored-censors.result tab) _ (left2 c) (c.write_field-fourth.ensures.value, c.write_field-fourth.ensures.out_after)

left4 : (c : After-write_byte-end) → Stands c (Of Rest4 c) c.write_field-fifth.new.out c.write_field-fifth.result
left4 c =
    left_next (field_text c.args.c.exposure tab) _ (left3 c) (c.write_field-fifth.ensures.value, c.write_field-fifth.ensures.out_after)

left5 : (c : After-write_byte-end) → Stands c (line_feed ∷ []) c.write_byte-end.new.out c.write_byte-end.result
left5 c =
    left_next (c.letter-verdict.result ∷ []) _ (left4 c) (c.write_byte-end.ensures.value, c.write_byte-end.ensures.out_after)

pub returns-then-c-eq0 : goal.returns-then-c-eq0
returns-then-c-eq0 c =
    let a = c.args in
    rw (empty a.c c.if-c-eq0.true) (let whole = wrote_none a.out.now a.at (omega (arith, rw (empty a.c c.if-c-eq0.true) at c.requires.1)) in record { value = whole.0; out_after = whole.1 })

pub returns : goal.returns
returns c =
    let p = (goal.at.returns c).After-write_byte-end in
    rw (whole p) (let whole = left_last (left5 p) (c.write_byte.ensures.value, c.write_byte.ensures.out_after) in record { value = whole.0; out_after = whole.1 })
