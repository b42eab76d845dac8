-- The lines of a sheet as they are written: each is the first line of the text that starts with it (`entry_lines`,
-- `head_lines`), and a record's line says that record (`entry_says`). The lines of a text joined are the text. Assumes
-- nothing.
use mathlib.Core.Path.{◌≡◌, refl, ap, sym, ◌∙◌}
use mathlib.Core.List.{List, [], ◌∷◌, ◌++◌, append_assoc}
use Prim.Native.Nat.{ℕ}
use lib.Dec.{eqb}
use lib.ListN.{drop}
use lib.Seq.{drop-append_seam}
use Rattle.truth.proofs.Cases.{by_test}
use Rattle.decimal.specs.Decimal.{digits_of}
use Rattle.decimal.specs.Field.{field_text, line_feed, tab}
use Rattle.decimal.specs.Leading.{leading}
use Rattle.decimal.specs.Lines.{lines_of, start_line}
use Rattle.decimal.proofs.Leading.{leading_is}
use Rattle.decimal.proofs.Lines.{NoFeed, digits_none, lines_front, none_joined}
use Rattle.decimal.proofs.Text.{all_digits_lem, value_digits}
use Rattle.sheet_line.specs.Form.{standard_start}
use Rattle.text.specs.Pieces.{joined}
use Rattle.degrees.specs.Degrees.{signed}
use Rattle.sheet_line.specs.Texts.{entry_text, head_text}
use Rattle.sheet_records.specs.Records.{after_field, record_in}

-- ---- the lines of a text, joined
start_joined : (b : ℕ) (lines : List (List ℕ)) → joined (start_line b lines) ≡ b ∷ joined lines
unfolding joined
start_joined b [] = refl
start_joined b (line ∷ lines) = refl

pub lines_joined : (text : List ℕ) → joined (lines_of text) ≡ text
unfolding joined lines_of
lines_joined [] = refl
lines_joined (b ∷ text) =
    by_test (eqb b line_feed)
    (λ e. rw e (ap (λ x. b ∷ x) (lines_joined text)))
    (λ e. rw e (start_joined b (lines_of text) ∙ ap (λ x. b ∷ x) (lines_joined text)))

-- ---- a record's line
module _ (number flag exposure : ℕ) where
  -- its bytes before the LF
  abbrev front : List ℕ
  front = digits_of number ++ (tab ∷ (digits_of flag ++ (tab ∷ digits_of exposure)))

  front_none : NoFeed front
  unfolding NoFeed
  front_none =
      none_joined (digits_of number) _ (digits_none _ (all_digits_lem number))
      (refl, none_joined (digits_of flag) _ (digits_none _ (all_digits_lem flag)) (refl, digits_none _ (all_digits_lem exposure)))

  entry_front : (rest : List ℕ) → entry_text number flag exposure ++ rest ≡ front ++ (line_feed ∷ rest)
  unfolding field_text
  entry_front rest = simp append_assoc

  entry-is : entry_text number flag exposure ≡ front ++ (line_feed ∷ [])
  unfolding field_text
  entry-is = simp append_assoc

  pub entry_lines : (rest : List ℕ) → lines_of (entry_text number flag exposure ++ rest) ≡ entry_text number flag exposure ∷ lines_of rest
  entry_lines rest = ap lines_of (entry_front rest) ∙ lines_front front rest front_none ∙ ap (λ x. x ∷ lines_of rest) (sym entry-is)

-- a field in front, ended by a byte that is no digit
field_leads : (v : ℕ) (rest : List ℕ) → (leading (field_text v tab ++ rest) ≡ digits_of v) × (after_field (field_text v tab ++ rest) ≡ rest)
unfolding field_text
field_leads v rest =
    let is : leading (digits_of v ++ (tab ∷ rest)) ≡ digits_of v = leading_is (digits_of v) (tab ∷ rest) (all_digits_lem v) refl in
    rw (append_assoc (digits_of v) (tab ∷ []) rest) (is, rw is (ap (drop 1) (drop-append_seam (digits_of v) (tab ∷ rest))))

last_leads : (v : ℕ) → leading (field_text v line_feed) ≡ digits_of v
unfolding field_text
last_leads v = leading_is (digits_of v) (line_feed ∷ []) (all_digits_lem v) refl

pub entry_says : (number flag exposure : ℕ) → record_in (entry_text number flag exposure) ≡ signed (eqb flag 1) exposure
unfolding record_in
entry_says number flag exposure =
    let first = (field_leads number (field_text flag tab ++ field_text exposure line_feed)).1 in
    let (second, third) = field_leads flag (field_text exposure line_feed) in
    rw (first, third, second, last_leads exposure, value_digits flag, value_digits exposure)

-- ---- line 1
module _ (q : ℕ) where
  word_none : NoFeed standard_start
  unfolding NoFeed
  word_none = (refl, (refl, (refl, (refl, (refl, (refl, (refl, (refl, (refl, tt)))))))))

  pub head_lines : (rest : List ℕ) → lines_of (head_text q ++ rest) ≡ head_text q ∷ lines_of rest
  unfolding field_text
  head_lines rest =
      let whole : head_text q ++ rest ≡ (standard_start ++ digits_of q) ++ (line_feed ∷ rest) = simp append_assoc in
      let is : head_text q ≡ (standard_start ++ digits_of q) ++ (line_feed ∷ []) = simp append_assoc in
      ap lines_of whole ∙ lines_front (standard_start ++ digits_of q) rest (none_joined standard_start (digits_of q) word_none (digits_none _ (all_digits_lem q))) ∙ ap (λ x. x ∷ lines_of rest) (sym is)
