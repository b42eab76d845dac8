-- The first bytes of yesterday's sheet decide what taking it up comes to (`front_decides`): lines that are taken have at
-- most 22 and 18 bytes and there are at most 100,001 of them, and a line that is not taken is known by its first 64. So
-- a program has to hold no more of a sheet, however long it is. Assumes nothing.
use Prim.Native.Nat.{ℕ, zero, suc, ◌+◌, ◌*◌, ◌^◌, ◌≤◌, ◌<◌}
use mathlib.Core.Path.{◌≡◌, refl, sym, ap, ◌∙◌}
use mathlib.Core.Bool.{Bool, true, false, cond, not}
use mathlib.Core.List.{List, [], ◌∷◌, ◌++◌, append-nil}
use native.Mathlib.Omega.{arith}
use lib.Dec.{eqb}
use lib.ListN.{length, take, drop, length-append, length-drop, take-append-drop}
use borrow.Author.Tests.{ltb-true, not-true}
use Rattle.truth.proofs.Cases.{by_test}
use Rattle.truth.proofs.Laws.{and-true, impossible, is_true, holds}
use Rattle.refusal.specs.declared.Refusal.{Refusal}
use Rattle.refusal.specs.declared.Refusal.TheVariants.{Item}
use Rattle.sample_items.specs.declared.Items.{Items}
use Rattle.sample_items.specs.Limits.{item_outside, longest_time}
use Rattle.campaign_state.specs.declared.Campaign.{Campaign}
use Rattle.campaign_state.specs.State.{sound}
use Rattle.campaign_state.proofs.Answered.{entered_from, opened_from}
use Rattle.campaign_state.proofs.Keeping.{entering_sound, opened_sound}
use Rattle.campaign_state.proofs.Relations.{kept_from}
use Rattle.decimal.specs.Decimal.{longest}
use Rattle.decimal.specs.Field.{tab, line_feed}
use Rattle.decimal.specs.Lines.{lines_of}
use Rattle.decimal.proofs.Text.{digits_below, field_few}
use Rattle.sheet_line.specs.declared.Sheet.{Sheet}
use Rattle.sheet_line.specs.declared.Sheet.TheVariants.{Fresh, Open}
use Rattle.sheet_line.specs.Form.{longest_sheet_line}
use Rattle.sheet_line.specs.Line.{stepping, line_outcome}
use Rattle.sheet_line.specs.Texts.{entry_text, head_text}
use Rattle.sheet_line.proofs.Columns.{standard_few}
use Rattle.sheet_line.proofs.Entries.{says_next, standard_says}
use Rattle.sheet_line.proofs.Theorems.{line_enters, told_entered}
use Rattle.sheet_text.specs.declared.Reading.{Reading}
use Rattle.sheet_text.specs.declared.Reading.TheVariants.{Read, Stopped, Waiting}
use Rattle.sheet_text.specs.Cut.{cut, first_line}
use Rattle.sheet_text.specs.Pieces.{onward}
use Rattle.sheet_text.specs.Sheet.{Account, after_step, ended, meaning, reading_sheet, waits}
use Rattle.sheet_text.proofs.Lines.{cut_some, cut-whole, cut_within, length_first, reading_turn}
use Rattle.sheet_text.proofs.Pieces.{one_cut}
use Rattle.sheet_records.proofs.Enough.{in_range}
use Rattle.sheet_records.proofs.Puts.{head_bytes}
use Rattle.sheet_after.specs.After.{refused_old, sheet_after}
use Rattle.std.specs.Prelude.{Result, Ok, Err}

-- ---- a reading for which more may come
took : (step : Result Sheet (ℕ × ℕ × Refusal)) (go : Sheet → Account) (r : Reading) (s : Sheet) (left : ℕ) → r ≡ Waiting s left → (after_step step go).end ≡ r
    → (t : Sheet) × (step ≡ Ok t) × ((go t).end ≡ r)
took (Ok t) go r s left w e = (t, refl, e)
took (Err (line, column, x)) go r s left w e = impossible (cc)

pub never_read : (lines : List (List ℕ)) (s : Sheet) (c : Campaign) → ¬ ((reading_sheet true lines s).end ≡ Read c)
unfolding reading_sheet
never_read [] s c = λ e. impossible (cc)
never_read (line ∷ lines) s c =
    by_test (waits true line)
    (λ w. rw w (λ e. impossible (cc)))
    (λ w. rw w (by_step (λ t. never_read lines t c) (stepping s line)))
  where
    by_step : ((t : Sheet) → ¬ ((reading_sheet true lines t).end ≡ Read c)) → (step : Result Sheet (ℕ × ℕ × Refusal)) → ¬ ((after_step step (reading_sheet true lines)).end ≡ Read c)
    by_step later (Ok t) e = later t e
    by_step later (Err (l, k, r)) e = impossible (cc)

-- ---- the bytes of a line that is taken
entry_few : (number flag exposure : ℕ) → number ≤ 100000 → flag ≤ 1 → exposure ≤ longest_time → length (entry_text number flag exposure) ≤ 18
entry_few number flag exposure a b c =
    simp length-append (omega (arith, field_few number tab 5 (omega arith), field_few flag tab 0 (omega arith), field_few exposure line_feed 7 (omega arith)))

record Onward (c : Campaign) (line : List ℕ) (t : Sheet) : Type 0 where
  pub after : Campaign
  pub good : sound after ≡ true
  pub one_more : after.records ≡ c.records + 1
  pub next : t ≡ Open after
  pub few : length line ≤ 18

onward_line : (c : Campaign) (line : List ℕ) (t : Sheet) → sound c ≡ true → stepping (Open c) line ≡ Ok t → Onward c line t
onward_line c line t g step =
    let o = line_enters c line t g step in
    let enters = told_entered c (eqb o.flag 1) o.exposure o.after o.taken in
    let x = entered_from c (line_outcome (eqb o.flag 1) o.exposure) o.after enters in
    let more : o.after.records ≡ c.records + 1 = ap (λ (y : Campaign). y.records) x.room.after in
    let good = entering_sound c (line_outcome (eqb o.flag 1) o.exposure) o.after enters in
    record {
      after = o.after;
      good = is_true _ good;
      one_more = more;
      next = o.next;
      few = omega (arith, ap length o.bytes, entry_few (c.records + 1) o.flag o.exposure (omega (arith, more, (kept_from o.after good).records)) o.flag_kept x.high);
    }

-- a line that waits is the whole text, and short
waits_short : (text : List ℕ) → waits true (first_line text) ≡ true → length text ≤ 63
unfolding first_line
waits_short text w =
    let (unended, short) = and-true _ _ w in
    let few = ltb-true (length (first_line text)) longest_sheet_line short in
    let size = length_first text in
    omega (arith, few, size, cut-whole longest_sheet_line text (not-true _ unended) (omega (arith, few, size)))

parts : (text : List ℕ) → length text ≡ length (first_line text) + length (drop (cut longest_sheet_line text) text)
parts text = omega (arith, length_first text, length-drop (cut longest_sheet_line text) text, cut_within longest_sheet_line text)

-- a text that waits for more after so many records
abbrev Few : Sheet → ℕ → ℕ → Type 0
Few s left m =
    (text : List ℕ) (c : Campaign) → length text ≤ m → sound c ≡ true → (reading_sheet true (lines_of text) (Open c)).end ≡ Waiting s left
    → length text + 18 * c.records ≤ 1800063

module _ (s : Sheet) (left m : ℕ) (again : Few s left m) (text : List ℕ) (c : Campaign) (h : length text ≤ suc m) (g : sound c ≡ true) (some : 0 < length text) where
  abbrev rest : List ℕ
  rest = drop (cut longest_sheet_line text) text

  line_taken : (after_step (stepping (Open c) (first_line text)) (reading_sheet true (lines_of rest))).end ≡ Waiting s left → length text + 18 * c.records ≤ 1800063
  line_taken f =
      let (t, step, go) = took (stepping (Open c) (first_line text)) (reading_sheet true (lines_of rest)) (Waiting s left) s left refl f in
      let o = onward_line c (first_line text) t g step in
      let later = again rest o.after (omega (arith, parts text, cut_some 63 text some, length_first text)) o.good
      (ap (λ (x : Sheet). (reading_sheet true (lines_of rest) x).end) (sym o.next) ∙ go) in
      omega (arith, later, parts text, o.few, o.one_more)

  turn_few : (b : Bool) → waits true (first_line text) ≡ b
      → (cond b (ended (Waiting (Open c) (length (first_line text)))) (after_step (stepping (Open c) (first_line text)) (reading_sheet true (lines_of rest)))).end ≡ Waiting s left
      → length text + 18 * c.records ≤ 1800063
  turn_few true w f = omega (arith, waits_short text w, (kept_from c (holds g)).records)
  turn_few false w f = line_taken f

  some_few : (reading_sheet true (lines_of text) (Open c)).end ≡ Waiting s left → length text + 18 * c.records ≤ 1800063
  some_few e = turn_few (waits true (first_line text)) refl (sym (ap (λ (a : Account). a.end) (reading_turn true text (Open c) some)) ∙ e)

waits_few : (s : Sheet) (left m : ℕ) → Few s left m
waits_few s left zero text c h g e = omega (arith, (kept_from c (holds g)).records)
waits_few s left (suc m) [] c h g e = omega (arith, (kept_from c (holds g)).records)
waits_few s left (suc m) (b ∷ text) c h g e = some_few s left m (waits_few s left m) (b ∷ text) c h g (omega arith) e

-- and from its first line on
head_few : (q : ℕ) → q < 10 ^ longest → length (head_text q) ≤ 22
head_few q h = omega (arith, head_bytes q, digits_below 11 q h)

opening_line : (line : List ℕ) (t : Sheet) → stepping Fresh line ≡ Ok t → (c : Campaign) × (sound c ≡ true) × (t ≡ Open c) × (length line ≤ 22)
unfolding stepping
opening_line line t step =
    let o = says_next (standard_says _ line (standard_few line)) step in
    let (range, is) = opened_from o.standard o.after o.taken in (
      o.after,
      is_true _ (opened_sound o.standard o.after o.taken),
      o.next,
      omega (arith, ap length o.bytes, head_few o.standard (in_range o.standard range)),
    )

module _ (text : List ℕ) (s : Sheet) (left : ℕ) (some : 0 < length text) where
  abbrev after_head : List ℕ
  after_head = drop (cut longest_sheet_line text) text

  head_taken : (after_step (stepping Fresh (first_line text)) (reading_sheet true (lines_of after_head))).end ≡ Waiting s left → length text ≤ 1800085
  head_taken f =
      let (t, step, go) = took (stepping Fresh (first_line text)) (reading_sheet true (lines_of after_head)) (Waiting s left) s left refl f in
      let (c, good, next, few) = opening_line (first_line text) t step in
      let later = waits_few s left (length after_head) after_head c (omega arith) good (ap (λ (x : Sheet). (reading_sheet true (lines_of after_head) x).end) (sym next) ∙ go) in
      omega (arith, later, parts text, few)

  head_turn : (b : Bool) → waits true (first_line text) ≡ b
      → (cond b (ended (Waiting Fresh (length (first_line text)))) (after_step (stepping Fresh (first_line text)) (reading_sheet true (lines_of after_head)))).end ≡ Waiting s left
      → length text ≤ 1800085
  head_turn true w f = omega (arith, waits_short text w)
  head_turn false w f = head_taken f

pub fresh_few : (text : List ℕ) (s : Sheet) (left : ℕ) → (reading_sheet true (lines_of text) Fresh).end ≡ Waiting s left → length text ≤ 1800085
fresh_few [] s left e = omega arith
fresh_few (b ∷ text) s left e =
    head_turn (b ∷ text) s left (omega arith) (waits true (first_line (b ∷ text))) refl
    (sym (ap (λ (a : Account). a.end) (reading_turn true (b ∷ text) Fresh (omega arith))) ∙ e)

-- ---- the first bytes decide
-- a front that is shorter than was asked for is all
pub take_short : (n : ℕ) (text : List ℕ) → length (take n text) < n → take n text ≡ text
take_short zero text h = absurd (omega arith)
take_short (suc n) [] h = refl
take_short (suc n) (b ∷ text) h = ap (λ (l : List ℕ). b ∷ l) (take_short n text (omega arith))

abbrev pub enough_of_a_sheet : ℕ
enough_of_a_sheet = 1800086

-- a reading that is over stays so
pub over : (a b : List ℕ) (line column : ℕ) (r : Refusal) → (reading_sheet true (lines_of a) Fresh).end ≡ Stopped line column r → (meaning (a ++ b)).end ≡ Stopped line column r
unfolding meaning
over a b line column r e =
    ap (λ (x : Account). x.end)
    (sym (one_cut false a b Fresh)
    ∙ ap (λ (x : Reading). onward (reading_sheet true (lines_of a) Fresh) x a (λ t kept. reading_sheet false (lines_of (kept ++ b)) t)) e)
    ∙ e

module _ (i : Items) (texts : List (List ℕ)) where
  stopped : (old : List ℕ) (line column : ℕ) (r : Refusal) → (meaning old).end ≡ Stopped line column r
      → sheet_after i old texts ≡ cond (not (eqb (item_outside i) 0)) (refused_old 0 0 (Item (item_outside i))) (refused_old line column r)
  unfolding sheet_after
  stopped old line column r e = rw e

  by_front : (n : ℕ) → enough_of_a_sheet ≤ n → (old : List ℕ) (r : Reading) → (reading_sheet true (lines_of (take n old)) Fresh).end ≡ r
      → sheet_after i (take n old) texts ≡ sheet_after i old texts
  by_front n h old (Read c) e = absurd (never_read (lines_of (take n old)) Fresh c e)
  by_front n h old (Waiting s left) e = ap (λ (l : List ℕ). sheet_after i l texts) (take_short n old (omega (arith, h, fresh_few (take n old) s left e)))
  by_front n h old (Stopped line column r) e =
      stopped (take n old) line column r (ap (λ (l : List ℕ). (meaning l).end) (sym (append-nil (take n old))) ∙ over (take n old) [] line column r e)
      ∙ sym (stopped old line column r (ap (λ (l : List ℕ). (meaning l).end) (sym (take-append-drop n old)) ∙ over (take n old) (drop n old) line column r e))

  -- THE FIRST BYTES DECIDE
  pub front_decides : (n : ℕ) → enough_of_a_sheet ≤ n → (old : List ℕ) → sheet_after i (take n old) texts ≡ sheet_after i old texts
  front_decides n h old = by_front n h old (reading_sheet true (lines_of (take n old)) Fresh).end refl
