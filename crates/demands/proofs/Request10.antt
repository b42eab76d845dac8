-- Document 02, [10]: what is wrong with a malformed line of a sheet, and at which column. A line as a whole is at
-- fault, at column 0, exactly if it is not its two or three fields, parted by tabs, ended by LF, in 64 bytes; and that
-- is judged first. Else the first bad field from the left tells: the column of its first byte that is no digit, else
-- that of its first byte, or of the place where an empty field should start. A whole line is malformed exactly if one
-- of its fields is bad, so exactly if its column is not 0: this ties what `sheet_line` reads to what `sheet_line`
-- tells. What the number reader tells of a field, in 02's order: FieldIs. Which texts are refused: Refusal9. Assumes
-- nothing.
use mathlib.Core.Path.{◌≡◌, ap, refl, sym, subst, ◌∙◌}
use mathlib.Core.Bool.{true}
use mathlib.Core.List.{List, [], ◌∷◌, ◌++◌, append_assoc}
use mathlib.Core.Logic.{◌⊎◌, inl, inr}
use Prim.Native.Nat.{ℕ, ◌+◌, ◌^◌, ◌≤◌, ◌<◌}
use native.Mathlib.Omega.{arith}
use lib.Dec.{eqb}
use lib.ListN.{length, drop, length-append}
use borrow.Author.Tests.{eqb-false, eqb-true, ne_eqb}
use Rattle.truth.proofs.Cases.{by_test}
use Rattle.truth.proofs.Laws.{and-true, holds}
use Rattle.refusal.specs.declared.Refusal.{Refusal}
use Rattle.refusal.specs.declared.Refusal.TheVariants.{Line}
use Rattle.refusal.specs.Numbers.{number_of}
use Rattle.sheet_reply.specs.Written.{reason_text, refused_text, refused_word}
use Rattle.campaign_state.specs.declared.Campaign.{Campaign}
use Rattle.campaign_state.specs.State.{sound}
use Rattle.campaign_state.proofs.Relations.{kept_from}
use Rattle.decimal.specs.Decimal.{all_digits, digits_of, is_digit, longest, value_of}
use Rattle.decimal.specs.Field.{field_text, line_feed, tab}
use Rattle.decimal.proofs.Text.{all_digits_lem, digit_range, digits_value, field_few, number_below, number_digits, value_digits}
use Rattle.sheet_line.specs.Field.{field_at, field_of, read_as}
use Rattle.sheet_line.specs.declared.Field.{Field}
use Rattle.sheet_line.specs.Column.{next_field, column_in, how_many, is_whole, most_number, record_column, record_fields, standard_column, standard_fields}
use Rattle.sheet_line.specs.Form.{begins, standard_start, standard_word}
use Rattle.sheet_line.specs.declared.Sheet.TheVariants.{Fresh, Open}
use Rattle.sheet_line.specs.Line.{line_after, malformed, stepping}
use Rattle.sheet_line.proofs.Fields.{begins_with}
use Rattle.sheet_line.proofs.Theorems.{begins_itself}
use Rattle.sheet_line.specs.Texts.{RecordText, StandardText, entry_text, head_text}
use Rattle.demands.proofs.Exactly.{Exactly}
use Rattle.sheet_line.specs.Told.{FieldIs, number}
use Rattle.sheet_line.proofs.Told.{is_told, told_is}
use Rattle.sheet_line.specs.Fault.{Bad, Good}
use Rattle.sheet_line.specs.Parts.{OfThree, OfTwo, Plain, Three, Two}
use Rattle.sheet_line.proofs.Fault.{bad_column, bad_some, good_column, good_or_bad}
use Rattle.sheet_line.proofs.Parts.{field_plain, reads_plain, three_whole, two_whole, whole_three, whole_two}
use Rattle.sheet_line.proofs.Forms.{Reads, Told, ToldStandard, good, ill, record_reads, standard_reads}
use Rattle.demands.proofs.Refusal9.{Nine, refusal_9}
use Rattle.sheet_line.specs.declared.Sheet.{Sheet}
use Rattle.std.specs.Prelude.{Result, Err}
use Rattle.truth.proofs.Answers.{same_err}

-- ---- the statement
-- malformed, on line n, at column k
abbrev pub at : ℕ → ℕ → Result Sheet (ℕ × ℕ × Refusal)
at n k = Err (n, k, Line n)

-- line 1
pub record First (line : List ℕ) : Type 0 where
  -- the line as a whole
  pub as_a_whole : ¬ OfTwo line → stepping Fresh line ≡ at 1 0
  pub over : 64 < length line → stepping Fresh line ≡ at 1 0
  -- another word; then what is no number
  pub word : (a b : List ℕ) → Two line a b → ¬ (a ≡ standard_word) → stepping Fresh line ≡ at 1 1
  pub standard : (b : List ℕ) (k : ℕ) → Two line standard_word b → Bad 0 most_number b k
      → stepping Fresh line ≡ at 1 (9 + k)
  -- nothing is wrong
  pub nothing : (b : List ℕ) → Two line standard_word b → Good 0 most_number b → StandardText line
  pub malformed : OfTwo line → Exactly (Nine 1 (stepping Fresh line)) (1 ≤ standard_column line)
  pub column_told : (k : ℕ) → stepping Fresh line ≡ at 1 k → k ≡ standard_column line

-- a later line: the number that is due, 1 or 0, an exposure
pub record Later (c : Campaign) (line : List ℕ) : Type 0 where
  pub as_a_whole : ¬ OfThree line → stepping (Open c) line ≡ at (c.records + 2) 0
  pub over : 64 < length line → stepping (Open c) line ≡ at (c.records + 2) 0
  pub number : (a b d : List ℕ) (k : ℕ) → Three line a b d → Bad (c.records + 1) (c.records + 1) a k
      → stepping (Open c) line ≡ at (c.records + 2) k
  pub flag : (a b d : List ℕ) (k : ℕ) → Three line a b d → Good (c.records + 1) (c.records + 1) a → Bad 0 1 b k
      → stepping (Open c) line ≡ at (c.records + 2) (length a + 1 + k)
  pub exposure : (a b d : List ℕ) (k : ℕ) → Three line a b d → Good (c.records + 1) (c.records + 1) a → Good 0 1 b
      → Bad 0 most_number d k
      → stepping (Open c) line ≡ at (c.records + 2) (length a + 1 + length b + 1 + k)
  pub nothing : (a b d : List ℕ) → Three line a b d → Good (c.records + 1) (c.records + 1) a → Good 0 1 b
      → Good 0 most_number d → RecordText (c.records + 1) line
  pub malformed : OfThree line
      → Exactly (Nine (c.records + 2) (stepping (Open c) line)) (1 ≤ record_column (c.records + 1) line)
  pub column_told : (k : ℕ) → stepping (Open c) line ≡ at (c.records + 2) k → k ≡ record_column (c.records + 1) line

pub record Request10 : Type 0 where
  -- the number reader tells empty, strange byte, leading zero and too long apart
  pub reader : (field : List ℕ) (at : ℕ) {f : Field} → FieldIs field at f → read_as field at ≡ f
  pub reader_all : (field : List ℕ) (at : ℕ) → FieldIs field at (read_as field at)
  -- a line as a whole
  pub two : (line : List ℕ) → Exactly (is_whole 1 line ≡ true) (OfTwo line)
  pub three : (line : List ℕ) → Exactly (is_whole 2 line ≡ true) (OfThree line)
  -- a field is good or bad
  pub one_of : (low high : ℕ) (field : List ℕ) → Good low high field ⊎ ((k : ℕ) × Bad low high field k)
  -- the refused line: line number, 9, column; any other refusal has no fourth field
  pub refused_nine : (n k m : ℕ)
      → refused_text n k (Line m) ≡ refused_word ++ (field_text n tab ++ (field_text 9 tab ++ field_text k line_feed))
  pub refused_other : (n k : ℕ) (r : Refusal) → ¬ (number_of r ≡ 9)
      → refused_text n k r ≡ refused_word ++ (field_text n tab ++ field_text (number_of r) line_feed)
  pub first : (line : List ℕ) → First line
  pub later : (c : Campaign) (line : List ℕ) → sound c ≡ true → Later c line

-- ---- the proof
own : {n k m : ℕ} → at n k ≡ at n m → k ≡ m
own e = ap (λ (p : ℕ × ℕ × Refusal). p.1) (same_err e)

-- digits are plain
digits_plain : (text : List ℕ) → all_digits text ≡ true → Plain text
unfolding all_digits how_many
digits_plain [] e = record { no_tab = refl; no_feed = refl }
digits_plain (b ∷ text) e =
    let (d, rest) = and-true (is_digit b) (all_digits text) e in
    let r = digit_range b d in
    let p = digits_plain text rest in
    record { no_tab = rw (ne_eqb b tab (λ z. omega arith)) p.no_tab; no_feed = rw (ne_eqb b line_feed (λ z. omega arith)) p.no_feed }

-- a number's own text is good
good_digits : (low high v : ℕ) → v < 10 ^ longest → low ≤ v → v ≤ high → Good low high (digits_of v)
good_digits low high v s l h = record { number = number_digits v s; from = rw (value_digits v) l; to = rw (value_digits v) h }

-- ---- a later line
module _ (due : ℕ) (line a b d : List ℕ) (w : Three line a b d) where
  first_read : field_at line 0 ≡ read_as a 0
  first_read = rw w.bytes (reads_plain [] a tab (b ++ (tab ∷ (d ++ (line_feed ∷ [])))) w.first refl)

  second_read : field_at line (length a + 1) ≡ read_as b (length a + 1)
  second_read =
      let size : length (a ++ (tab ∷ [])) ≡ length a + 1 = length-append a (tab ∷ []) in
      let parts : line ≡ (a ++ (tab ∷ [])) ++ (b ++ (tab ∷ (d ++ (line_feed ∷ [])))) = w.bytes ∙ sym (append_assoc a (tab ∷ []) (b ++ (tab ∷ (d ++ (line_feed ∷ []))))) in
      rw parts (rw size at (reads_plain (a ++ (tab ∷ [])) b tab (d ++ (line_feed ∷ [])) w.second refl))

  third_read : field_at line (length a + 1 + length b + 1) ≡ read_as d (length a + 1 + length b + 1)
  third_read =
      let before = a ++ (tab ∷ (b ++ (tab ∷ []))) in
      let size : length before ≡ length a + 1 + length b + 1 = simp length-append (omega arith) in
      let parts : line ≡ before ++ (d ++ (line_feed ∷ [])) =
      w.bytes ∙ sym (append_assoc a (tab ∷ (b ++ (tab ∷ []))) (d ++ (line_feed ∷ [])) ∙ ap (λ (l : List ℕ). a ++ (tab ∷ l)) (append_assoc b (tab ∷ []) (d ++ (line_feed ∷ []))))
      in
      rw parts (rw size at (reads_plain before d line_feed [] w.third refl))

  column-is : record_column due line ≡ record_fields due line
  unfolding record_column
  column-is = rw (three_whole line a b d w)

  module _ {k : ℕ} where
    bad_first : Bad due due a k → record_column due line ≡ k
    unfolding record_fields
    bad_first x =
        let e = ap (column_in due due 0) first_read ∙ bad_column due due 0 a x in
        column-is ∙ rw (ne_eqb (column_in due due 0 (field_at line 0)) 0 (λ z. omega (arith, bad_some x, e))) (e ∙ omega arith)

  module _ (g : Good due due a) where
    first_good : column_in due due 0 (field_at line 0) ≡ 0
    first_good = ap (column_in due due 0) first_read ∙ good_column due due 0 a g

    after_first : next_field (field_at line 0) ≡ length a + 1
    after_first = rw (first_read, is_told a 0 (number g.number)) (omega arith)

    bad_second : {k : ℕ} → Bad 0 1 b k → record_column due line ≡ length a + 1 + k
    unfolding record_fields
    bad_second x =
        let e = ap (column_in 0 1 (length a + 1)) second_read ∙ bad_column 0 1 (length a + 1) b x in
        column-is ∙ rw (first_good, after_first, ne_eqb (column_in 0 1 (length a + 1) (field_at line (length a + 1))) 0 (λ z. omega (arith, bad_some x, e))) e

    module _ (h : Good 0 1 b) where
      second_good : column_in 0 1 (length a + 1) (field_at line (length a + 1)) ≡ 0
      second_good = ap (column_in 0 1 (length a + 1)) second_read ∙ good_column 0 1 (length a + 1) b h

      after_second : next_field (field_at line (length a + 1)) ≡ length a + 1 + length b + 1
      after_second = rw (second_read, is_told b (length a + 1) (number h.number)) refl

      third_column : record_column due line ≡ column_in 0 most_number (length a + 1 + length b + 1) (read_as d (length a + 1 + length b + 1))
      unfolding record_fields
      third_column = column-is ∙ rw (first_good, after_first, second_good, after_second, third_read)

      bad_third : {k : ℕ} → Bad 0 most_number d k → record_column due line ≡ length a + 1 + length b + 1 + k
      bad_third x = third_column ∙ bad_column 0 most_number (length a + 1 + length b + 1) d x

      module _ (i : Good 0 most_number d) where
        none_bad : record_column due line ≡ 0
        none_bad = third_column ∙ good_column 0 most_number (length a + 1 + length b + 1) d i

        is_record_lem : RecordText due line
        unfolding field_text
        is_record_lem =
            let n : value_of a ≡ due = omega (arith, g.from, g.to) in
            record {
              flag = value_of b;
              exposure = value_of d;
              flag_kept = h.to;
              few = number_below d i.number;
              bytes =
                  w.bytes
                  ∙ rw (
                    ← n,
                    digits_value a g.number,
                    digits_value b h.number,
                    digits_value d i.number,
                    append_assoc a (tab ∷ []) ((b ++ (tab ∷ [])) ++ (d ++ (line_feed ∷ []))),
                    append_assoc b (tab ∷ []) (d ++ (line_feed ∷ [])),
                  );
            }

-- the text of a record is whole, and nothing is wrong with it
module _ (due : ℕ) (small : due < 10 ^ longest) (line : List ℕ) (t : RecordText due line) where
  abbrev f : ℕ
  f = t.flag

  abbrev x : ℕ
  x = t.exposure

  text_three : Three line (digits_of due) (digits_of f) (digits_of x)
  unfolding field_text
  text_three =
      let size : length (entry_text due f x) ≡ length (field_text due tab) + (length (field_text f tab) + length (field_text x line_feed)) = simp length-append refl in
      let few : length (entry_text due f x) ≤ 64 = omega (arith, size, field_few due tab 11 small, field_few f tab 11 (omega (arith, t.flag_kept)), field_few x line_feed 11 t.few) in
      record {
        bytes =
            t.bytes
            ∙ (append_assoc (digits_of due) (tab ∷ []) (field_text f tab ++ field_text x line_feed)
            ∙ ap (λ (l : List ℕ). digits_of due ++ (tab ∷ l)) (append_assoc (digits_of f) (tab ∷ []) (field_text x line_feed)));
        first = digits_plain (digits_of due) (all_digits_lem due);
        second = digits_plain (digits_of f) (all_digits_lem f);
        third = digits_plain (digits_of x) (all_digits_lem x);
        short = rw t.bytes few;
      }

  text_column : record_column due line ≡ 0
  text_column =
      none_bad due line (digits_of due) (digits_of f) (digits_of x) text_three (good_digits due due due small (omega arith) (omega arith))
      (good_digits 0 1 f (omega (arith, t.flag_kept)) (omega arith) t.flag_kept)
      (good_digits 0 most_number x t.few (omega arith) (omega (arith, t.few)))

module _ (c : Campaign) (line : List ℕ) (kept : sound c ≡ true) where
  abbrev n : ℕ
  n = c.records + 2

  abbrev due : ℕ
  due = c.records + 1

  due_small : due < 10 ^ longest
  due_small = omega (arith, (kept_from c (holds kept)).records)

  either : RecordText due line ⊎ (stepping (Open c) line ≡ at n (record_column due line))
  unfolding stepping
  either = rw kept (go (record_reads (record_column due line) c line))
    where
      go : {s : (Result Sheet (ℕ × ℕ × Refusal))} → Reads (Told c line) (malformed (line_after c) (record_column due line)) s
          → RecordText due line ⊎ (s ≡ at n (record_column due line))
      go (good t) = inl t.text
      go ill = inr refl

  at_column : (k : ℕ) → record_column due line ≡ k → 1 ≤ k → stepping (Open c) line ≡ at n k
  at_column k e some = go either
    where
      go : RecordText due line ⊎ (stepping (Open c) line ≡ at n (record_column due line))
          → stepping (Open c) line ≡ at n k
      go (inl t) = absurd (omega (arith, text_column due due_small line t))
      go (inr s) = s ∙ ap (at n) e

  whole_fault : ¬ OfThree line → stepping (Open c) line ≡ at n 0
  unfolding record_column
  whole_fault bad = go either
    where
      zero : record_column due line ≡ 0
      zero = by_test (is_whole 2 line) (λ w. absurd (bad (whole_three line w))) (λ w. rw w)

      go : RecordText due line ⊎ (stepping (Open c) line ≡ at n (record_column due line))
          → stepping (Open c) line ≡ at n 0
      go (inl t) = absurd (bad (record { a = digits_of due; b = digits_of t.flag; d = digits_of t.exposure; parts = text_three due due_small line t }))
      go (inr s) = s ∙ ap (at n) zero

  some_column : (a b d : List ℕ) → Three line a b d → ¬ RecordText due line → 1 ≤ record_column due line
  some_column a b d w other = first (good_or_bad due due 0 a)
    where
      third : Good due due a → Good 0 1 b → Good 0 most_number d ⊎ ((k : ℕ) × Bad 0 most_number d k)
          → 1 ≤ record_column due line
      third g h (inl i) = absurd (other (is_record_lem due line a b d w g h i))
      third g h (inr (k, x)) = omega (arith, bad_third due line a b d w g h x, bad_some x)

      second : Good due due a → Good 0 1 b ⊎ ((k : ℕ) × Bad 0 1 b k) → 1 ≤ record_column due line
      second g (inl h) = third g h (good_or_bad 0 most_number 0 d)
      second g (inr (k, x)) = omega (arith, bad_second due line a b d w g x, bad_some x)

      first : Good due due a ⊎ ((k : ℕ) × Bad due due a k) → 1 ≤ record_column due line
      first (inl g) = second g (good_or_bad 0 1 0 b)
      first (inr (k, x)) = omega (arith, bad_first due line a b d w x, bad_some x)

  later : Later c line
  later =
      record {
        as_a_whole = whole_fault;
        over = λ long. whole_fault (λ o. omega (arith, o.parts.short));
        number = λ a b d k w x. at_column k (bad_first due line a b d w x) (bad_some x);
        flag = λ a b d k w g x. at_column (length a + 1 + k) (bad_second due line a b d w g x) (omega (arith, bad_some x));
        exposure = λ a b d k w g h x. at_column (length a + 1 + length b + 1 + k) (bad_third due line a b d w g h x) (omega (arith, bad_some x));
        nothing = λ a b d w g h i. is_record_lem due line a b d w g h i;
        malformed = λ o. record {
          only_if = λ nine. some_column o.a o.b o.d o.parts ((refusal_9.line c line kept).only_if nine);
          when = λ some. record { column = record_column due line; is = at_column (record_column due line) refl some };
        };
        column_told = told;
      }
    where
      told : (k : ℕ) → stepping (Open c) line ≡ at n k → k ≡ record_column due line
      told k e = go either
        where
          go : RecordText due line ⊎ (stepping (Open c) line ≡ at n (record_column due line)) → k ≡ record_column due line
          go (inl t) = absurd ((refusal_9.line c line kept).only_if (record { column = k; is = e }) t)
          go (inr s) = own (sym e ∙ s)

-- ---- line 1
word_plain : Plain standard_word
unfolding how_many
word_plain = record { no_tab = refl; no_feed = refl }

module _ (line : List ℕ) where
  module _ (a b : List ℕ) (w : Two line a b) where
    standard_column_is : standard_column line ≡ standard_fields line
    unfolding standard_column
    standard_column_is = rw (two_whole line a b w)

    other_word : ¬ (a ≡ standard_word) → standard_column line ≡ 1
    unfolding standard_fields
    other_word bad =
        by_test (begins standard_start line)
        (λ e.
        let here = ap field_of w.bytes ∙ field_plain a tab (b ++ (line_feed ∷ [])) w.first refl in
        let word = ap field_of (begins_with standard_start line e) ∙ field_plain standard_word tab (drop 9 line) word_plain refl in
        absurd (bad (sym here ∙ word)))
        (λ e. standard_column_is ∙ rw e)

  module _ (b : List ℕ) (w : Two line standard_word b) where
    standard_fields_lem : standard_column line ≡ column_in 0 most_number 9 (read_as b 9)
    unfolding standard_fields
    standard_fields_lem =
        let word : begins standard_start line ≡ true = rw w.bytes (begins_itself standard_start (b ++ (line_feed ∷ []))) in
        let read : field_at line 9 ≡ read_as b 9 = rw w.bytes (reads_plain standard_start b line_feed [] w.second refl) in
        standard_column_is standard_word b w ∙ rw (word, read)

    is_standard : Good 0 most_number b → StandardText line
    unfolding field_text
    is_standard g = record { standard = value_of b; few = number_below b g.number; bytes = w.bytes ∙ rw (digits_value b g.number) }

  standard_two : (t : StandardText line) → Two line standard_word (digits_of t.standard)
  unfolding field_text
  standard_two t =
      let size : length (head_text t.standard) ≡ 9 + length (field_text t.standard line_feed) = length-append standard_start (field_text t.standard line_feed) in
      let few : length (head_text t.standard) ≤ 64 = omega (arith, size, field_few t.standard line_feed 11 t.few) in
      record { bytes = t.bytes; first = word_plain; second = digits_plain (digits_of t.standard) (all_digits_lem t.standard); short = rw t.bytes few }

  standard_text_column : StandardText line → standard_column line ≡ 0
  standard_text_column t =
      standard_fields_lem (digits_of t.standard) (standard_two t)
      ∙ good_column 0 most_number 9 (digits_of t.standard) (good_digits 0 most_number t.standard t.few (omega arith) (omega (arith, t.few)))

  standard_either : StandardText line ⊎ (stepping Fresh line ≡ at 1 (standard_column line))
  unfolding stepping
  standard_either = go (standard_reads (standard_column line) line)
    where
      go : {s : (Result Sheet (ℕ × ℕ × Refusal))} → Reads (ToldStandard line) (malformed 1 (standard_column line)) s
          → StandardText line ⊎ (s ≡ at 1 (standard_column line))
      go (good t) = inl t.text
      go ill = inr refl

  at_standard : (k : ℕ) → standard_column line ≡ k → 1 ≤ k → stepping Fresh line ≡ at 1 k
  at_standard k e some = go standard_either
    where
      go : StandardText line ⊎ (stepping Fresh line ≡ at 1 (standard_column line)) → stepping Fresh line ≡ at 1 k
      go (inl t) = absurd (omega (arith, standard_text_column t))
      go (inr s) = s ∙ ap (at 1) e

  standard_whole : ¬ OfTwo line → stepping Fresh line ≡ at 1 0
  unfolding standard_column
  standard_whole bad = go standard_either
    where
      zero : standard_column line ≡ 0
      zero = by_test (is_whole 1 line) (λ w. absurd (bad (whole_two line w))) (λ w. rw w)

      go : StandardText line ⊎ (stepping Fresh line ≡ at 1 (standard_column line)) → stepping Fresh line ≡ at 1 0
      go (inl t) = absurd (bad (record { a = standard_word; b = digits_of t.standard; parts = standard_two t }))
      go (inr s) = s ∙ ap (at 1) zero

  some_standard : (a b : List ℕ) → Two line a b → ¬ StandardText line → 1 ≤ standard_column line
  some_standard a b w other = by_test (eqb (standard_column line) 0) (λ z. absurd (clash (eqb-true (standard_column line) 0 z))) (λ z. some (eqb-false (standard_column line) 0 z))
    where
      some : ¬ (standard_column line ≡ 0) → 1 ≤ standard_column line
      some h = omega arith

      -- with no column the word is the word, and what follows is a number
      clash : standard_column line ≡ 0 → ⊥
      clash z = is_not (λ e. number_too e (good_or_bad 0 most_number 9 b))
        where
          is_not : ¬ (a ≡ standard_word) → ⊥
          is_not h = omega (arith, other_word a b w h)

          number_too : a ≡ standard_word → Good 0 most_number b ⊎ ((k : ℕ) × Bad 0 most_number b k) → ⊥
          number_too e (inl g) = other (is_standard b (subst (λ y. Two line y b) e w) g)
          number_too e (inr (k, x)) = omega (arith, standard_fields_lem b (subst (λ y. Two line y b) e w), bad_column 0 most_number 9 b x, bad_some x)

  first_line : First line
  first_line =
      record {
        as_a_whole = standard_whole;
        over = λ long. standard_whole (λ o. omega (arith, o.parts.short));
        word = λ a b w bad. at_standard 1 (other_word a b w bad) (omega arith);
        standard = λ b k w x. at_standard (9 + k) (standard_fields_lem b w ∙ bad_column 0 most_number 9 b x) (omega (arith, bad_some x));
        nothing = λ b w g. is_standard b w g;
        malformed = λ o. record {
          only_if = λ nine. some_standard o.a o.b o.parts ((refusal_9.first line).only_if nine);
          when = λ some. record { column = standard_column line; is = at_standard (standard_column line) refl some };
        };
        column_told = told;
      }
    where
      told : (k : ℕ) → stepping Fresh line ≡ at 1 k → k ≡ standard_column line
      told k e = go standard_either
        where
          go : StandardText line ⊎ (stepping Fresh line ≡ at 1 (standard_column line)) → k ≡ standard_column line
          go (inl t) = absurd ((refusal_9.first line).only_if (record { column = k; is = e }) t)
          go (inr s) = own (sym e ∙ s)

pub request_10 : Request10
unfolding refused_text reason_text
request_10 =
    record {
      reader = λ field at t. is_told field at t;
      reader_all = told_is;
      two = λ line. record { only_if = whole_two line; when = λ o. two_whole line o.a o.b o.parts };
      three = λ line. record { only_if = whole_three line; when = λ o. three_whole line o.a o.b o.d o.parts };
      one_of = λ low high field. good_or_bad low high 0 field;
      refused_nine = λ n k m. refl;
      refused_other = λ n k r other. rw (ne_eqb (number_of r) 9 other);
      first = first_line;
      later = later;
    }
