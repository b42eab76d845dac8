-- A record's line and line 1 at a place of a text, from what the readers of numbers and bytes say there: number and
-- tab, flag and tab, exposure and LF make up the line, and where one of them fails no such line stands there. Assumes
-- nothing.
use mathlib.Core.Path.{◌≡◌, refl, ap, sym, ◌∙◌}
use mathlib.Core.Bool.{Bool, true, false, cond, ◌||◌}
use mathlib.Core.List.{List, ◌∷◌, ◌++◌, append_assoc}
use Prim.Native.Nat.{ℕ, ◌+◌, ◌^◌, ◌≤◌, ◌<◌}
use native.Mathlib.Nat.{add-zero}
use native.Mathlib.Numerals.{add-one}
use native.Mathlib.Omega.{arith}
use lib.Dec.{eqb, ltb}
use lib.ListN.{length, get_or, drop, length-drop}
use lib.Seq.{drop-append_seam, drop-cons, drop-drop, get_or-drop}
use borrow.Author.Tests.{eq-eqb, eqb-true, lt-ltb, ltb-true}
use Rattle.truth.proofs.Laws.{and-true, true≢false}
use Rattle.sample_items.specs.Limits.{longest_time}
use Rattle.decimal.specs.Decimal.{digits_of, is_digit, longest, zero_byte}
use Rattle.decimal.specs.Field.{field_text, line_feed, tab}
use Rattle.decimal.specs.Leading.{leading, leading_at, stands_at}
use Rattle.decimal.proofs.Leading.{leading_is, leads_number, led}
use Rattle.decimal.proofs.Text.{all_digits_lem, digits_value, number_digits, value_digits}
use Rattle.sheet_line.specs.Form.{begins, standard_start}
use Rattle.sheet_line.proofs.Fields.{begins_with}
use Rattle.sheet_line.proofs.Theorems.{begins_itself}
use Rattle.sheet_line.specs.Texts.{entry_text, head_text}
use Rattle.sheet_records.proofs.Puts.{line_parts}
use Rattle.sheet_records.specs.Pass.{EntryHere, ExposureAt, ExposureHere, HeadOf}
use Rattle.std.specs.Prelude.{Some, None}
use Rattle.truth.proofs.Answers.{none_not_some, same_first, same_second, same_some}

-- ---- a number and a byte at a place, and the text from there on
module _ (s : List ℕ) (at : ℕ) where
  pub lead_bytes : (v end : ℕ) → leading_at s at ≡ Some (v, end) → drop at s ≡ digits_of v ++ drop end s
  lead_bytes v end e =
      let l = leads_number s at v end e in
      let digits : digits_of v ≡ leading (drop at s) = ap digits_of l.value ∙ digits_value (leading (drop at s)) l.number in
      (led (drop at s)).parts ∙ rw (digits, l.place, drop-drop)

  lead_back : (v b : ℕ) (rest : List ℕ) → v < 10 ^ longest → is_digit b ≡ false → drop at s ≡ digits_of v ++ (b ∷ rest)
      → (leading_at s at ≡ Some (v, at + length (digits_of v))) × (drop (at + length (digits_of v)) s ≡ b ∷ rest)
  unfolding leading_at
  lead_back v b rest small other e =
      let is : leading (drop at s) ≡ digits_of v = ap leading e ∙ leading_is (digits_of v) (b ∷ rest) (all_digits_lem v) other in
      (rw (is, number_digits v small, value_digits v), rw (← drop-drop (length (digits_of v)) at s, e) (drop-append_seam (digits_of v) (b ∷ rest)))

  pub stand_bytes : (b : ℕ) → stands_at s at b ≡ true → (drop at s ≡ b ∷ drop (at + 1) s) × (at < length s)
  stand_bytes b e =
      let (inside, byte) = and-true (ltb at (length s)) (eqb (get_or s at 0) b) e in
      let within = ltb-true at (length s) inside in
      (rw (add-one, drop-cons s at 0 within, eqb-true (get_or s at 0) b byte), within)

  stand_back : (b : ℕ) (rest : List ℕ) (next : ℕ) → next ≡ at + 1 → drop at s ≡ b ∷ rest → (stands_at s at b ≡ true) × (drop next s ≡ rest)
  stand_back b rest next after e =
      let inside : at < length s = omega (arith, ap length e, length-drop at s) in
      let byte : get_or s at 0 ≡ b = rw (← add-zero at, ← get_or-drop) (ap (λ (l : List ℕ). get_or l 0 0) e) in
      (rw (lt-ltb at (length s) inside, eq-eqb (get_or s at 0) b byte), rw after (sym (drop-drop 1 at s) ∙ ap (drop 1) e))

pub flag_stands : (s : List ℕ) (at : ℕ) {one zero : Bool} → one ≡ stands_at s at (zero_byte + 1) → (one || zero) ≡ true → zero ≡ stands_at s at zero_byte
    → stands_at s at (zero_byte + cond one 1 0) ≡ true
flag_stands s at {one = true} e some f = sym e
flag_stands s at {one = false} e some f = sym f ∙ some

-- ---- a record's line
module _ (s : List ℕ) (at due : ℕ) where
  -- what a record's line there comes to
  record Stands (f : Bool) (t : ℕ) : Type 0 where
    end : ℕ
    feed : ℕ
    number : leading_at s at ≡ Some (due, end)
    first : stands_at s end tab ≡ true
    flag : stands_at s (end + 1) (zero_byte + cond f 1 0) ≡ true
    second : stands_at s (end + 2) tab ≡ true
    rest : List ℕ
    exposure : drop (end + 3) s ≡ digits_of t ++ (line_feed ∷ rest)
    place : feed ≡ end + 3 + length (leading (drop (end + 3) s))
    last : stands_at s feed line_feed ≡ true

  stands : (f : Bool) (t : ℕ) (rest : List ℕ) → due < 10 ^ longest → drop at s ≡ entry_text due (cond f 1 0) t ++ rest → Stands f t
  stands f t rest small e =
      let parts : drop at s ≡ digits_of due ++ (tab ∷ ((zero_byte + cond f 1 0) ∷ (tab ∷ (digits_of t ++ (line_feed ∷ rest))))) = e ∙ ap (λ l. l ++ rest) (line_parts due f t) ∙ simp append_assoc in
      let (number, after) = lead_back s at due tab _ small refl parts in
      let end = at + length (digits_of due) in
      let (first, flags) = stand_back s end tab _ (end + 1) refl after in
      let (flag, tabs) = stand_back s (end + 1) (zero_byte + cond f 1 0) _ (end + 2) (omega arith) flags in
      let (second, digits) = stand_back s (end + 2) tab _ (end + 3) (omega arith) tabs in
      let is : leading (drop (end + 3) s) ≡ digits_of t = ap leading digits ∙ leading_is (digits_of t) (line_feed ∷ rest) (all_digits_lem t) refl in
      let feeds : drop (end + 3 + length (digits_of t)) s ≡ line_feed ∷ rest = sym (drop-drop (length (digits_of t))
      (end + 3) s) ∙ ap (drop (length (digits_of t))) digits ∙ drop-append_seam (digits_of t) (line_feed ∷ rest) in
      let (last, after_it) = stand_back s (end + 3 + length (digits_of t)) line_feed rest _ refl feeds in
      record {
        end = end;
        feed = end + 3 + length (digits_of t);
        number = number;
        first = first;
        flag =
            flag;
        second = second;
        rest = rest;
        exposure = digits;
        place = ap (λ (l : List ℕ). end + 3 + length l)
            (sym is);
        last = last;
      }

  abbrev NoEntry : Type 0
  NoEntry = (f : Bool) (t : ℕ) (rest : List ℕ) → due < 10 ^ longest → 1 ≤ t → t ≤ longest_time → ¬ (drop at s ≡ entry_text due (cond f 1 0) t ++ rest)

  none_by : ((f : Bool) (t : ℕ) → ¬ (Stands f t)) → NoEntry
  none_by fails f t rest small low high e = fails f t (stands f t rest small e)

  pub no_number : leading_at s at ≡ None → NoEntry
  no_number e = none_by (λ f t p. none_not_some (sym e ∙ p.number))

  module _ (n end : ℕ) (number : leading_at s at ≡ Some (n, end)) where
    same_end : {f : Bool} {t : ℕ} (p : Stands f t) → (n ≡ due) × (p.end ≡ end)
    same_end p =
        let e : ◌≡◌ {A = ℕ × ℕ} (n, end) (due, p.end) = same_some (sym number ∙ p.number) in
        (same_first e, sym (same_second e))

    pub other_number : ¬ (n ≡ due) → NoEntry
    other_number h = none_by (λ f t p. h (same_end p).0)

    pub no_tab : stands_at s end tab ≡ false → NoEntry
    no_tab e = none_by (λ f t p. true≢false (sym (rw (same_end p).1 at p.first) ∙ e))

    pub no_flag : stands_at s (end + 1) (zero_byte + 1) ≡ false → stands_at s (end + 1) zero_byte ≡ false → NoEntry
    no_flag one zero = none_by flags
      where
        flags : (f : Bool) (t : ℕ) → ¬ (Stands f t)
        flags true t p = true≢false (sym (rw (same_end p).1 at p.flag) ∙ one)
        flags false t p = true≢false (sym (rw (same_end p).1 at p.flag) ∙ zero)

    pub no_second : stands_at s (end + 2) tab ≡ false → NoEntry
    no_second e = none_by (λ f t p. true≢false (sym (rw (same_end p).1 at p.second) ∙ e))

    pub no_exposure : ExposureAt s (end + 3) None → NoEntry
    unfolding ExposureAt
    no_exposure e f t rest small low high h =
        let p = stands f t rest small h in
        e t line_feed p.rest low high refl (rw (same_end p).1 at p.exposure)

    module _ (feed : ℕ) (x : ExposureHere s (end + 3) feed) where
      same_feed : {f : Bool} {t : ℕ} (p : Stands f t) → p.feed ≡ feed
      same_feed p = p.place ∙ rw (same_end p).1 (sym x.place)

      pub no_feed : stands_at s feed line_feed ≡ false → NoEntry
      no_feed e = none_by (λ f t p. true≢false (sym (rw (same_feed p) at p.last) ∙ e))

      pub entry_here : (f : Bool) → n ≡ due → stands_at s end tab ≡ true → stands_at s (end + 1) (zero_byte + cond f 1 0) ≡ true → stands_at s (end + 2) tab ≡ true → stands_at s feed line_feed ≡ true
          → EntryHere s at due f (feed + 1)
      entry_here f is first flag second last =
          let a = lead_bytes s at n end number in
          let (b, inside) = stand_bytes s end tab first in
          let (c, _) = stand_bytes s (end + 1) (zero_byte + cond f 1 0) flag in
          let (d, _) = stand_bytes s (end + 2) tab second in
          let e = x.bytes in
          let (g, within) = stand_bytes s feed line_feed last in
          let first-end = (leads_number s at n end number).place in
          let two : end + 1 + 1 ≡ end + 2 = omega arith in
          let three : end + 2 + 1 ≡ end + 3 = omega arith in
          let t = x.exposure in
          let whole : entry_text due (cond f 1 0) t ++ drop (feed + 1) s ≡ digits_of due ++
          (tab ∷ ((zero_byte + cond f 1 0) ∷ (tab ∷ (digits_of t ++ (line_feed ∷ drop (feed + 1) s))))) =
          ap (λ (l : List ℕ). l ++ drop (feed + 1) s) (line_parts due f t) ∙ simp append_assoc in
          record {
            exposure = t;
            starts = record {
              bytes = a ∙ rw (is, b, c, two, d, three, e, g) (sym whole);
              further = omega (arith, first-end, x.place);
              within = omega (arith, within);
            };
            low = x.low;
            high =
                x.high;
          }

-- ---- line 1
module _ (s : List ℕ) where
  record Opens (q : ℕ) : Type 0 where
    feed : ℕ
    word : begins standard_start s ≡ true
    number : leading_at s 9 ≡ Some (q, feed)
    last : stands_at s feed line_feed ≡ true

  opens : (q : ℕ) (rest : List ℕ) → q < 10 ^ longest → s ≡ head_text q ++ rest → Opens q
  unfolding field_text
  opens q rest small e =
      let parts : s ≡ standard_start ++ (digits_of q ++ (line_feed ∷ rest)) = e ∙ simp append_assoc in
      let after_it : drop 9 s ≡ digits_of q ++ (line_feed ∷ rest) = ap (drop 9) parts in
      let (number, feeds) = lead_back s 9 q line_feed rest small refl after_it in
      let (last, _) = stand_back s (9 + length (digits_of q)) line_feed rest _ refl feeds in
      record { feed = 9 + length (digits_of q); word = rw parts (begins_itself standard_start (digits_of q ++ (line_feed ∷ rest))); number = number; last = last }

  abbrev NoHead : Type 0
  NoHead = (q : ℕ) (rest : List ℕ) → q < 10 ^ longest → ¬ (s ≡ head_text q ++ rest)

  pub no_word : begins standard_start s ≡ false → NoHead
  no_word e q rest small h = true≢false (sym (opens q rest small h).word ∙ e)

  pub no_standard : leading_at s 9 ≡ None → NoHead
  no_standard e q rest small h = none_not_some (sym e ∙ (opens q rest small h).number)

  module _ (v feed : ℕ) (number : leading_at s 9 ≡ Some (v, feed)) where
    pub no_end : stands_at s feed line_feed ≡ false → NoHead
    no_end e q rest small h =
        let o = opens q rest small h in
        let same : ◌≡◌ {A = ℕ × ℕ} (v, feed) (q, o.feed) = same_some (sym number ∙ o.number) in
        let place : o.feed ≡ feed = sym (same_second same) in
        true≢false (sym (rw place at o.last) ∙ e)

    pub head_here : begins standard_start s ≡ true → stands_at s feed line_feed ≡ true → HeadOf s (Some (v, feed + 1))
    unfolding HeadOf field_text
    head_here word last =
        let a = begins_with standard_start s word in
        let b = lead_bytes s 9 v feed number in
        let (c, within) = stand_bytes s feed line_feed last in
        let l = leads_number s 9 v feed number in
        let whole : head_text v ++ drop (feed + 1) s ≡ standard_start ++ (digits_of v ++ (line_feed ∷ drop (feed + 1) s)) = simp append_assoc in
        (record { bytes = a ∙ ap (λ (t : List ℕ). standard_start ++ t) (b ∙ ap (λ (t : List ℕ). digits_of v ++ t) c) ∙ sym whole; further = omega arith; within = omega (arith, within) }, l.small)
