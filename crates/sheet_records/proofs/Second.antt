-- The second pass over a clean sheet: what stands at the places where a record's flag and exposure are, and how many
-- digits a record number has. `Putting`: the lines that are left read on from the campaign so far, and what they say
-- goes into the places from here on. Assumes nothing.
use mathlib.Core.Path.{◌≡◌, refl, ap, sym, ◌∙◌}
use mathlib.Core.Bool.{Bool, true, false, cond}
use mathlib.Core.List.{List, [], ◌∷◌, ◌++◌, append_assoc, map}
use Prim.Native.Nat.{ℕ, suc, ◌+◌, ◌*◌, ◌^◌, ◌≤◌, ◌<◌}
use native.Mathlib.Nat.{add-zero}
use native.Mathlib.Numerals.{add-one}
use native.Mathlib.Omega.{arith}
use lib.Dec.{eqb}
use lib.IntN.{ℤ}
use lib.ListN.{length, drop, get_or, set, take, drop_of_length-le, length-append, length-drop, length-set}
use lib.Seq.{drop-append_seam, drop-drop, get_or-drop, sets, take_all}
use borrow.Author.Tests.{eqb-false, eqb-true}
use Rattle.truth.proofs.Cases.{by_test}
use Rattle.truth.proofs.Laws.{holds}
use Rattle.sample_items.specs.Limits.{longest_time}
use Rattle.campaign_state.specs.declared.Campaign.{Campaign}
use Rattle.campaign_state.specs.State.{sound}
use Rattle.campaign_state.proofs.Relations.{kept_from}
use Rattle.decimal.specs.Decimal.{digits_of, leading_digits, longest, value_of, zero_byte}
use Rattle.decimal.specs.Field.{line_feed, tab}
use Rattle.decimal.specs.Leading.{leading}
use Rattle.decimal.specs.Lines.{lines_of}
use Rattle.decimal.proofs.Leading.{leading_front, leading_is}
use Rattle.decimal.proofs.Text.{all_digits_lem, digits_above, digits_below, value_digits}
use Rattle.degrees.specs.Degrees.{signed}
use Rattle.sheet_line.specs.declared.Sheet.TheVariants.{Open}
use Rattle.sheet_line.proofs.Theorems.{flag_of}
use Rattle.sheet_text.specs.declared.Reading.TheVariants.{Read}
use Rattle.text.specs.Pieces.{joined}
use Rattle.sheet_text.specs.Sheet.{reading_sheet}
use Rattle.sheet_line.specs.Texts.{entry_text}
use Rattle.sheet_records.proofs.Puts.{line_parts}
use Rattle.sheet_records.specs.Pass.{CleanFrom, flag_at, run_end, run_value}
use Rattle.sheet_records.specs.Records.{record_in, records_of}
use Rattle.sheet_records.proofs.Clean.{first_line}
use Rattle.sheet_records.proofs.Lines.{entry_lines, entry_says, lines_joined}

-- ---- a number of so many digits, below the limit of ten to that power
pub record Wide (v width limit : ℕ) : Type 0 where
  pub below : ℕ
  pub is : width ≡ suc below
  pub top : limit ≡ 10 ^ suc below
  pub low : 10 ^ below ≤ v
  pub high : v < limit
  pub few : width ≤ v

pub wide_one : Wide 1 1 10
wide_one = record { below = 0; is = refl; top = refl; low = omega arith; high = omega arith; few = omega arith }

pub wide_digits : {v width limit : ℕ} → Wide v width limit → length (digits_of v) ≡ width
wide_digits {v} w = omega (arith, w.is, digits_above w.below v w.low, digits_below w.below v (omega (arith, w.high, w.top)))

pub wide_room : {v width limit : ℕ} → Wide v width limit → limit ≤ 10 * v
wide_room w = omega (arith, w.top, w.low)

pub wide_on : {v width limit : ℕ} → Wide v width limit → Wide (v + 1) (cond (eqb (v + 1) limit) (width + 1) width) (cond (eqb (v + 1) limit) (limit * 10) limit)
wide_on {v} {width} {limit} w =
    by_test (eqb (v + 1) limit)
    (λ e. let full = eqb-true (v + 1) limit e in rw e (record {
      below = suc w.below;
      is = omega (arith, w.is);
      top = omega (arith, w.top);
      low = omega (arith, w.top);
      high = omega arith;
      few = omega (arith, w.few);
    }))
    (λ e. let more = eqb-false (v + 1) limit e in rw e (record {
      below = w.below;
      is = w.is;
      top = w.top;
      low =
          omega (arith, w.low);
      high = omega (arith, more, w.high);
      few = omega (arith, w.few);
    }))

-- ---- a record's line at a place: its flag, its exposure, and the place after it
pub record Stands (s : List ℕ) (at width : ℕ) (f : Bool) (t : ℕ) (rest : List ℕ) : Type 0 where
  pub inside : at + width + 3 ≤ length s
  pub flag : flag_at s (at + width + 1) ≡ f
  pub exposure : run_value s (at + width + 3) ≡ t
  pub after : drop (run_end s (at + width + 3) + 1) s ≡ rest
  pub further : at < run_end s (at + width + 3) + 1
  pub within : run_end s (at + width + 3) + 1 ≤ length s

-- what stands some bytes on
on : (s : List ℕ) (at : ℕ) (front rest : List ℕ) (next : ℕ) → drop at s ≡ front ++ rest → next ≡ at + length front → drop next s ≡ rest
on s at front rest next e n = rw (n, ← drop-drop (length front) at s, e) (drop-append_seam front rest)

pub stands : (s : List ℕ) (at due : ℕ) (f : Bool) (t : ℕ) (rest : List ℕ) (width : ℕ) → length (digits_of due) ≡ width → t < 10 ^ longest
    → drop at s ≡ entry_text due (cond f 1 0) t ++ rest → Stands s at width f t rest
stands s at due f t rest width w short e =
    let F = zero_byte + cond f 1 0 in
    let after_it = digits_of t ++ (line_feed ∷ rest) in
    let parts : drop at s ≡ digits_of due ++ (tab ∷ (F ∷ (tab ∷ after_it))) = e ∙ ap (λ (l : List ℕ). l ++ rest) (line_parts due f t) ∙ simp append_assoc in
    let tabs = on s at (digits_of due) (tab ∷ (F ∷ (tab ∷ after_it))) (at + width) parts (omega (arith, w)) in
    let flags = on s (at + width) (tab ∷ []) (F ∷ (tab ∷ after_it)) (at + width + 1) tabs refl in
    let byte : get_or s (at + width + 1) 0 ≡ F = rw (← add-zero (at + width + 1), ← get_or-drop) (ap (λ (l : List ℕ). get_or l 0 0) flags) in
    let digits = on s (at + width) (tab ∷ F ∷ tab ∷ []) after_it (at + width + 3) tabs refl in
    let is : leading_digits longest (drop (at + width + 3) s) ≡ digits_of t =
    leading_front longest (drop (at + width + 3) s) ∙ ap (λ (l : List ℕ). take longest (leading l)) digits ∙
    ap (take longest) (leading_is (digits_of t) (line_feed ∷ rest) (all_digits_lem t) refl) ∙ take_all longest
    (digits_of t) (digits_below 11 t short)
    in
    let end : run_end s (at + width + 3) ≡ at + width + 3 + length (digits_of t) = ap (λ (l : List ℕ). at + width + 3 + length l) is in
    let last = on s (at + width + 3) (digits_of t) (line_feed ∷ rest) (run_end s (at + width + 3)) digits end in
    let size = length-drop (at + width + 3) s in
    let bytes = ap length digits ∙ length-append (digits_of t) (line_feed ∷ rest) in
    record {
      inside = omega (arith, size, bytes);
      flag = ap (λ (b : ℕ). eqb b (zero_byte + 1)) byte ∙ flag_byte f;
      exposure = ap value_of is ∙ value_digits t;
      after = on s (run_end s (at + width + 3)) (line_feed ∷ []) rest (run_end s (at + width + 3) + 1) last refl;
      further = omega (arith, end);
      within = omega (arith, end, size, bytes);
    }
  where
    flag_byte : (f : Bool) → eqb (zero_byte + cond f 1 0) (zero_byte + 1) ≡ f
    flag_byte true = refl
    flag_byte false = refl

-- ---- on the way
pub record Putting (text : List ℕ) (before places : List ℤ) (at count width limit : ℕ) : Type 0 where
  pub so_far : Campaign
  pub end : Campaign
  pub good : sound so_far ≡ true
  pub records : so_far.records ≡ count
  pub reads : (reading_sheet false (lines_of (drop at text)) (Open so_far)).end ≡ Read end
  pub puts : sets places count (map record_in (lines_of (drop at text))) ≡ sets before 0 (records_of text)
  pub size : length places ≡ length before
  pub wide : Wide (count + 1) width limit

pub put-start : (text : List ℕ) (begin : ℕ) (before : List ℤ) → CleanFrom text begin → Putting text before before begin 0 1 10
put-start text begin before c =
    record { so_far = c.start; end = c.end; good = c.good; records = c.none; reads = c.reads; puts = ap (sets before 0) (sym c.says); size = refl; wide = wide_one }

module _ {text : List ℕ} {before places : List ℤ} {at count width limit : ℕ} (p : Putting text before places at count width limit) where
  pub few : count ≤ 100000
  few = omega (arith, p.records, (kept_from p.so_far (holds p.good)).records)

  pub put-done : length text ≤ at → places ≡ sets before 0 (records_of text)
  unfolding lines_of
  put-done past = ap (λ (l : List ℕ). sets places count (map record_in (lines_of l))) (sym (drop_of_length-le text past)) ∙ p.puts

  -- the record that is due
  pub record Due : Type 0 where
    pub failed : Bool
    pub exposure : ℕ
    pub rest : List ℕ
    pub after : Campaign
    pub short : exposure ≤ longest_time
    pub stands : Stands text at width failed exposure rest
    pub good : sound after ≡ true
    pub records : after.records ≡ count + 1
    pub reads : (reading_sheet false (lines_of rest) (Open after)).end ≡ Read p.end
    pub puts : map record_in (lines_of (drop at text)) ≡ signed failed exposure ∷ map record_in (lines_of rest)

  pub due : at < length text → Due
  unfolding joined
  due more = go (lines_of (drop at text)) refl p.reads
    where
      go : (lines : List (List ℕ)) → lines_of (drop at text) ≡ lines → (reading_sheet false lines (Open p.so_far)).end ≡ Read p.end → Due
      go [] are e = absurd (omega (arith, ap length (sym (lines_joined (drop at text)) ∙ ap joined are), length-drop at text))
      go (line ∷ lines) are e =
          let o = first_line p.so_far line lines p.end p.good e in
          let bytes = o.bytes ∙ ap (λ (n : ℕ). entry_text (n + 1) (cond o.failed 1 0) o.exposure) p.records in
          let parts : drop at text ≡ entry_text (count + 1) (cond o.failed 1 0) o.exposure ++ joined lines =
          sym (lines_joined (drop at text)) ∙ ap joined are ∙ ap (λ (l : List ℕ). l ++ joined lines) bytes in
          let again : line ∷ lines ≡ entry_text (count + 1) (cond o.failed 1 0) o.exposure ∷ lines_of
          (joined lines) = sym are ∙ ap lines_of parts ∙ entry_lines (count + 1) (cond o.failed 1 0)
          o.exposure (joined lines) in
          let after_it : lines ≡ lines_of (joined lines) = cc (again) in
          let says : record_in line ≡ signed o.failed o.exposure = ap record_in bytes ∙ entry_says (count + 1)
          (cond o.failed 1 0) o.exposure ∙ ap (λ (f : Bool). signed f o.exposure)
          (flag_of o.failed).0 in
          record {
            failed = o.failed;
            exposure = o.exposure;
            rest = joined lines;
            after = o.after;
            short = o.high;
            stands = stands text at (count + 1) o.failed o.exposure (joined lines) width (wide_digits p.wide) (omega (arith, o.high)) parts;
            good = o.good;
            records = o.one_more ∙ ap (λ (n : ℕ). n + 1) p.records;
            reads = ap (λ (l : List (List ℕ)). (reading_sheet false l (Open o.after)).end) (sym after_it) ∙ o.rest;
            puts = ap (map record_in) are ∙ ap (λ (x : ℤ). x ∷ map record_in lines) says ∙ ap (λ (l : List (List ℕ)). signed o.failed o.exposure ∷ map record_in l) after_it;
          }

  pub put_on : (d : Due) {later : List ℤ} {next : ℕ} → later ≡ set places count (signed d.failed d.exposure) → drop next text ≡ d.rest
      → Putting text before later next (count + 1) (cond (eqb (count + 1 + 1) limit) (width + 1) width) (cond (eqb (count + 1 + 1) limit) (limit * 10) limit)
  put_on d {later} {next} stored rest =
      record {
        so_far = d.after;
        end = p.end;
        good = d.good;
        records = d.records;
        reads = ap (λ (l : List ℕ). (reading_sheet false (lines_of l) (Open d.after)).end) rest ∙ d.reads;
        puts = rw (stored, add-one) (ap (λ (l : List ℕ). sets (set places count (signed d.failed d.exposure))
            (suc count) (map record_in (lines_of l))) rest ∙ ap (sets places count) (sym d.puts) ∙ p.puts);
        size = rw stored (length-set places count (signed d.failed d.exposure) ∙ p.size);
        wide = wide_on p.wide;
      }
