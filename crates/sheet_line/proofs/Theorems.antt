-- A sheet's lines and results do the same. A line that is taken is a record number, a flag and an exposure, and any
-- result with that failure and that exposure enters to the same campaign (`line_results`); the line of a record that
-- was ended is never malformed, and comes to what entering its result answers, refusals and all (`result_line`). So is
-- line 1 of a standard never malformed, and comes to what opening answers (`standard_back`). Assumes nothing.
use Prim.Native.Nat.{ℕ, ◌+◌, ◌-◌, ◌^◌, ◌≤◌, ◌<◌}
use mathlib.Core.Path.{◌≡◌, refl, ap, ◌∙◌}
use mathlib.Core.Bool.{Bool, true, false, cond}
use mathlib.Core.List.{List, [], ◌∷◌, ◌++◌, append_assoc, append-nil}
use native.Mathlib.Omega.{arith}
use lib.Dec.{eqb, ltb}
use lib.ListN.{length, drop, length-append}
use lib.Seq.{drop-append-add, drop-append_seam, get_or-append_seam}
use native.Mathlib.Nat.{add_assoc, zero-add}
use borrow.Author.Tests.{le-leb, le-ltb, eq-eqb, ne_eqb}
use Rattle.truth.proofs.Laws.{holds, past}
use Rattle.record_state.specs.declared.Record.{Record}
use Rattle.sample_items.specs.Limits.{longest_time}
use Rattle.record_end.specs.Result.{ending, outcome_of}
use Rattle.record_end.specs.declared.RecordResult.{RecordResult}
use Rattle.record_end.proofs.Given.{given_bounds}
use Rattle.decimal.specs.Decimal.{digits_of, longest}
use Rattle.decimal.specs.Field.{tab, line_feed, field_text}
use Rattle.sheet_line.specs.Field.{is_end, ends_here}
use Rattle.sheet_line.specs.declared.Field.TheVariants.{Number}
use Rattle.sheet_line.proofs.Back.{read_back}
use Rattle.decimal.proofs.Text.{field_few}
use Rattle.campaign_state.specs.declared.Campaign.{Campaign}
use Rattle.campaign_state.specs.Answers.{entering, opened}
use Rattle.campaign_state.specs.State.{sound}
use Rattle.campaign_state.proofs.Relations.{kept_from}
use Rattle.sheet_line.specs.declared.Sheet.{Sheet}
use Rattle.sheet_line.specs.declared.Sheet.TheVariants.{Fresh, Open}
use Rattle.sheet_line.specs.Form.{begins, longest_sheet_line, ends_line, is_sheet_line, standard_start}
use Rattle.sheet_line.specs.Texts.{entry_text, head_text}
use Rattle.sheet_line.proofs.Columns.{record_few}
use Rattle.sheet_line.specs.Line.{ended_by, field_then, line_after, outcome, record_line, standard_line, starts_with, stepping, telling, line_outcome}
use Rattle.sheet_line.proofs.Entries.{Entry, record_says, says_next}
use Rattle.std.specs.Prelude.{Ok}
use Rattle.truth.proofs.Answers.{err_not_ok}

-- what a line that is taken says
pub line_enters : (c : Campaign) (line : List ℕ) (s : Sheet) → sound c ≡ true → stepping (Open c) line ≡ Ok s → Entry c line s
unfolding stepping
line_enters c line s g e = says_next (record_says _ c line (record_few (c.records + 1) line)) (rw g at e)

-- a record that a line tells of is entered by its outcome
module _ (c : Campaign) (f : Bool) (t : ℕ) where
  pub telling_enters : 1 ≤ t → t ≤ longest_time → telling c f t ≡ entering c (line_outcome f t)
  unfolding telling
  telling_enters low high = rw (ne_eqb t 0 (λ e. omega arith), le-ltb longest_time t high)

  pub told_entered : (d : Campaign) → telling c f t ≡ Ok d → entering c (line_outcome f t) ≡ Ok d
  unfolding telling
  told_entered d e = (past (ltb longest_time t) err_not_ok (past (eqb t 0) err_not_ok e).1).1

-- and so is any result with that failure and that exposure
pub line_results : (c : Campaign) (line : List ℕ) (s : Sheet) (e : Entry c line s) (x : RecordResult) → outcome_of x
    ≡ line_outcome (eqb e.flag 1) e.exposure → entering c (outcome_of x) ≡ Ok e.after
line_results c line s e x o = rw o (told_entered c (eqb e.flag 1) e.exposure e.after e.taken)

-- ---- a field that was written reads back
field_back : (before : List ℕ) (v end : ℕ) (after : List ℕ) → v < 10 ^ longest → is_end end ≡ true
    → field_then end (before ++ (field_text v end ++ after)) (length before) ≡ Number v (length before + length (field_text v end))
unfolding field_then ended_by starts_with field_text ends_here
field_back before v end after h e =
    let text = before ++ (digits_of v ++ (end ∷ after)) in
    let after_it : drop (length before + length (digits_of v)) text ≡ end ∷ after =
    drop-append-add before (digits_of v ++ (end ∷ after)) (length (digits_of v)) ∙ drop-append_seam (digits_of v) (end ∷ after)
    in
    rw (append_assoc (digits_of v) (end ∷ []) after, read_back before (end ∷ after) v h e, after_it, eq-eqb end end refl, length-append)
    (ap (Number v) (add_assoc (length before) (length (digits_of v)) 1))

-- a line's last byte
last_byte : (text : List ℕ) → ends_line (text ++ (line_feed ∷ [])) ≡ true
last_byte text =
    let place : length (text ++ (line_feed ∷ [])) - 1 ≡ length text = rw length-append (omega arith) in
    rw (place, get_or-append_seam text line_feed [] 0)

-- ---- the line of a record
module _ (n f t : ℕ) (hn : n < 10 ^ longest) (hf : f < 10 ^ longest) (ht : t < 10 ^ longest) where
  a : List ℕ
  a = field_text n tab

  b : List ℕ
  b = field_text f tab

  bytes : List ℕ
  bytes = entry_text n f t

  size : length bytes ≡ length a + length b + length (field_text t line_feed)
  unfolding a b bytes
  size = simp length-append (omega arith)

  first : field_then tab bytes 0 ≡ Number n (length a)
  unfolding a bytes
  first = rw zero-add at (field_back [] n tab (field_text f tab ++ field_text t line_feed) hn refl)

  second : field_then tab bytes (length a) ≡ Number f (length a + length b)
  unfolding a b bytes
  second = field_back (field_text n tab) f tab (field_text t line_feed) hf refl

  third_ends : field_then line_feed bytes (length a + length b) ≡ Number t (length a + length b + length (field_text t line_feed))
  unfolding a b bytes
  third_ends =
      rw (append-nil (field_text t line_feed), append_assoc (field_text n tab) (field_text f tab) (field_text t line_feed), length-append) at
      (field_back (field_text n tab ++ field_text f tab) t line_feed [] ht refl)

  third : field_then line_feed bytes (length a + length b) ≡ Number t (length bytes)
  third = rw size third_ends

  ends : ends_line bytes ≡ true
  unfolding bytes field_text
  ends =
      rw (← append_assoc (field_text f tab) (digits_of t) (line_feed ∷ []), ← append_assoc (field_text n tab) (field_text f tab ++ digits_of t) (line_feed ∷ []))
      (last_byte (field_text n tab ++ (field_text f tab ++ digits_of t)))

  short : length bytes ≤ longest_sheet_line
  unfolding a b
  short = omega (arith, size, field_few n tab 11 hn, field_few f tab 11 hf, field_few t line_feed 11 ht)

  line-is : is_sheet_line bytes ≡ true
  line-is = rw (le-leb (length bytes) longest_sheet_line short) ends

pub line_back : (c : Campaign) (flag exposure : ℕ) → sound c ≡ true → flag ≤ 1 → exposure < 10 ^ longest
    → stepping (Open c) (entry_text (c.records + 1) flag exposure)
    ≡ outcome (line_after c) (telling c (eqb flag 1) exposure)
unfolding stepping record_line bytes a b
line_back c flag exposure g h k =
    let n = c.records + 1 in
    let hn : n < 10 ^ longest = omega (arith, (kept_from c (holds g)).records) in
    let hf : flag < 10 ^ longest = omega arith in
    rw (
      g,
      line-is n flag exposure hn hf k,
      first n flag exposure hn hf k,
      second n flag exposure hn hf k,
      third n flag exposure hn hf k,
      eq-eqb n n refl,
      le-leb flag 1 h,
      eq-eqb (length (entry_text n flag exposure)) (length (entry_text n flag exposure)) refl,
    )

-- ---- line 1 of a standard
pub begins_itself : (word rest : List ℕ) → begins word (word ++ rest) ≡ true
unfolding begins
begins_itself [] rest = refl
begins_itself (w ∷ word) rest = rw (eq-eqb w w refl, begins_itself word rest)

pub standard_back : (q : ℕ) → q < 10 ^ longest → stepping Fresh (head_text q) ≡ outcome 1 (opened q)
unfolding stepping standard_line field_text
standard_back q h =
    let text = head_text q in
    let size : length text ≡ length standard_start + length (field_text q line_feed) = length-append standard_start (field_text q line_feed) in
    let field : field_then line_feed text (length standard_start) ≡ Number q (length text) = rw (append-nil (field_text q line_feed), ← size) at (field_back standard_start q line_feed [] h refl) in
    let short : length text ≤ longest_sheet_line = omega (arith, size, field_few q line_feed 11 h) in
    let ended : ends_line text ≡ true = rw (← append_assoc standard_start (digits_of q) (line_feed ∷ [])) (last_byte (standard_start ++ digits_of q)) in
    rw (le-leb (length text) longest_sheet_line short, ended, begins_itself standard_start (field_text q line_feed), field, eq-eqb (length text) (length text) refl)

-- a flag is 1 for failed, else 0
pub flag_of : (b : Bool) → (eqb (cond b 1 0) 1 ≡ b) × (cond b 1 0 ≤ 1)
flag_of true = (refl, omega arith)
flag_of false = (refl, omega arith)

pub result_line : (r : Record) (x : RecordResult) (c : Campaign) → sound c ≡ true → ending r ≡ Ok x
    → stepping (Open c) (entry_text (c.records + 1) (cond (outcome_of x).failed 1 0) x.exposure)
    ≡ outcome (line_after c) (entering c (outcome_of x))
result_line r x c g e =
    let f = (outcome_of x).failed in
    let b = given_bounds r x e in
    line_back c (cond f 1 0) x.exposure g (flag_of f).1 (omega (arith, b.1))
    ∙ ap (outcome (line_after c)) (ap (λ y. telling c y x.exposure) (flag_of f).0 ∙ telling_enters c f x.exposure b.0 b.1)
