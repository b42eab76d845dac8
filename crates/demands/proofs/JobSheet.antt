-- Document 01, "The job sheet", as a whole. What is written for a sheet and how its reading ends are told by its lines
-- alone, as they stand there: a line for each record that is taken, and the campaign of all if all are; else the first
-- line at fault stops it, with 9 exactly if it is absent or not the text that is due there, else with 1, or 4, 3, 5, 6,
-- and the refused line is written last (`ends`, `only`, `nine`). Then demand 1 for the entries of a sheet: a line, a
-- text read, a text run, and the writers of replies; a refusal leaves lent bytes as they stood. The proof goes along
-- the lines: those before lead to where the reading stands (`Leads`), and Refusal9 decides the next. Assumes nothing.
use mathlib.Core.Path.{◌≡◌, ap, refl, sym, ◌∙◌}
use mathlib.Core.Bool.{Bool, cond, false, not, true}
use mathlib.Core.List.{List, [], ◌∷◌, ◌++◌, append_assoc, append-nil}
use mathlib.Core.Logic.{◌⊎◌, inl, inr}
use Prim.Native.Nat.{ℕ, ◌+◌, ◌^◌, ◌≤◌, ◌<◌}
use native.Mathlib.Nat.{zero-add}
use native.Mathlib.Omega.{arith}
use lib.Dec.{eqb, leb}
use lib.ListN.{length, drop, length-append, take}
use Rattle.truth.proofs.Cases.{by_test}
use Rattle.truth.proofs.Laws.{impossible, true≢false}
use Rattle.refusal.specs.declared.Refusal.{Refusal}
use Rattle.refusal.specs.declared.Refusal.TheVariants.{BrokenState, CampaignFull, Item, Line, Room, RowsUsedUp, TooLong, TooShort}
use Rattle.refusal.specs.Numbers.{number_of}
use Rattle.decimal.specs.Decimal.{longest}
use Rattle.decimal.specs.Lines.{lines_of}
use Rattle.campaign_state.specs.declared.Campaign.{Campaign}
use Rattle.campaign_state.specs.State.{empty, entered, sound}
use Rattle.sheet_line.specs.Column.{record_column, standard_column}
use Rattle.sheet_line.specs.Texts.{RecordText, StandardText, entry_text, head_text}
use Rattle.sheet_line.specs.declared.Sheet.{Sheet}
use Rattle.sheet_line.specs.declared.Sheet.TheVariants.{Fresh, Open}
use Rattle.sheet_line.specs.Line.{sound_sheet, stepping}
use Rattle.text.specs.Write.{fits, laid, written}
use Rattle.sheet_reply.specs.Written.{record_left, record_text, record_writing, refused_text, writing_reply}
use Rattle.sheet_text.specs.declared.Reading.{Reading}
use Rattle.sheet_text.specs.declared.Reading.TheVariants.{Read, Stopped, Waiting}
use Rattle.sheet_text.specs.Sheet.{Account, after_step, meaning, prefixed, reading_sheet, reading_end, run_left, running, text_of, waits}
use Rattle.sheet_text.proofs.Steps.{step_led}
use Rattle.demands.proofs.Exactly.{Exactly}
use Rattle.demands.proofs.Demand1.{Decides, First, None, Test, ◌gives◌, decide, decided, end, here, later, not_it}
use Rattle.demands.proofs.Refusal9.{Nine, refusal_9, standard_tests, tell_tests}
use Rattle.demands.proofs.Request10.{request_10}
use Rattle.std.specs.Prelude.{Result, Ok, Err}
use Rattle.truth.proofs.Answers.{same_err, same_ok}

-- ---- the statement
-- what a line says where the reading stands: the tests of what it tells, and where it leads
pub data Says : Sheet → List ℕ → List Test → Sheet → Type 0 where
  standard : (q : ℕ) → q < 10 ^ longest → Says Fresh (head_text q) (standard_tests q) (Open (empty q))
  record_of_lem : (c : Campaign) (flag exposure : ℕ) → flag ≤ 1 → exposure < 10 ^ longest
      → Says (Open c) (entry_text (c.records + 1) flag exposure) (tell_tests c exposure)
      (Open (entered c (eqb flag 1) exposure))

-- the lines so far were all taken, the reading stands here, and this was written: a line for each record that was
-- entered
pub data Leads : List (List ℕ) → Sheet → List ℕ → Type 0 where
  start : Leads [] Fresh []
  on : {before : List (List ℕ)} {s : Sheet} {text line : List ℕ} {ts : List Test} {t : Sheet}
      → Leads before s text → Says s line ts t → None ts → Leads (before ++ (line ∷ [])) t (text ++ text_of t)

-- the line is a text that is due here
abbrev pub Due : Sheet → List ℕ → Type 0
Due Fresh line = StandardText line
Due (Open c) line = RecordText (c.records + 1) line

-- the column at which it is at fault if it is not (Request10)
abbrev pub column_at : Sheet → List ℕ → ℕ
column_at Fresh line = standard_column line
column_at (Open c) line = record_column (c.records + 1) line

-- what was written, then the refused line
abbrev pub stopped : List ℕ → ℕ → ℕ → Refusal → Account
stopped text n k r = record { text = text ++ refused_text n k r; end = Stopped n k r }

-- what is written for a sheet with these lines, and how its reading ends
pub data Ends (lines : List (List ℕ)) : Account → Type 0 where
  clean : (text : List ℕ) (c : Campaign) → Leads lines (Open c) text → Ends lines (record { text = text; end = Read c })
  absent : lines ≡ [] → Ends lines (stopped [] 1 0 (Line 1))
  malformed : (before : List (List ℕ)) (s : Sheet) (text line : List ℕ) (after : List (List ℕ))
      → lines ≡ before ++ (line ∷ after) → Leads before s text → ¬ Due s line
      → Ends lines (stopped text (length before + 1) (column_at s line) (Line (length before + 1)))
  refused : (before : List (List ℕ)) (s : Sheet) (text line : List ℕ) (after : List (List ℕ)) (ts : List Test) (t : Sheet)
      (r : Refusal) → lines ≡ before ++ (line ∷ after) → Leads before s text → Says s line ts t → First ts r
      → Ends lines (stopped text (length before + 1) 0 r)

-- line n is absent, or is not the text that is due there, those before it being taken
pub data Malformed (lines : List (List ℕ)) : ℕ → Type 0 where
  no_line : lines ≡ [] → Malformed lines 1
  not_due : (before : List (List ℕ)) (s : Sheet) (text line : List ℕ) (after : List (List ℕ))
      → lines ≡ before ++ (line ∷ after) → Leads before s text → ¬ Due s line → Malformed lines (length before + 1)

-- the reading stops with 9 at line n
pub record StopsByNine (n : ℕ) (r : Reading) : Type 0 where
  pub column : ℕ
  pub is : r ≡ Stopped n column (Line n)

-- a line, or a reading, is refused by 8
pub record StepEight (answer : Result Sheet (ℕ × ℕ × Refusal)) : Type 0 where
  pub number : ℕ
  pub column : ℕ
  pub is : answer ≡ Err (number, column, BrokenState)

pub record ReadEight (answer : Reading) : Type 0 where
  pub number : ℕ
  pub column : ℕ
  pub is : answer ≡ Stopped number column BrokenState

-- a text is written from a place on: 7 with the bytes needed
abbrev room_tests : List ℕ → ℕ → List ℕ → List Test
room_tests out at text = not (fits out at text) gives Room (length text) ∷ []

pub record JobSheet : Type 0 where
  -- the sheet as a whole
  pub ends : (text : List ℕ) → Ends (lines_of text) (meaning text)
  pub only : (text : List ℕ) (a : Account) → Ends (lines_of text) a → meaning text ≡ a
  pub nine : (text : List ℕ) (n : ℕ) → Exactly (StopsByNine n (meaning text).end) (Malformed (lines_of text) n)
  -- a line: 8 exactly if the campaign is broken, then Refusal9; nothing is lent but the text
  pub line_eight : (s : Sheet) (line : List ℕ) → Exactly (StepEight (stepping s line)) (sound_sheet s ≡ false)
  -- a text read: 8 exactly if the campaign is broken, on no line; a whole sheet comes to its meaning
  pub read_eight : (more : Bool) (text : List ℕ) (s : Sheet)
      → Exactly (ReadEight (reading_end more text s)) (sound_sheet s ≡ false)
  pub read_broken : (more : Bool) (text : List ℕ) (s : Sheet) → sound_sheet s ≡ false
      → reading_end more text s ≡ Stopped 0 0 BrokenState
  pub read_sound : (more : Bool) (text : List ℕ) (s : Sheet) → sound_sheet s ≡ true
      → reading_end more text s ≡ (reading_sheet more (lines_of text) s).end
  pub read_whole : (text : List ℕ) → reading_end false text Fresh ≡ (meaning text).end
  -- a text run: 8, then 7 with the bytes needed; a refusal leaves the lent bytes, and else they start with what is
  -- written
  pub run : (more : Bool) (text : List ℕ) (s : Sheet) (out : List ℕ) → let a = reading_sheet more (lines_of text) s in
      Decides Err
      (not (sound_sheet s) gives BrokenState ∷ (not (leb (length a.text) (length out)) gives Room (length a.text) ∷ []))
      (Ok (a.end, length a.text))
      (running more text s out)
  pub run_kept : (more : Bool) (text : List ℕ) (s : Sheet) (out : List ℕ) (r : Refusal)
      → running more text s out ≡ Err r → run_left more text s out ≡ out
  pub run_left_lem : (more : Bool) (text : List ℕ) (s : Sheet) (out : List ℕ) (e : Reading) (n : ℕ)
      → running more text s out ≡ Ok (e, n) → run_left more text s out ≡ (reading_sheet more (lines_of text) s).text ++ drop n out
  -- a record's line written: 8, then 7; the refused line written: 7
  pub record_written : (c : Campaign) (out : List ℕ) (at : ℕ)
      → Decides Err (not (sound c) gives BrokenState ∷ room_tests out at (record_text c))
      (Ok (at + length (record_text c)))
      (record_writing c out at)
  pub record_kept : (c : Campaign) (out : List ℕ) (at : ℕ) (r : Refusal)
      → record_writing c out at ≡ Err r → record_left c out at ≡ out
  pub record_left_lem : (c : Campaign) (out : List ℕ) (at n : ℕ)
      → record_writing c out at ≡ Ok n → record_left c out at ≡ take at out ++ (record_text c ++ drop n out)
  pub refused_written : (line column : ℕ) (r : Refusal) (out : List ℕ) (at : ℕ) → let text = refused_text line column r in
      Decides Err (room_tests out at text) (Ok (at + length text)) (writing_reply out at text)
  pub refused_kept : (line column : ℕ) (r : Refusal) (out : List ℕ) (at : ℕ) (q : Refusal)
      → writing_reply out at (refused_text line column r) ≡ Err q → written out at (refused_text line column r) ≡ out
  pub refused_left : (line column : ℕ) (r : Refusal) (out : List ℕ) (at n : ℕ) → let text = refused_text line column r in
      writing_reply out at text ≡ Ok n → written out at text ≡ take at out ++ (text ++ drop n out)

-- the line at which the reading stands
abbrev line_at : Sheet → ℕ
line_at Fresh = 1
line_at (Open c) = c.records + 2

none_or_first : (ts : List Test) → None ts ⊎ ((r : Refusal) × First ts r)
none_or_first [] = inl end
none_or_first (t ∷ ts) = by_test t.holds (λ h. inr (t.gives, here h)) (λ h. rest h (none_or_first ts))
  where
    rest : t.holds ≡ false → None ts ⊎ ((r : Refusal) × First ts r) → None (t ∷ ts) ⊎ ((r : Refusal) × First (t ∷ ts) r)
    rest h (inl n) = inl (not_it h n)
    rest h (inr (r, f)) = inr (r, later h f)

-- ---- a line where the reading stands: what is due decides by its tests, and what is not is malformed
says_decides : {s : Sheet} {line : List ℕ} {ts : List Test} {t : Sheet} → sound_sheet s ≡ true → Says s line ts t
    → Decides ((λ a. Err ((line_at s), 0, a))) ts (Ok t) (stepping s line)
says_decides g (standard q few) = refusal_9.first_then q few
says_decides g (record_of_lem c flag exposure f few) = refusal_9.line_then c flag exposure g f few

bad_step : (s : Sheet) (line : List ℕ) → sound_sheet s ≡ true → ¬ Due s line
    → stepping s line ≡ Err (line_at s, column_at s line, Line (line_at s))
bad_step Fresh line g bad =
    let n = (refusal_9.first line).when bad in
    n.is ∙ ap (λ (k : ℕ). Err (1, k, Line 1)) ((request_10.first line).column_told n.column n.is)
bad_step (Open c) line g bad =
    let n = (refusal_9.line c line g).when bad in
    n.is ∙ ap (λ (k : ℕ). Err (c.records + 2, k, Line (c.records + 2))) ((request_10.later c line g).column_told n.column n.is)

due_or_bad : (s : Sheet) (line : List ℕ) → sound_sheet s ≡ true
    → ((ts : List Test) × (t : Sheet) × Says s line ts t) ⊎ (¬ Due s line)
due_or_bad Fresh line g = go (refusal_9.first_either line)
  where
    go : StandardText line ⊎ Nine 1 (stepping Fresh line) → ((ts : List Test) × (t : Sheet) × Says Fresh line ts t) ⊎ (¬ StandardText line)
    go (inl x) = inl (standard_tests x.standard, Open (empty x.standard), rw x.bytes (standard x.standard x.few))
    go (inr n) = inr ((refusal_9.first line).only_if n)
due_or_bad (Open c) line g = go (refusal_9.line_either c line g)
  where
    go : RecordText (c.records + 1) line ⊎ Nine (c.records + 2) (stepping (Open c) line)
        → ((ts : List Test) × (t : Sheet) × Says (Open c) line ts t) ⊎ (¬ RecordText (c.records + 1) line)
    go (inl x) =
        inl (tell_tests c x.exposure, Open (entered c (eqb x.flag 1) x.exposure), rw x.bytes (record_of_lem c x.flag x.exposure x.flag_kept x.few))
    go (inr n) = inr ((refusal_9.line c line g).only_if n)

-- ---- the reading, line by line
one_on : (line : List ℕ) (lines : List (List ℕ)) (s t : Sheet) → stepping s line ≡ Ok t
    → reading_sheet false (line ∷ lines) s ≡ prefixed (text_of t) (reading_sheet false lines t)
unfolding reading_sheet
one_on line lines s t e = ap (λ (x : Result Sheet (ℕ × ℕ × Refusal)). after_step x (reading_sheet false lines)) e

one_stop : (line : List ℕ) (lines : List (List ℕ)) (s : Sheet) {n k : ℕ} {r : Refusal} → stepping s line ≡ Err (n, k, r)
    → reading_sheet false (line ∷ lines) s ≡ stopped [] n k r
unfolding reading_sheet
one_stop line lines s e = ap (λ (x : Result Sheet (ℕ × ℕ × Refusal)). after_step x (reading_sheet false lines)) e

prefixed_twice : (x y : List ℕ) (a : Account) → prefixed x (prefixed y a) ≡ prefixed (x ++ y) a
prefixed_twice x y a = ap (λ (text : List ℕ). record { text = text; end = a.end }) (sym (append_assoc x y a.text))

-- ---- where lines that were taken lead
leads_sound : {lines : List (List ℕ)} {s : Sheet} {text : List ℕ} → Leads lines s text → sound_sheet s ≡ true
leads_sound start = refl
leads_sound (on {before} {s} {text} {line} {ts} {t} l y n) =
    let g = leads_sound l in
    (step_led s line g ((says_decides g y).answers n)).sound

says_next : {s : Sheet} {line : List ℕ} {ts : List Test} {t : Sheet} → Says s line ts t → line_at t ≡ line_at s + 1
says_next (standard q few) = refl
says_next (record_of_lem c flag exposure f few) = omega arith

leads_number : {lines : List (List ℕ)} {s : Sheet} {text : List ℕ} → Leads lines s text → length lines + 1 ≡ line_at s
leads_number start = refl
leads_number (on l y n) = simp length-append (omega (arith, leads_number l, says_next y))

leads_end : {before : List (List ℕ)} {s : Sheet} {text : List ℕ} → Leads before s text → (lines : List (List ℕ))
    → reading_sheet false (before ++ lines) Fresh ≡ prefixed text (reading_sheet false lines s)
leads_end start lines = refl
leads_end (on {before} {s} {text} {line} {ts} {t} l y n) lines =
    ap (λ (ls : List (List ℕ)). reading_sheet false ls Fresh) (append_assoc before (line ∷ []) lines)
    ∙ leads_end l (line ∷ lines)
    ∙ ap (prefixed text) (one_on line lines s t ((says_decides (leads_sound l) y).answers n))
    ∙ prefixed_twice text (text_of t) (reading_sheet false lines t)

fresh_none : {before : List (List ℕ)} {s : Sheet} {text : List ℕ} → Leads before s text → s ≡ Fresh
    → (before ≡ []) × (text ≡ [])
fresh_none start e = (refl, refl)
fresh_none (on l (standard q few) n) e = impossible (cc)
fresh_none (on l (record_of_lem c flag exposure f few) n) e = impossible (cc)

-- ---- how it ends
module _ (all : List (List ℕ)) where
  ends_from : (before lines : List (List ℕ)) (s : Sheet) (text : List ℕ) → Leads before s text → all ≡ before ++ lines
      → Ends all (prefixed text (reading_sheet false lines s))
  unfolding reading_sheet
  ends_from before [] Fresh text l e =
      let (none, nothing) = fresh_none l refl in
      rw nothing (absent (e ∙ append-nil before ∙ none))
  ends_from before [] (Open c) text l e = rw (append-nil text) (clean text c (rw (e ∙ append-nil before) l))
  ends_from before (line ∷ lines) s text l e =
      go
      (λ t more w. ends_from (before ++ (line ∷ [])) lines t more w (e ∙ sym (append_assoc before (line ∷ []) lines)))
      (due_or_bad s line g)
    where
      g : sound_sheet s ≡ true
      g = leads_sound l

      tested : ((t : Sheet) (more : List ℕ) → Leads (before ++ (line ∷ [])) t more → Ends all (prefixed more (reading_sheet false lines t)))
          → (ts : List Test) (t : Sheet) → Says s line ts t → None ts ⊎ ((r : Refusal) × First ts r)
          → Ends all (prefixed text (reading_sheet false (line ∷ lines) s))
      tested rest ts t y (inl n) =
          rw (one_on line lines s t ((says_decides g y).answers n), prefixed_twice text (text_of t) (reading_sheet false lines t))
          (rest t (text ++ text_of t) (on l y n))
      tested rest ts t y (inr (r, f)) =
          rw (one_stop line lines s ((says_decides g y).refuses r f), ← leads_number l)
          (refused before s text line lines ts t r e l y f)

      go : ((t : Sheet) (more : List ℕ) → Leads (before ++ (line ∷ [])) t more → Ends all (prefixed more (reading_sheet false lines t)))
          → ((ts : List Test) × (t : Sheet) × Says s line ts t) ⊎ (¬ Due s line)
          → Ends all (prefixed text (reading_sheet false (line ∷ lines) s))
      go rest (inl (ts, t, y)) = tested rest ts t y (none_or_first ts)
      go rest (inr bad) =
          rw (one_stop line lines s (bad_step s line g bad), ← leads_number l) (malformed before s text line lines e l bad)

  only_end : {a : Account} → Ends all a → reading_sheet false all Fresh ≡ a
  unfolding reading_sheet
  only_end (clean text c l) =
      ap (λ (ls : List (List ℕ)). reading_sheet false ls Fresh) (sym (append-nil all))
      ∙ leads_end l []
      ∙ ap (λ (x : List ℕ). record { text = x; end = Read c }) (append-nil text)
  only_end (absent e) = rw e
  only_end (malformed before s text line after e l bad) =
      rw (e, leads_end l (line ∷ after), one_stop line after s (bad_step s line (leads_sound l) bad), ← leads_number l)
  only_end (refused before s text line after ts t r e l y f) =
      rw (e, leads_end l (line ∷ after), one_stop line after s ((says_decides (leads_sound l) y).refuses r f), ← leads_number l)

-- the refusals that tests give are never 9, nor 8
abbrev small : Refusal → Type 0
small r = ¬ (number_of r ≡ 9) × ¬ (number_of r ≡ 8)

says_small : {s : Sheet} {line : List ℕ} {ts : List Test} {t : Sheet} → Says s line ts t → (r : Refusal) → First ts r → small r
says_small (standard q few) r (here h) = (λ e. omega arith, λ e. omega arith)
says_small (standard q few) r (later a x) = elim x [ ]
says_small (record_of_lem c flag exposure f few) r (here h) = (λ e. omega arith, λ e. omega arith)
says_small (record_of_lem c flag exposure f few) r (later a (here h)) = (λ e. omega arith, λ e. omega arith)
says_small (record_of_lem c flag exposure f few) r (later a (later b (here h))) = (λ e. omega arith, λ e. omega arith)
says_small (record_of_lem c flag exposure f few) r (later a (later b (later d (here h)))) = (λ e. omega arith, λ e. omega arith)
says_small (record_of_lem c flag exposure f few) r (later a (later b (later d (later _ x)))) = elim x [ ]

same_stop : {n k m j : ℕ} {r q : Refusal} → Stopped n k r ≡ Stopped m j q → (n ≡ m) × (r ≡ q)
same_stop e = (cc, cc)

is_nine : (lines : List (List ℕ)) (n k : ℕ) {a : Account} → Ends lines a → a.end ≡ Stopped n k (Line n)
    → Malformed lines n
is_nine lines n k (clean text c l) e = impossible (cc)
is_nine lines n k (absent a) e = let same = (same_stop e).0 in rw (← same) (no_line a)
is_nine lines n k (malformed before s text line after a l bad) e =
    let same = (same_stop e).0 in
    rw (← same) (not_due before s text line after a l bad)
is_nine lines n k (refused before s text line after ts t r a l y f) e =
    absurd ((says_small y r f).0 (ap number_of (same_stop e).1))

nine_is : (lines : List (List ℕ)) {n : ℕ} → Malformed lines n → StopsByNine n (reading_sheet false lines Fresh).end
nine_is lines (no_line a) = record { column = 0; is = ap (λ (x : Account). x.end) (only_end lines (absent a)) }
nine_is lines (not_due before s text line after a l bad) =
    record {
      column = column_at s line;
      is = ap (λ (x : Account). x.end) (only_end lines (malformed before s text line after a l bad));
    }

-- ---- 8
abbrev number_in : Result Sheet (ℕ × ℕ × Refusal) → ℕ
number_in (Ok s) = 0
number_in (Err (l, k, r)) = number_of r

not_eight : (s : Sheet) (line : List ℕ) → sound_sheet s ≡ true → ¬ (number_in (stepping s line) ≡ 8)
not_eight s line g e = go (due_or_bad s line g)
  where
    tested : (ts : List Test) (t : Sheet) → Says s line ts t → None ts ⊎ ((r : Refusal) × First ts r) → ⊥
    tested ts t y (inl none) = omega (arith, sym (ap number_in ((says_decides g y).answers none)) ∙ e)
    tested ts t y (inr (r, f)) = (says_small y r f).1 (sym (ap number_in ((says_decides g y).refuses r f)) ∙ e)

    go : ((ts : List Test) × (t : Sheet) × Says s line ts t) ⊎ (¬ Due s line) → ⊥
    go (inl (ts, t, y)) = tested ts t y (none_or_first ts)
    go (inr bad) = omega (arith, sym (ap number_in (bad_step s line g bad)) ∙ e)

broken_step : (s : Sheet) (line : List ℕ) → sound_sheet s ≡ false → stepping s line ≡ Err (0, 0, BrokenState)
unfolding stepping
broken_step Fresh line e = absurd (true≢false e)
broken_step (Open c) line e = rw e

abbrev number_of_end : Reading → ℕ
number_of_end (Stopped l k r) = number_of r
number_of_end (Read c) = 0
number_of_end (Waiting s left) = 0

never_eight : (more : Bool) (lines : List (List ℕ)) (s : Sheet) → sound_sheet s ≡ true → ¬ (number_of_end (reading_sheet more lines s).end ≡ 8)
unfolding reading_sheet
never_eight true [] s g e = omega arith
never_eight false [] Fresh g e = omega arith
never_eight false [] (Open c) g e = omega arith
never_eight more (line ∷ lines) s g e =
    by_test (waits more line)
    (λ w. zero (rw w at e))
    (λ w. go (stepping s line) refl (λ t f. never_eight more lines t (step_led s line g f).sound) (rw w at e))
  where
    zero : ¬ (◌≡◌ {A = ℕ} 0 8)
    zero z = omega arith

    go : (x : Result Sheet (ℕ × ℕ × Refusal)) → stepping s line ≡ x → ((t : Sheet) → stepping s line ≡ Ok t → ¬ (number_of_end (reading_sheet more lines t).end ≡ 8))
        → ¬ (number_of_end (after_step x (reading_sheet more lines)).end ≡ 8)
    go (Ok t) f rest z = rest t f z
    go (Err (n, k, r)) f rest z = not_eight s line g (ap number_in f ∙ z)

-- ---- writing from a place on
module _ (out : List ℕ) (at : ℕ) (text : List ℕ) where
  writing_tests : writing_reply out at text ≡ decide Err (room_tests out at text) (Ok (at + length text))
  unfolding writing_reply decide
  writing_tests = by_test (fits out at text) (λ e. rw e) (λ e. rw e)

  writing_kept : (r : Refusal) → writing_reply out at text ≡ Err r → written out at text ≡ out
  unfolding writing_reply written
  writing_kept r e = by_test (fits out at text) (λ f. impossible (cc (rw f at e))) (λ f. rw f)

  writing_left : (n : ℕ) → writing_reply out at text ≡ Ok n → written out at text ≡ take at out ++ (text ++ drop n out)
  unfolding writing_reply written laid
  writing_left n e =
      by_test (fits out at text)
      (λ f. let same : at + length text ≡ n = cc (rw f at e) in rw (f, ← same))
      (λ f. impossible (cc (rw f at e)))

module _ (c : Campaign) (out : List ℕ) (at : ℕ) where
  record_tests : record_writing c out at
      ≡ decide Err (not (sound c) gives BrokenState ∷ room_tests out at (record_text c)) (Ok (at + length (record_text c)))
  unfolding record_writing decide
  record_tests = by_test (sound c) (λ g. rw g (writing_tests out at (record_text c))) (λ g. rw g)

  record_keeps : (r : Refusal) → record_writing c out at ≡ Err r → record_left c out at ≡ out
  unfolding record_writing record_left
  record_keeps r e = by_test (sound c) (λ g. rw g (writing_kept out at (record_text c) r (rw g at e))) (λ g. rw g)

  record_leaves : (n : ℕ) → record_writing c out at ≡ Ok n → record_left c out at ≡ take at out ++ (record_text c ++ drop n out)
  unfolding record_writing record_left
  record_leaves n e =
      by_test (sound c) (λ g. rw g (writing_left out at (record_text c) n (rw g at e))) (λ g. impossible (cc (rw g at e)))

-- ---- a text run
module _ (more : Bool) (text : List ℕ) (s : Sheet) (out : List ℕ) where
  abbrev account : Account
  account = reading_sheet more (lines_of text) s

  abbrev room : Bool
  room = leb (length account.text) (length out)

  run_tests : running more text s out
      ≡ decide Err (not (sound_sheet s) gives BrokenState ∷ (not room gives Room (length account.text) ∷ []))
      (Ok (account.end, length account.text))
  unfolding running decide
  run_tests = by_test (sound_sheet s) (λ g. by_test room (λ e. rw (g, e)) (λ e. rw (g, e))) (λ g. rw g)

  run_keeps : (r : Refusal) → running more text s out ≡ Err r → run_left more text s out ≡ out
  unfolding running run_left written
  run_keeps r e =
      by_test (sound_sheet s) (λ g. by_test room (λ f. impossible (cc (rw (g, f) at e))) (λ f. rw (g, zero-add, f))) (λ g. rw g)

  run_leaves : (e : Reading) (n : ℕ) → running more text s out ≡ Ok (e, n) → run_left more text s out ≡ account.text ++ drop n out
  unfolding running run_left written laid
  run_leaves r n e =
      by_test (sound_sheet s)
      (λ g.
      by_test room
      (λ f. let same : length account.text ≡ n = ap (λ (p : Reading × ℕ). p.1) (same_ok (rw (g, f) at e)) in rw (g, zero-add, f, ← same))
      (λ f. impossible (cc (rw (g, f) at e))))
      (λ g. impossible (cc (rw g at e)))

pub job_sheet : JobSheet
unfolding meaning reading_end
job_sheet =
    record {
      ends = λ text. ends_from (lines_of text) [] (lines_of text) Fresh [] start refl;
      only = λ text a e. only_end (lines_of text) e;
      nine = λ text n. record {
        only_if = λ z. is_nine (lines_of text) n z.column (ends_from (lines_of text) [] (lines_of text) Fresh [] start refl) z.is;
        when = λ m. nine_is (lines_of text) m;
      };
      line_eight = λ s line. record {
        only_if = λ z. by_test (sound_sheet s) (λ g. absurd (not_eight s line g (ap number_in z.is))) (λ g. g);
        when = λ g. record { number = 0; column = 0; is = broken_step s line g };
      };
      read_eight = λ more text s. record {
        only_if = λ z.
            by_test (sound_sheet s)
            (λ g. absurd (never_eight more (lines_of text) s g (ap number_of_end (sound_read more text s g z.is))))
            (λ g. g);
        when = λ g. record { number = 0; column = 0; is = rw g };
      };
      read_broken = λ more text s g. rw g;
      read_sound = λ more text s g. rw g;
      read_whole = λ text. refl;
      run = λ more text s out.
          decided Err (Ok ((reading_sheet more (lines_of text) s).end, length (reading_sheet more (lines_of text) s).text))
          (λ r q. same_err) (λ r e. impossible (cc)) _ (running more text s out) (run_tests more text s out);
      run_kept = run_keeps;
      run_left_lem = run_leaves;
      record_written = λ c out at.
          decided Err (Ok (at + length (record_text c))) (λ r q. same_err) (λ r e. impossible (cc)) _ (record_writing c out at) (record_tests c out at);
      record_kept = record_keeps;
      record_left_lem = record_leaves;
      refused_written = λ line column r out at. let text = refused_text line column r in
          decided Err (Ok (at + length text)) (λ r q. same_err) (λ q e. impossible (cc)) _ (writing_reply out at text) (writing_tests out at text);
      refused_kept = λ line column r out at q e. writing_kept out at (refused_text line column r) q e;
      refused_left = λ line column r out at n e. writing_left out at (refused_text line column r) n e;
    }
  where
    sound_read : (more : Bool) (text : List ℕ) (s : Sheet) → sound_sheet s ≡ true → {q : Reading}
        → reading_end more text s ≡ q → (reading_sheet more (lines_of text) s).end ≡ q
    sound_read more text s g e = rw g at e
