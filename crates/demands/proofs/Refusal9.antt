-- Document 01, "The job sheet": what each line of a sheet is answered, exactly. Line 1 is the word standard and a q of
-- 1 to 12 digits; a later line is the number that is due, 1 or 0, and an exposure of 1 to 12 digits (form/specs/Texts).
-- Any other text is refusal 9 with the line's number: an empty one, one without LF, one over 64 bytes, one with a byte
-- too many. Only then comes 1 with item 5, or 4, 3, 5, 6 (demand 1's form). The texts are those that the ledger writes,
-- so which texts are refused is fixed by this alone: reading and writing are inverse. Assumes nothing.
use mathlib.Core.Path.{◌≡◌, ap, refl, sym, subst, ◌∙◌}
use mathlib.Core.Bool.{Bool, cond, false, not, true}
use mathlib.Core.List.{List, [], ◌∷◌}
use mathlib.Core.Logic.{◌⊎◌, inl, inr}
use Prim.Native.Nat.{ℕ, ◌+◌, ◌^◌, ◌≤◌, ◌<◌}
use native.Mathlib.Omega.{arith}
use lib.Dec.{eqb, ltb}
use Rattle.truth.proofs.Laws.{impossible}
use Rattle.refusal.specs.declared.Refusal.{Refusal}
use Rattle.refusal.specs.declared.Refusal.TheVariants.{CampaignFull, Item, Line, RowsUsedUp, TooLong, TooShort}
use Rattle.refusal.specs.Numbers.{number_of}
use Rattle.poisson.specs.Rows.{rows}
use Rattle.sample_items.specs.Limits.{longest_time}
use Rattle.campaign_state.specs.declared.Campaign.{Campaign}
use Rattle.campaign_state.specs.State.{empty, entered, most_records, sound, standard_in_range}
use Rattle.decimal.specs.Decimal.{longest}
use Rattle.sheet_line.specs.Column.{record_column, standard_column}
use Rattle.sheet_line.specs.declared.Sheet.{Sheet}
use Rattle.sheet_line.specs.declared.Sheet.TheVariants.{Fresh, Open}
use Rattle.sheet_line.specs.Line.{line_after, malformed, outcome, stepping}
use Rattle.sheet_line.proofs.Theorems.{line_back, standard_back}
use Rattle.sheet_line.specs.Texts.{RecordText, StandardText, entry_text, head_text}
use Rattle.demands.proofs.Exactly.{Exactly}
use Rattle.sheet_line.proofs.Forms.{Reads, Told, ToldStandard, good, ill, record_reads, standard_reads}
use Rattle.demands.proofs.Demand1.{Decides, Test, ◌gives◌, decide, decided, room_tests, tells}
use Rattle.std.specs.Prelude.{Result, Ok, Err}
use Rattle.truth.proofs.Answers.{same_err}

-- ---- the statement
-- the answer refuses the line by 9 with this line number, at some column
pub record Nine (number : ℕ) (answer : Result Sheet (ℕ × ℕ × Refusal)) : Type 0 where
  pub column : ℕ
  pub is : answer ≡ Err (number, column, Line number)

-- of a standard: 1 with item 5
abbrev pub standard_tests : ℕ → List Test
standard_tests q = not (standard_in_range q) gives Item 5 ∷ []

-- of a record that a line tells: 4, 3, 5, 6
abbrev pub tell_tests : Campaign → ℕ → List Test
tell_tests c t = eqb t 0 gives TooShort ∷ (ltb longest_time t gives TooLong ∷ room_tests c)

pub record Refusal9 : Type 0 where
  -- line 1: 9 exactly if it is no standard's text, then 1 with item 5; no other answer names a line but 1
  pub first : (line : List ℕ) → Exactly (Nine 1 (stepping Fresh line)) (¬ StandardText line)
  pub first_either : (line : List ℕ) → StandardText line ⊎ Nine 1 (stepping Fresh line)
  pub first_then : (q : ℕ) → q < 10 ^ longest
      → Decides ((λ a. Err (1, 0, a))) (standard_tests q) (Ok (Open (empty q))) (stepping Fresh (head_text q))
  -- a later line, after M records: 9 exactly if it is not the text of record M + 1, then 4, 3, 5, 6
  pub line : (c : Campaign) (line : List ℕ) → sound c ≡ true
      → Exactly (Nine (c.records + 2) (stepping (Open c) line)) (¬ RecordText (c.records + 1) line)
  pub line_either : (c : Campaign) (line : List ℕ) → sound c ≡ true
      → RecordText (c.records + 1) line ⊎ Nine (c.records + 2) (stepping (Open c) line)
  pub line_then : (c : Campaign) (flag exposure : ℕ) → sound c ≡ true → flag ≤ 1 → exposure < 10 ^ longest
      → Decides ((λ a. Err ((c.records + 2), 0, a))) (tell_tests c exposure) (Ok (Open (entered c (eqb flag 1) exposure)))
      (stepping (Open c) (entry_text (c.records + 1) flag exposure))

own : (n k : ℕ) (r s : Refusal) → ◌≡◌ {A = Result Sheet (ℕ × ℕ × Refusal)} (Err (n, k, r)) (Err (n, k, s)) → r ≡ s
own n k r s e = ap (λ (p : ℕ × ℕ × Refusal). p.2) (same_err e)

-- the tests of a line are those of the answer
outcome_decides : (n : ℕ) (ts : List Test) (d : Campaign)
    → outcome n (decide Err ts (Ok d)) ≡ decide ((λ a. Err (n, 0, a))) ts (Ok (Open d))
unfolding decide
outcome_decides n [] d = refl
outcome_decides n (t ∷ ts) d = go t.holds (outcome_decides n ts d)
  where
    go : (b : Bool) → outcome n (decide Err ts (Ok d)) ≡ decide ((λ a. Err (n, 0, a))) ts (Ok (Open d))
        → outcome n (cond b (Err t.gives) (decide Err ts (Ok d)))
        ≡ cond b (Err (n, 0, t.gives)) (decide ((λ a. Err (n, 0, a))) ts (Ok (Open d)))
    go true rest = refl
    go false rest = rest

-- the number of the refusal in an answer; 0 for none
abbrev number_in : Result Sheet (ℕ × ℕ × Refusal) → ℕ
number_in (Ok s) = 0
number_in (Err (l, k, r)) = number_of r

nine_number : (n : ℕ) (s : Result Sheet (ℕ × ℕ × Refusal)) → Nine n s → number_in s ≡ 9
nine_number n s nine = ap number_in nine.is

below_nine : (a b d e : Bool) (n : ℕ) (s : Sheet)
    → number_in (cond a (Err (n, 0, TooShort)) (cond b (Err (n, 0, TooLong))
    (cond d (Err (n, 0, CampaignFull)) (cond e (Err (n, 0, RowsUsedUp)) (Ok s))))) < 9
below_nine true b d e n s = omega arith
below_nine false true d e n s = omega arith
below_nine false false true e n s = omega arith
below_nine false false false true n s = omega arith
below_nine false false false false n s = omega arith

-- ---- a record's line
module _ (c : Campaign) (kept : sound c ≡ true) where
  module _ (flag exposure : ℕ) (f : flag ≤ 1) (s : exposure < 10 ^ longest) where
    told_is : stepping (Open c) (entry_text (c.records + 1) flag exposure) ≡ decide ((λ a. Err ((c.records + 2), 0, a))) (tell_tests c exposure) (Ok (Open (entered c (eqb flag 1) exposure)))
    unfolding decide
    told_is =
        line_back c flag exposure kept f s
        ∙ (ap (outcome (c.records + 2)) (tells c (eqb flag 1) exposure kept)
        ∙ outcome_decides (c.records + 2) (tell_tests c exposure) (entered c (eqb flag 1) exposure))

    told_decides : Decides ((λ a. Err ((c.records + 2), 0, a))) (tell_tests c exposure) (Ok (Open (entered c (eqb flag 1) exposure))) (stepping (Open c) (entry_text (c.records + 1) flag exposure))
    told_decides = decided ((λ a. Err ((c.records + 2), 0, a))) (Ok (Open (entered c (eqb flag 1) exposure))) (own (c.records + 2) 0) (λ r e. impossible (cc)) (tell_tests c exposure) _ told_is

    not_nine : ¬ Nine (c.records + 2) (stepping (Open c) (entry_text (c.records + 1) flag exposure))
    unfolding decide
    not_nine nine =
        let e = sym (nine_number _ _ nine) ∙ ap number_in told_is in
        let l = below_nine (eqb exposure 0) (ltb longest_time exposure) (eqb c.records most_records) (eqb c.failures rows) (c.records + 2) (Open (entered c (eqb flag 1) exposure)) in
        omega arith

  module _ (line : List ℕ) where
    either : RecordText (c.records + 1) line ⊎ Nine (c.records + 2) (stepping (Open c) line)
    unfolding stepping
    either = rw kept (go (record_reads (record_column (c.records + 1) line) c line))
      where
        go : {s : (Result Sheet (ℕ × ℕ × Refusal))} → Reads (Told c line) (malformed (line_after c) (record_column (c.records + 1) line)) s
            → RecordText (c.records + 1) line ⊎ Nine (c.records + 2) s
        go (good t) = inl t.text
        go ill = inr (record { column = record_column (c.records + 1) line; is = refl })

    exactly : Exactly (Nine (c.records + 2) (stepping (Open c) line)) (¬ RecordText (c.records + 1) line)
    exactly =
        record {
          only_if = λ nine t. not_nine t.flag t.exposure t.flag_kept t.few (subst (λ l. Nine (c.records + 2) (stepping (Open c) l)) t.bytes nine);
          when = λ bad. from bad either;
        }
      where
        from : ¬ RecordText (c.records + 1) line
            → RecordText (c.records + 1) line ⊎ Nine (c.records + 2) (stepping (Open c) line)
            → Nine (c.records + 2) (stepping (Open c) line)
        from bad (inl t) = absurd (bad t)
        from bad (inr n) = n

-- ---- line 1
module _ (q : ℕ) (s : q < 10 ^ longest) where
  standard_is : stepping Fresh (head_text q) ≡ decide ((λ a. Err (1, 0, a))) (standard_tests q) (Ok (Open (empty q)))
  unfolding decide
  standard_is = standard_back q s ∙ go (standard_in_range q)
    where
      go : (b : Bool)
          → outcome 1 (cond b (Ok (empty q)) (Err (Item 5)))
          ≡ cond (not b) (Err (1, 0, Item 5)) (Ok (Open (empty q)))
      go true = refl
      go false = refl

  standard_decides : Decides ((λ a. Err (1, 0, a))) (standard_tests q) (Ok (Open (empty q))) (stepping Fresh (head_text q))
  standard_decides = decided ((λ a. Err (1, 0, a))) (Ok (Open (empty q))) (own 1 0) (λ r e. impossible (cc)) (standard_tests q) _ standard_is

  standard_not_nine : ¬ Nine 1 (stepping Fresh (head_text q))
  unfolding decide
  standard_not_nine nine = go (standard_in_range q) (sym (nine_number _ _ nine) ∙ ap number_in standard_is)
    where
      go : (b : Bool) → ¬ (9 ≡ number_in (cond (not b) (Err (1, 0, Item 5)) (Ok (Open (empty q)))))
      go true e = omega arith
      go false e = omega arith

module _ (line : List ℕ) where
  standard_either : StandardText line ⊎ Nine 1 (stepping Fresh line)
  unfolding stepping
  standard_either = go (standard_reads (standard_column line) line)
    where
      go : {s : (Result Sheet (ℕ × ℕ × Refusal))} → Reads (ToldStandard line) (malformed 1 (standard_column line)) s → StandardText line ⊎ Nine 1 s
      go (good t) = inl t.text
      go ill = inr (record { column = standard_column line; is = refl })

  standard_exactly : Exactly (Nine 1 (stepping Fresh line)) (¬ StandardText line)
  standard_exactly =
      record {
        only_if = λ nine t. standard_not_nine t.standard t.few (subst (λ l. Nine 1 (stepping Fresh l)) t.bytes nine);
        when = λ bad. from bad standard_either;
      }
    where
      from : ¬ StandardText line → StandardText line ⊎ Nine 1 (stepping Fresh line) → Nine 1 (stepping Fresh line)
      from bad (inl t) = absurd (bad t)
      from bad (inr n) = n

pub refusal_9 : Refusal9
refusal_9 =
    record {
      first = standard_exactly;
      first_either = standard_either;
      first_then = standard_decides;
      line = λ c line kept. exactly c kept line;
      line_either = λ c line kept. either c kept line;
      line_then = λ c flag exposure kept f s. told_decides c kept flag exposure f s;
    }
