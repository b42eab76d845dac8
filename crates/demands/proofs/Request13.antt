-- Document 02, [13]: one answer for a loading condition, and the report on it. Both are decided by their tests in 02's
-- order (demand 1), and refusal 8 names the lowest situation; a refusal leaves what was lent as it stood. One rejected
-- situation rejects; all have to be accepted, so none may be without a record; in what order the situations stand does
-- not matter. Each standing and each letter comes exactly if the sentence for it holds. Blocks are N divided by 5 and
-- rounded up, and are summed line by line; 02's whole case comes out byte for byte, and so do two with all letters.
-- Assumes nothing.
use mathlib.Core.Path.{◌≡◌, ap, refl, sym, ◌∙◌}
use mathlib.Core.Bool.{not, false, true}
use mathlib.Core.List.{List, [], ◌∷◌, ◌++◌}
use Prim.Native.Nat.{ℕ, ◌+◌, ◌*◌, ◌≤◌}
use native.Mathlib.Omega.{arith}
use borrow.Author.Tests.{eq-eqb, ne_eqb}
use lib.Dec.{eqb, ltb}
use lib.ListN.{length}
use Rattle.truth.proofs.Laws.{impossible}
use Rattle.truth.proofs.Cases.{by_test}
use Rattle.refusal.specs.declared.Refusal.{Refusal}
use Rattle.refusal.specs.declared.Refusal.TheVariants.{Room, Situation, Situations}
use Rattle.campaign_state.specs.declared.Campaign.{Campaign}
use Rattle.campaign_state.specs.State.{censored, sound}
use Rattle.decimal.specs.Field.{field_text, line_feed, tab}
use Rattle.campaign_verdict.specs.Figures.{accepts, rejects, verdict_of}
use Rattle.campaign_verdict.specs.Letters.{letter_e, letter_of}
use Rattle.campaign_verdict.proofs.Letters.{of_accept, of_continue, of_reject}
use Rattle.campaign_condition.specs.Answers.{situations_in_range, judging, lowest_broken}
use Rattle.campaign_condition.specs.Standing.{All, One, accepted, rejected, standing}
use Rattle.campaign_condition.specs.declared.Standing.{Standing}
use Rattle.campaign_condition.specs.declared.Standing.TheVariants.{Accepted, Open, Rejected}
use Rattle.campaign_condition.proofs.Exactly.{accepted_if, never_both, only_accepted, only_open, only_rejected, open_if, rejected_if}
use Rattle.campaign_condition.proofs.Theorems.{accepted_accepts, accepts_accepted, all_needed, empty_open, lowest_named, one_rejects, order, rejected_rejects, rejects_rejected}
use Rattle.campaign_report.specs.Answers.{writing_report}
use Rattle.campaign_report.specs.Report.{blocks, four_text, situation_text, lines_from, report_text, standing_letter, sum_of, total_text, total_word}
use Rattle.campaign_report.specs.Report as reporting
use Rattle.sheet_reply.specs.Written as replying
use Rattle.sheet_reply.specs.Written.{figures, record_text}
use Rattle.campaign_report.specs.WholeCase.{report_on_third, report_on_three, their_report, third_alone, three_situations, two_situations}
use Rattle.text.specs.Write.{laid_by}
use Rattle.campaign_report.proofs.Enough.{enough}
use Rattle.campaign_report.proofs.Rounding.{blocks_enough, blocks_least}
use Rattle.campaign_report.proofs.WholeCase.{third_case, three_case, whole_case}
use Rattle.demands.proofs.Exactly.{Exactly}
use Rattle.demands.proofs.Demand1.{Decides, Test, ◌gives◌, decide, decided}
use Rattle.std.specs.Prelude.{Ok, Err}
use Rattle.truth.proofs.Answers.{same_err}

-- ---- the statement
-- 18, then 8 with the lowest situation; then what is tested after them
abbrev pub tests : ℕ → List Campaign → List Test → List Test
tests number cs ts = not (situations_in_range number) gives Situations ∷ (not (eqb (lowest_broken cs) 0) gives Situation (lowest_broken cs) ∷ ts)

-- the report: then 7 with the bytes needed
abbrev pub write_tests : ℕ → List Campaign → ℕ → List Test
write_tests number cs room = tests number cs (ltb room (length (report_text cs)) gives Room (length (report_text cs)) ∷ [])

-- the letter of a campaign with a record: A exactly if accept holds, R exactly if reject does, C exactly if neither
pub record Letters (c : Campaign) (letter : ℕ) : Type 0 where
  pub A : Exactly (letter ≡ 65) (accepts c ≡ true)
  pub R : Exactly (letter ≡ 82) (rejects c ≡ true)
  pub C : Exactly (letter ≡ 67) ((accepts c ≡ false) × (rejects c ≡ false))

-- the letter of a condition: A exactly if all are accepted, R exactly if one is rejected, O exactly if neither
pub record TotalLetters (cs : List Campaign) (letter : ℕ) : Type 0 where
  pub A : Exactly (letter ≡ 65) (All accepted cs)
  pub R : Exactly (letter ≡ 82) (One rejected cs)
  pub O : Exactly (letter ≡ 79) (¬ One rejected cs × ¬ All accepted cs)

-- a line that the sheet program writes of a campaign, with this letter
abbrev sheet_line : Campaign → ℕ → List ℕ
sheet_line c letter =
    field_text c.records tab ++ (field_text c.failures tab ++ (field_text (censored c) tab ++ (field_text c.exposure tab ++ (letter ∷ line_feed ∷ []))))

-- a situation's line of the report, with this letter
abbrev situation_line : ℕ → Campaign → ℕ → List ℕ
situation_line number c letter =
    (field_text number tab ++ (field_text c.failures tab ++ (field_text (censored c) tab ++ field_text c.exposure tab)))
    ++ (letter ∷ tab ∷ field_text (blocks c.failures) line_feed)

-- the report's last line, with this letter: each sum is that of the lines' figures
abbrev total_line : List Campaign → ℕ → List ℕ
total_line cs letter =
    total_word
    ++ ((field_text (sum_of (λ c. c.records) cs) tab
    ++ (field_text (sum_of (λ c. c.failures) cs) tab
    ++ (field_text (sum_of (λ c. c.exposure) cs) tab
    ++ field_text (sum_of (λ c. blocks c.failures) cs) tab)))
    ++ (letter ∷ line_feed ∷ []))

pub record Request13 : Type 0 where
  pub judge : (number : ℕ) (cs : List Campaign) → Decides Err (tests number cs []) (Ok (standing cs)) (judging number cs)
  pub write : (number : ℕ) (cs : List Campaign) (out : List ℕ) → Decides Err (write_tests number cs (length out)) (Ok (length (report_text cs))) (writing_report number cs out)
  -- those before it keep their relations, and it does not
  pub lowest : (before : List Campaign) (c : Campaign) (after : List Campaign) → lowest_broken before ≡ 0 → sound c ≡ false
      → lowest_broken (before ++ (c ∷ after)) ≡ length before + 1
  pub bytes_kept : (r : Refusal) (text out : List ℕ) → laid_by (Err r) text out ≡ out
  -- a campaign is rejected or accepted by document 01's tests, with a record
  pub rejecting : (c : Campaign) → rejected c ≡ true → (sound c ≡ true) × (1 ≤ c.records) × (rejects c ≡ true)
  pub rejected_by : (c : Campaign) → sound c ≡ true → 1 ≤ c.records → rejects c ≡ true → rejected c ≡ true
  pub accepting : (c : Campaign) → accepted c ≡ true → (sound c ≡ true) × (1 ≤ c.records) × (accepts c ≡ true)
  pub accepted_by : (c : Campaign) → sound c ≡ true → 1 ≤ c.records → accepts c ≡ true → accepted c ≡ true
  -- rejected exactly if at least one is rejected, accepted exactly if all are accepted, else open; no campaign is both
  pub rejected_exactly : (cs : List Campaign) → Exactly (standing cs ≡ Rejected) (One rejected cs)
  pub accepted_exactly : (cs : List Campaign) → Exactly (standing cs ≡ Accepted) (All accepted cs)
  pub open_exactly : (cs : List Campaign) → Exactly (standing cs ≡ Open) (¬ One rejected cs × ¬ All accepted cs)
  pub not_both : (c : Campaign) → accepted c ≡ true → rejected c ≡ true → ⊥
  -- one rejected rejects; an accepted condition has all accepted, and none without a record
  pub one : (before : List Campaign) (c : Campaign) (after : List Campaign) → rejected c ≡ true → standing (before ++ (c ∷ after)) ≡ Rejected
  pub all : (before : List Campaign) (c : Campaign) (after : List Campaign) → standing (before ++ (c ∷ after)) ≡ Accepted → accepted c ≡ true
  pub no_record_lem : (before : List Campaign) (c : Campaign) (after : List Campaign) → c.records ≡ 0 → ¬ (standing (before ++ (c ∷ after)) ≡ Accepted)
  -- two neighbours may change places, and by such changes any order comes from any other
  pub in_any_order : (before : List Campaign) (a b : Campaign) (after : List Campaign) → standing (before ++ (a ∷ (b ∷ after))) ≡ standing (before ++ (b ∷ (a ∷ after)))
  -- as many blocks as N needs, and no fewer do
  pub billed : (n : ℕ) → n ≤ 5 * blocks n
  pub no_fewer : (n b : ℕ) → n ≤ 5 * b → blocks n ≤ b
  -- 40 bytes and 28 for each situation are always room
  pub enough : (number : ℕ) (cs : List Campaign) (out : List ℕ) (n : ℕ) → length cs ≡ number → writing_report number cs out ≡ Ok n → n ≤ 40 + 28 * number
  pub case : report_text two_situations ≡ their_report
  -- the letter on the sheet, in a situation's line and in the last one; E where there is no record
  pub sheet_letter : (c : Campaign) → sound c ≡ true → 1 ≤ c.records
      → (letter : ℕ) × (record_text c ≡ sheet_line c letter) × Letters c letter
  pub line_letter : (c : Campaign) (number : ℕ) → sound c ≡ true → 1 ≤ c.records
      → (letter : ℕ) × (situation_text number c ≡ situation_line number c letter) × Letters c letter
  pub empty_letter : (c : Campaign) (number : ℕ) → c.records ≡ 0 → situation_text number c ≡ situation_line number c 69
  pub total_letter : (cs : List Campaign)
      → (letter : ℕ) × (report_text cs ≡ lines_from 1 cs ++ total_line cs letter) × TotalLetters cs letter
  -- all letters, N* apart from N, and blocks summed line by line: byte for byte
  pub all_letters : report_text three_situations ≡ report_on_three
  pub accepted_alone : report_text third_alone ≡ report_on_third

-- ---- the proof
abbrev ranked : Standing → ℕ
ranked Accepted = 0
ranked Rejected = 1
ranked Open = 2

judging_decides : (number : ℕ) (cs : List Campaign) → judging number cs ≡ decide Err (tests number cs []) (Ok (standing cs))
unfolding decide judging
judging_decides number cs = refl

writing_decides : (number : ℕ) (cs : List Campaign) (out : List ℕ) → writing_report number cs out ≡ decide Err (write_tests number cs (length out)) (Ok (length (report_text cs)))
unfolding decide judging writing_report
writing_decides number cs out =
    by_test (situations_in_range number)
    (λ e. by_test (eqb (lowest_broken cs) 0) (λ f. rw (e, f)) (λ f. rw (e, f)))
    (λ e. rw e)

letters : (c : Campaign) (letter : ℕ) → (accepts c ≡ true → letter ≡ 65) → (rejects c ≡ true → letter ≡ 82)
    → (accepts c ≡ false → rejects c ≡ false → letter ≡ 67) → Letters c letter
letters c letter f g h =
    record {
      A = record {
        only_if = λ e. by_test (accepts c) (λ a. a) (λ a. by_test (rejects c) (λ r. absurd (omega (arith, g r))) (λ r. absurd (omega (arith, h a r))));
        when = f;
      };
      R = record {
        only_if = λ e. by_test (rejects c) (λ r. r) (λ r. by_test (accepts c) (λ a. absurd (omega (arith, f a))) (λ a. absurd (omega (arith, h a r))));
        when = g;
      };
      C = record {
        only_if = λ e.
            by_test (accepts c)
            (λ a. absurd (omega (arith, f a)))
            (λ a. by_test (rejects c) (λ r. absurd (omega (arith, g r))) (λ r. (a, r)));
        when = λ n. h n.0 n.1;
      };
    }

total_letters : (cs : List Campaign) (s : Standing) → standing cs ≡ s → TotalLetters cs (standing_letter s)
total_letters cs Accepted e =
    record {
      A = record { only_if = λ z. only_accepted cs e; when = λ a. refl };
      R = record { only_if = λ z. absurd (omega arith); when = λ o. impossible (ap ranked (sym e ∙ rejected_if cs o)) };
      O = record { only_if = λ z. absurd (omega arith); when = λ n. absurd (n.1 (only_accepted cs e)) };
    }
total_letters cs Rejected e =
    record {
      A = record { only_if = λ z. absurd (omega arith); when = λ a. impossible (ap ranked (sym (accepted_if cs a) ∙ e)) };
      R = record { only_if = λ z. only_rejected cs e; when = λ o. refl };
      O = record { only_if = λ z. absurd (omega arith); when = λ n. absurd (n.0 (only_rejected cs e)) };
    }
total_letters cs Open e =
    record {
      A = record { only_if = λ z. absurd (omega arith); when = λ a. absurd ((only_open cs e).1 a) };
      R = record { only_if = λ z. absurd (omega arith); when = λ o. absurd ((only_open cs e).0 o) };
      O = record { only_if = λ z. only_open cs e; when = λ n. refl };
    }

module _ (c : Campaign) (kept : sound c ≡ true) (some : 1 ≤ c.records) where
  of_verdict : (none : ℕ) → Letters c (letter_of none (verdict_of c))
  of_verdict none =
      letters c (letter_of none (verdict_of c)) (of_accept none c kept some) (of_reject none c kept some) (of_continue none c kept some)

  on_sheet : (letter : ℕ) × (record_text c ≡ sheet_line c letter) × Letters c letter
  unfolding record_text figures replying.letter_for
  on_sheet = (letter_of 0 (verdict_of c), rw (ne_eqb c.records 0 (λ e. omega arith)), of_verdict 0)

  in_report : (number : ℕ) → (letter : ℕ) × (situation_text number c ≡ situation_line number c letter) × Letters c letter
  unfolding situation_text four_text reporting.letter_for
  in_report number = (letter_of letter_e (verdict_of c), refl, of_verdict letter_e)

empty_line : (c : Campaign) (number : ℕ) → c.records ≡ 0 → situation_text number c ≡ situation_line number c 69
unfolding situation_text four_text reporting.letter_for
empty_line c number e = rw (eq-eqb c.records 0 e)

in_total : (cs : List Campaign)
    → (letter : ℕ) × (report_text cs ≡ lines_from 1 cs ++ total_line cs letter) × TotalLetters cs letter
unfolding report_text total_text four_text
in_total cs = (standing_letter (standing cs), refl, total_letters cs (standing cs) refl)

pub request_13 : Request13
unfolding laid_by
request_13 =
    record {
      judge = λ number cs. decided Err (Ok (standing cs)) (λ r s. same_err) (λ r e. impossible (cc)) (tests number cs []) (judging number cs) (judging_decides number cs);
      write = λ number cs out.
          decided Err (Ok (length (report_text cs))) (λ r s. same_err) (λ r e. impossible (cc)) (write_tests number cs (length out)) (writing_report number cs out) (writing_decides number cs out);
      lowest = lowest_named;
      bytes_kept = λ r text out. refl;
      rejecting = rejected_rejects;
      rejected_by = rejects_rejected;
      accepting = accepted_accepts;
      accepted_by = accepts_accepted;
      rejected_exactly = λ cs. record { only_if = only_rejected cs; when = rejected_if cs };
      accepted_exactly = λ cs. record { only_if = only_accepted cs; when = accepted_if cs };
      open_exactly = λ cs. record { only_if = only_open cs; when = λ n. open_if cs n.0 n.1 };
      not_both = never_both;
      one = one_rejects;
      all = all_needed;
      no_record_lem = empty_open;
      in_any_order = order;
      billed = blocks_enough;
      no_fewer = blocks_least;
      enough = enough;
      case = whole_case;
      sheet_letter = on_sheet;
      line_letter = λ c number kept some. in_report c kept some number;
      empty_letter = empty_line;
      total_letter = in_total;
      all_letters = three_case;
      accepted_alone = third_case;
    }
