-- Laws of the text of a report: how long its lines are, one situation more, and what writing answers. Assumes nothing.
use Prim.Native.Nat.{ℕ, ◌+◌, ◌≤◌, ◌<◌}
use mathlib.Core.Path.{◌≡◌, refl, ap, ◌∙◌}
use mathlib.Core.List.{List, [], ◌∷◌, ◌++◌}
use native.Mathlib.Omega.{arith}
use lib.ListN.{length, length-append}
use borrow.Author.Tests.{le-ltb, lt-ltb}
use Rattle.refusal.specs.declared.Refusal.{Refusal}
use Rattle.refusal.specs.declared.Refusal.TheVariants.{Room}
use Rattle.decimal.specs.Decimal.{digits_of}
use Rattle.decimal.specs.Field.{field_text, line_feed, tab}
use Rattle.campaign_state.specs.declared.Campaign.{Campaign}
use Rattle.campaign_state.specs.State.{censored}
use Rattle.campaign_condition.specs.Answers.{judging}
use Rattle.campaign_condition.specs.Standing.{standing}
use Rattle.campaign_condition.specs.declared.Standing.{Standing}
use Rattle.campaign_report.specs.Report.{blocks, four_text, letter_for, situation_text, lines_from, report_text, standing_letter, total_of, total_text}
use Rattle.campaign_report.specs.Answers.{writing_report}
use Rattle.campaign_report.specs.declared.Total.{Total}
use Rattle.std.specs.Prelude.{Ok, Err}

four_bytes : (a b c d : ℕ) → length (four_text a b c d) ≡ length (digits_of a) + length (digits_of b) + length (digits_of c) + length (digits_of d) + 4
unfolding four_text field_text
four_bytes a b c d = simp length-append (omega arith)

pub line_bytes : (number : ℕ) (c : Campaign)
    → length (situation_text number c)
    ≡ length (digits_of number) + length (digits_of c.failures) + length (digits_of (censored c)) + length (digits_of c.exposure) + length (digits_of (blocks c.failures)) + 7
unfolding situation_text field_text
line_bytes number c = simp length-append (omega (arith, four_bytes number c.failures (censored c) c.exposure))

pub total_bytes : (t : Total) (letter : ℕ)
    → length (total_text t letter) ≡ length (digits_of t.records) + length (digits_of t.failures) + length (digits_of t.exposure) + length (digits_of t.blocks) + 12
unfolding total_text
total_bytes t letter = simp length-append (omega (arith, four_bytes t.records t.failures t.exposure t.blocks))

-- the line with its N*, its letter and its blocks as they were answered
pub line_parts : (number : ℕ) (c : Campaign) {n letter billed : ℕ} → n ≡ censored c → letter ≡ letter_for c → billed ≡ blocks c.failures
    → situation_text number c ≡ four_text number c.failures n c.exposure ++ (letter ∷ tab ∷ field_text billed line_feed)
unfolding situation_text
line_parts number c e f g = rw (e, f, g)

pub lines_next : (number : ℕ) (c : Campaign) (cs : List Campaign) → lines_from number (c ∷ cs) ≡ situation_text number c ++ lines_from (number + 1) cs
unfolding lines_from
lines_next number c cs = refl

pub lines_none : (number : ℕ) → lines_from number [] ≡ []
unfolding lines_from
lines_none number = refl

pub next_bytes : (number : ℕ) (c : Campaign) (cs : List Campaign) → length (lines_from number (c ∷ cs)) ≡ length (situation_text number c) + length (lines_from (number + 1) cs)
next_bytes number c cs = ap length (lines_next number c cs) ∙ length-append (situation_text number c) (lines_from (number + 1) cs)

-- the report with its last line as it is put
pub report_parts : (cs : List Campaign) (t : Total) (s : Standing) (letter : ℕ) → t ≡ total_of cs → s ≡ standing cs → letter ≡ standing_letter s
    → report_text cs ≡ lines_from 1 cs ++ total_text t letter
unfolding report_text
report_parts cs t s letter e f g = rw (e, g, f)

-- ---- what writing answers
module _ (number : ℕ) (cs : List Campaign) (out : List ℕ) where
  pub at_fault : {r : Refusal} → judging number cs ≡ Err r → Err r ≡ writing_report number cs out
  unfolding writing_report
  at_fault e = rw e

  module _ {s : Standing} (given : judging number cs ≡ Ok s) where
    pub no_room : length out < length (report_text cs) → Err (Room (length (report_text cs))) ≡ writing_report number cs out
    unfolding writing_report
    no_room h = rw (given, lt-ltb _ _ h)

    pub all_written : length (report_text cs) ≤ length out → Ok (length (report_text cs)) ≡ writing_report number cs out
    unfolding writing_report
    all_written h = rw (given, le-ltb _ _ h)
