-- WHAT IS WRITTEN FOR THE SHEETS OF A LOADING CONDITION (document 02, [13]; docs/CLERK.md): the report on their
-- campaigns, or the refused line of the first sheet at fault, and a digit, over the whole texts. Assumes nothing.
use Rattle.std.specs.Prelude.{ℕ, ◌+◌, cond, not, List, [], ◌∷◌, ◌++◌, Some, None, eqb, length}
use Rattle.refusal.specs.declared.Refusal.{Refusal}
use Rattle.refusal.specs.declared.Refusal.TheVariants.{BrokenState, Situations}
use Rattle.refusal.specs.Numbers.{number_of}
use Rattle.campaign_state.specs.declared.Campaign.{Campaign}
use Rattle.campaign_condition.specs.Answers.{situations_in_range}
use Rattle.campaign_report.specs.Report.{report_text}
use Rattle.sheet_text.specs.declared.Reading.{Reading}
use Rattle.sheet_text.specs.declared.Reading.TheVariants.{Read, Stopped, Waiting}
use Rattle.sheet_text.specs.Sheet.{meaning}
use Rattle.desk_line.specs.Said.{Said, read_digit}
use Rattle.sheet_fault.specs.Fault.{refused_sheet}

-- the refused line names the situation and its sheet's line; for a malformed line alone the column stands after the 9
abbrev pub refused_situation : ℕ → ℕ → ℕ → Refusal → Said
refused_situation situation line column r =
    refused_sheet situation line (number_of r) (cond (eqb (number_of r) 9) (Some column) None)

abbrev pub reported : List Campaign → Said
reported cs = record { line = report_text cs; end = read_digit }

-- a sheet as it reads: its campaign is the next; a whole text never waits for more
abbrev pub after_sheet : Reading → ℕ → (Campaign → Said) → Said
after_sheet (Read c) situation go = go c
after_sheet (Stopped line column r) situation go = refused_situation situation line column r
after_sheet (Waiting s left) situation go = refused_situation situation 0 0 BrokenState

-- the sheets after those whose campaigns are there; situations are numbered 1, 2, 3, ..
unfoldable pub condition_from : List Campaign → List (List ℕ) → Said
condition_from cs [] = reported cs
condition_from cs (text ∷ texts) =
    after_sheet (meaning text).end (length cs + 1) (λ c. condition_from (cs ++ (c ∷ [])) texts)

-- WHAT IS WRITTEN FOR THE TEXTS: 18 for none or more than 64 goes before all sheets
unfoldable pub condition_said : List (List ℕ) → Said
condition_said texts =
    cond (not (situations_in_range (length texts))) (refused_situation 0 0 0 Situations) (condition_from [] texts)
