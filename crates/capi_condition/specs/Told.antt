-- What each C function leaves, from the answers that `campaign_condition` and `campaign_report` give of the campaigns
-- in the rows. Assumes nothing.
use Rattle.std.specs.Prelude.{ℕ, List, [], map, length, Result, Ok, Err}
use Rattle.campaign_state.specs.declared.Campaign.{Campaign}
use Rattle.campaign_condition.specs.Answers.{judging}
use Rattle.campaign_condition.specs.declared.Standing.{Standing}
use Rattle.campaign_condition.specs.declared.Standing.TheVariants.{Accepted, Open, Rejected}
use Rattle.campaign_report.specs.Answers.{writing_report}
use Rattle.campaign_report.specs.Report.{report_text}
use Rattle.capi.specs.Numbers.{campaign_of}
use Rattle.text.specs.Write.{laid_by}
use Rattle.capi.specs.Told.{Told, refused, told, write_told}
use Rattle.refusal.specs.declared.Refusal.{Refusal}

abbrev pub campaigns_of : List (List ℕ) → List Campaign
campaigns_of rows = map campaign_of rows

-- the standing as a number: 1 accepted, 2 rejected, 3 open
abbrev pub standing_code : Standing → ℕ
standing_code Accepted = 1
standing_code Rejected = 2
standing_code Open = 3

-- the number and what it carries
unfoldable pub judge_told : Result Standing Refusal → Told
judge_told (Ok s) = told 0 (standing_code s) []
judge_told (Err f) = refused f []

abbrev pub condition_judged : List (List ℕ) → Told
condition_judged rows = judge_told (judging (length rows) (campaigns_of rows))

abbrev pub condition_reported : List (List ℕ) → List ℕ → Told
condition_reported rows out =
    let w : (Result ℕ Refusal) = writing_report (length rows) (campaigns_of rows) out in
    write_told w (laid_by w (report_text (campaigns_of rows)) out)
