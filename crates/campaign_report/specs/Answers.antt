-- Document 02 [13]: what writing the report answers, in its order of refusals. Assumes nothing.
use Rattle.std.specs.Prelude.{ℕ, List, length, Result, Ok, Err}
use Rattle.text.specs.Write.{within_room}
use Rattle.campaign_state.specs.declared.Campaign.{Campaign}
use Rattle.campaign_condition.specs.Answers.{judging}
use Rattle.campaign_report.specs.Report.{report_text}
use Rattle.refusal.specs.declared.Refusal.{Refusal}
use Rattle.campaign_condition.specs.declared.Standing.{Standing}

-- 18, then 8 with the lowest situation, as the condition is judged; then 7 with the bytes needed
abbrev pub after_judging : Result Standing Refusal → ℕ → ℕ → Result ℕ Refusal
after_judging (Err r) needed room = Err r
after_judging (Ok s) needed room = within_room needed room

unfoldable pub writing_report : ℕ → List Campaign → List ℕ → Result ℕ Refusal
writing_report number cs out = after_judging (judging number cs) (length (report_text cs)) (length out)
