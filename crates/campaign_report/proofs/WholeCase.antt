-- Document 02 [13], the case that it gives whole: antt computes the definition on it. Assumes nothing.
use mathlib.Core.Path.{◌≡◌, refl}
use Rattle.poisson.specs.Tables.{l, lower_rows, u, upper_rows}
use Rattle.campaign_state.specs.State.{censored, sound}
use Rattle.campaign_verdict.specs.Answers.{judging}
use Rattle.decimal.specs.Decimal.{digits_of, digits_within}
use Rattle.decimal.specs.Field.{field_text}
use Rattle.campaign_condition.specs.Standing.{accepted, all_accepted, one_rejected, rejected, standing}
use Rattle.campaign_report.specs.Report.{four_text, letter_for, situation_text, lines_from, report_text, sum_of, total_text}
use Rattle.campaign_report.specs.WholeCase.{report_on_third, report_on_three, their_report, third_alone, three_situations, two_situations}

pub whole_case : report_text two_situations ≡ their_report
unfolding two_situations their_report report_text lines_from situation_text four_text field_text letter_for total_text sum_of
    digits_of digits_within censored sound judging accepted rejected one_rejected all_accepted standing u l upper_rows
    lower_rows
whole_case = refl

-- and the one with all letters, then its accepted campaign alone
pub three_case : report_text three_situations ≡ report_on_three
unfolding three_situations report_on_three report_text lines_from situation_text four_text field_text letter_for total_text sum_of digits_of
    digits_within censored sound judging accepted rejected one_rejected all_accepted standing u l upper_rows lower_rows
three_case = refl

pub third_case : report_text third_alone ≡ report_on_third
unfolding third_alone report_on_third report_text lines_from situation_text four_text field_text letter_for total_text sum_of digits_of
    digits_within censored sound judging accepted rejected one_rejected all_accepted standing u l upper_rows lower_rows
third_case = refl
