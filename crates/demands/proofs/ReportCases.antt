-- Document 02, [13]: loading conditions, computed of the definitions: the standing of several campaigns, the blocks
-- billed, and each refusal. The whole cases are `Request13.case`, `.all_letters`, `.accepted_alone`. Each declaration
-- has the name of its sentence. Assumes nothing.
use mathlib.Core.Path.{◌≡◌, refl}
use mathlib.Core.Bool.{Bool, false, true}
use mathlib.Core.List.{List, [], ◌∷◌, map}
use Prim.Native.Nat.{ℕ}
use lib.ListN.{replicate}
use Rattle.refusal.specs.Numbers.{number_of, value_of}
use Rattle.poisson.specs.Tables.{l, lower_rows, u, upper_rows}
use Rattle.campaign_state.specs.declared.Campaign.{Campaign}
use Rattle.campaign_state.specs.State.{censored, sound}
use Rattle.decimal.specs.Decimal.{digits_of, digits_within}
use Rattle.decimal.specs.Field.{field_text}
use Rattle.campaign_verdict.specs.Answers as verdict
use Rattle.campaign_condition.specs.Answers.{broken_from, judging}
use Rattle.campaign_condition.specs.Standing.{accepted, all_accepted, one_rejected, rejected, standing}
use Rattle.campaign_condition.specs.declared.Standing.TheVariants.{Accepted, Open, Rejected}
use Rattle.campaign_report.specs.Answers.{writing_report}
use Rattle.campaign_report.specs.Report.{blocks, four_text, letter_for, situation_text, lines_from, report_text, sum_of, total_text}
use Rattle.refusal.specs.declared.Refusal.{Refusal}
use Rattle.campaign_condition.specs.declared.Standing.{Standing}
use Rattle.std.specs.Prelude.{Result, Ok, Err}

-- at q = 7,200,000: accepted, rejected, neither, without a record, broken
abbrev campaign : ℕ → ℕ → ℕ → Bool → Campaign
campaign M N T f = record { standard = 7200000; records = M; failures = N; exposure = T; failed = f }

abbrev yes : Campaign
yes = campaign 3 0 26559937 false

abbrev no : Campaign
no = campaign 1 1 182282 true

abbrev neither : Campaign
neither = campaign 1 1 182283 true

abbrev none : Campaign
none = campaign 0 0 0 false

abbrev broken : Campaign
broken = campaign 0 0 1 false

-- rejected if at least one is, wherever it stands and whatever the others are; accepted if all are; else open
condition_standings :
    map standing
    ((yes ∷ []) ∷ (yes ∷ yes ∷ []) ∷ (no ∷ []) ∷ (yes ∷ no ∷ []) ∷ (no ∷ yes ∷ neither ∷ none ∷ [])
    ∷ (yes ∷ neither ∷ []) ∷ (neither ∷ yes ∷ []) ∷ (yes ∷ none ∷ []) ∷ (none ∷ []) ∷ [])
    ≡ Accepted ∷ Accepted ∷ Rejected ∷ Rejected ∷ Rejected ∷ Open ∷ Open ∷ Open ∷ Open ∷ []
unfolding standing one_rejected all_accepted accepted rejected verdict.judging sound censored u l upper_rows lower_rows
condition_standings = refl

-- N divided by 5 and rounded up
blocks_of_five : map blocks (0 ∷ 1 ∷ 5 ∷ 6 ∷ 10 ∷ 11 ∷ 64 ∷ []) ≡ 0 ∷ 1 ∷ 1 ∷ 2 ∷ 2 ∷ 3 ∷ 13 ∷ []
blocks_of_five = refl

abbrev of_judged : Result Standing Refusal → List ℕ
of_judged (Ok s) = []
of_judged (Err r) = number_of r ∷ value_of r ∷ []

-- 18 for none or more than 64, before 8, with the lowest situation
condition_refused :
    of_judged (judging 0 []) ∷ of_judged (judging 65 (replicate 65 broken))
    ∷ of_judged (judging 64 (replicate 64 none)) ∷ of_judged (judging 1 (none ∷ []))
    ∷ of_judged (judging 4 (yes ∷ none ∷ broken ∷ broken ∷ []))
    ∷ []
    ≡ (18 ∷ 0 ∷ []) ∷ (18 ∷ 0 ∷ []) ∷ [] ∷ [] ∷ (8 ∷ 3 ∷ []) ∷ []
unfolding judging broken_from sound
condition_refused = refl

abbrev of_writing : Result ℕ Refusal → List ℕ
of_writing (Ok n) = n ∷ []
of_writing (Err r) = number_of r ∷ value_of r ∷ []

-- and then 7, with the bytes needed: 12 for the line of an empty situation and 16 for the total
report_refused :
    of_writing (writing_report 0 [] []) ∷ of_writing (writing_report 2 (none ∷ broken ∷ []) [])
    ∷ of_writing (writing_report 1 (none ∷ []) (replicate 27 0)) ∷ of_writing (writing_report 1 (none ∷ []) (replicate 28 0))
    ∷ []
    ≡ (18 ∷ 0 ∷ []) ∷ (8 ∷ 2 ∷ []) ∷ (7 ∷ 28 ∷ []) ∷ (28 ∷ []) ∷ []
unfolding writing_report judging broken_from sound standing one_rejected all_accepted accepted rejected verdict.judging
    censored u l upper_rows lower_rows report_text lines_from situation_text four_text total_text sum_of letter_for
    field_text digits_of digits_within
report_refused = refl
