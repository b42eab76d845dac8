-- Document 02 [2]: what writing answers, in its order of refusals. Assumes nothing.
use Rattle.std.specs.Prelude.{ℕ, false, List, [], ◌∷◌, length, ℤ, Result, Ok, Err}
use Rattle.campaign_state.specs.declared.Campaign.{Campaign}
use Rattle.campaign_state.specs.Answers.{opened, taken}
use Rattle.text.specs.Write.{within_room}
use Rattle.sheet_line.specs.Line.{exposure_then, telling}
use Rattle.sheet_records.specs.Ledger.{exposure_in, failed_in, sheet_text}
use Rattle.refusal.specs.declared.Refusal.{Refusal}

-- a campaign that was answered goes on, a refusal stays
abbrev pub onward : Result Campaign Refusal → (Campaign → Result Campaign Refusal) → Result Campaign Refusal
onward (Ok c) go = go c
onward (Err r) go = Err r

-- record by record 4, 3, 5, 6, as the sheet judges them; the first record at fault decides
unfoldable pub judged_from : Campaign → List ℤ → Result Campaign Refusal
judged_from c [] = Ok c
judged_from c (x ∷ xs) = onward (telling c (failed_in x) (exposure_in x)) (λ d. judged_from d xs)

-- before them 1 for the standard
unfoldable pub judged : ℕ → List ℤ → Result Campaign Refusal
judged q xs = onward (opened q) (λ c. judged_from c xs)

-- all records are taken, or the first refusal
abbrev pub judged_as : Result Campaign Refusal → Result (Unit {0}) Refusal
judged_as (Ok c) = (Ok tt)
judged_as (Err r) = Err r

-- one record's exposure, after so many records and failures: 4, 3 as the sheet's line tells them, then 5, 6 as a
-- campaign of so many records and failures takes it
abbrev pub having_entered : ℕ → ℕ → Campaign
having_entered m n = record { standard = 1; records = m; failures = n; exposure = 0; failed = false }

unfoldable pub judged_one : ℕ → ℕ → ℕ → Result (Unit {0}) Refusal
judged_one m n t = judged_as (exposure_then t (taken (having_entered m n) false t))

-- ---- writing: what is judged, then 7 with the bytes needed
abbrev pub after_judging : Result Campaign Refusal → ℕ → ℕ → Result ℕ Refusal
after_judging (Err r) needed room = Err r
after_judging (Ok c) needed room = within_room needed room

unfoldable pub writing_sheet : ℕ → List ℤ → List ℕ → Result ℕ Refusal
writing_sheet q xs out = after_judging (judged q xs) (length (sheet_text q xs)) (length out)
