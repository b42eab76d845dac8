-- Document 01, "The job sheet", and document 02 [13]: the letters of verdicts. Assumes nothing.
use Rattle.std.specs.Prelude.{ℕ}
use Rattle.campaign_verdict.specs.declared.Verdict.{Verdict}
use Rattle.campaign_verdict.specs.declared.Verdict.TheVariants.{Accept, Continue, NoRecord, Reject}

abbrev pub letter_a : ℕ
letter_a = 65

abbrev pub letter_r : ℕ
letter_r = 82

abbrev pub letter_c : ℕ
letter_c = 67

-- where there is no record
abbrev pub letter_e : ℕ
letter_e = 69

-- A, R or C; `none` for no record, which only the report has a letter for
abbrev pub letter_of : ℕ → Verdict → ℕ
letter_of none (Accept upper) = letter_a
letter_of none (Reject lower) = letter_r
letter_of none (Continue lower upper) = letter_c
letter_of none NoRecord = none
