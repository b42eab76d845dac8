-- Document 02 [13]: the report on a loading condition, a line for each design situation and a last one for all. Fields
-- are parted by a tab and a line ends with LF, as on the sheet. Assumes nothing.
use Rattle.std.specs.Prelude.{ℕ, ◌+◌, ◌/◌, List, [], ◌∷◌, ◌++◌}
use Rattle.campaign_state.specs.declared.Campaign.{Campaign}
use Rattle.campaign_state.specs.State.{censored}
use Rattle.campaign_verdict.specs.declared.Verdict.{Verdict}
use Rattle.campaign_verdict.specs.Figures.{verdict_of}
use Rattle.campaign_verdict.specs.Letters.{letter_a, letter_e, letter_of, letter_r}
use Rattle.decimal.specs.Field.{field_text, line_feed, tab}
use Rattle.campaign_condition.specs.Standing.{standing}
use Rattle.campaign_condition.specs.declared.Standing.{Standing}
use Rattle.campaign_condition.specs.declared.Standing.TheVariants.{Accepted, Open, Rejected}
use Rattle.campaign_report.specs.declared.Total.{Total}

-- blocks billed: N divided by 5 and rounded up (proofs/Rounding)
abbrev pub blocks : ℕ → ℕ
blocks n = (n + 4) / 5

-- A, R or C; E where no record
abbrev pub verdict_letter : Verdict → ℕ
verdict_letter v = letter_of letter_e v

unfoldable pub letter_for : Campaign → ℕ
letter_for c = verdict_letter (verdict_of c)

-- A, R or O
abbrev pub standing_letter : Standing → ℕ
standing_letter Accepted = letter_a
standing_letter Rejected = letter_r
standing_letter Open = 79

-- ---- a situation's line: number, N, N*, T, letter, blocks
unfoldable pub four_text : ℕ → ℕ → ℕ → ℕ → List ℕ
four_text a b c d = field_text a tab ++ (field_text b tab ++ (field_text c tab ++ field_text d tab))

unfoldable pub situation_text : ℕ → Campaign → List ℕ
situation_text number c = four_text number c.failures (censored c) c.exposure ++ (letter_for c ∷ tab ∷ field_text (blocks c.failures) line_feed)

-- the lines of situations, from the number of the first on
unfoldable pub lines_from : ℕ → List Campaign → List ℕ
lines_from number [] = []
lines_from number (c ∷ cs) = situation_text number c ++ lines_from (number + 1) cs

-- ---- the last line: the word total, the sums of M, N, T and blocks, the letter
unfoldable pub sum_of : (Campaign → ℕ) → List Campaign → ℕ
sum_of figure [] = 0
sum_of figure (c ∷ cs) = figure c + sum_of figure cs

abbrev pub total_of : List Campaign → Total
total_of cs =
    record {
      records = sum_of (λ c. c.records) cs;
      failures = sum_of (λ c. c.failures) cs;
      exposure = sum_of (λ c. c.exposure) cs;
      blocks = sum_of (λ c. blocks c.failures) cs;
    }

abbrev pub total_word : List ℕ
total_word = 116 ∷ 111 ∷ 116 ∷ 97 ∷ 108 ∷ tab ∷ []

unfoldable pub total_text : Total → ℕ → List ℕ
total_text t letter = total_word ++ (four_text t.records t.failures t.exposure t.blocks ++ (letter ∷ line_feed ∷ []))

-- THE REPORT: situations are numbered 1, 2, 3, ..
unfoldable pub report_text : List Campaign → List ℕ
report_text cs = lines_from 1 cs ++ total_text (total_of cs) (standing_letter (standing cs))
