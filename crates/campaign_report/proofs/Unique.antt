-- Two answers that the promise allows are the same answer and leave the same bytes: it equates both with a definition's
-- value. Assumes nothing.
use mathlib.Core.Path.{◌≡◌}
use mathlib.Core.List.{List}
use Prim.Native.Nat.{ℕ}
use lib.ListN.{take}
use Rattle.campaign_state.specs.declared.Campaign.{Campaign}
use Rattle.text.specs.Write.{laid_by}
use Rattle.campaign_report.specs.Report.{report_text}
use Rattle.campaign_report.specs.Answers.{writing_report}
use Rattle.refusal.specs.declared.Refusal.{Refusal}
use Rattle.std.specs.Prelude.{Result}

pub write_unique : (all : List Campaign) (number : ℕ) (out later other : List ℕ) (r s : Result ℕ Refusal)
    → r ≡ writing_report number (take number all) out → later ≡ laid_by r (report_text (take number all)) out
    → s ≡ writing_report number (take number all) out → other ≡ laid_by s (report_text (take number all)) out → (r ≡ s) × (later ≡ other)
write_unique all number out later other r s e f g h = (cc, cc)
