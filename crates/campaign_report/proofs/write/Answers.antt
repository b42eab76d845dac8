-- `campaign_report::write` meets its contract: a refusal of the condition leaves `out` as it stood. Assumes nothing.
use mathlib.Core.Path.{refl, sym, ◌∙◌}
use lib.ListN.{take}
use Rattle.text.specs.Write.{laid_by}
use Rattle.truth.proofs.Answers.{handed_on}
use Rattle.campaign_report.proofs.Texts.{at_fault}
use Rattle.campaign_report.proofs.write.Goals as goal

pub returns-in_err-s : goal.returns-in_err-s
unfolding laid_by
returns-in_err-s c =
    let a = c.args in
    rw (handed_on _ c.from_residual.ensures)
    (record { value = at_fault a.number (take a.number a.campaigns) a.out.now (sym c.judge.ensures ∙ c.in_err-s.was); out_after = refl })

pub write_standing-requires : goal.write_standing-requires
write_standing-requires c = sym c.judge.ensures ∙ c.in_ok-s.was
