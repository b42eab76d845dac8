-- `peak_envelope::onward` meets its contract: groups that fit move on. Assumes nothing.
use mathlib.Core.Path.{◌∙◌}
use Rattle.peak_machine.proofs.Fits.{advanced_fits}
use Rattle.peak_envelope.proofs.onward.Goals as goal

pub returns : goal.returns
returns c =
    (c.advance-f.ensures ∙ advanced_fits _ _ _ _ _ c.requires, c.hand.ensures.0, c.hand.ensures.1)
