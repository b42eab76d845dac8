-- `campaign_report::total_length` meets its contract: the word and its tab are six bytes, each sum has one after it,
-- and the letter and the LF are two. Assumes nothing.
use native.Mathlib.Omega.{arith}
use Rattle.campaign_report.proofs.Texts.{total_bytes}
use Rattle.campaign_report.proofs.total_length.Goals as goal

pub returns : goal.returns
returns c =
    (omega (arith, c.digits.ensures.value, c.digits-2.ensures.value, c.digits-3.ensures.value, c.digits-4.ensures.value, total_bytes c.args.t c.args.letter), omega (arith, c.digits.ensures.upper_bound, c.digits-2.ensures.upper_bound, c.digits-3.ensures.upper_bound, c.digits-4.ensures.upper_bound))
