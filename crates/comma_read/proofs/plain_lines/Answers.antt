-- `comma_read::plain_lines` meets its contract: where there is no line to look at there are none, and else the run has
-- them. Assumes nothing.
use Rattle.comma_read.specs.Plain.{none}
use Rattle.comma_read.proofs.plain_lines.Goals as goal

pub returns-then-not-looks_plain : goal.returns-then-not-looks_plain
returns-then-not-looks_plain c = rw (c.no_lines.ensures.0, c.no_lines.ensures.1) none
