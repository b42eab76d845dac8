-- `comma_read::plain_taken` meets its contract: where there is no line to look at nothing is put, and else the run puts
-- its samples. Assumes nothing.
use Rattle.std.proofs.Common.{arith}
use Rattle.comma_read.specs.Plain.{as_it_stood}
use Rattle.comma_read.proofs.plain_taken.Goals as goal

pub returns-then-not-looks_plain : goal.returns-then-not-looks_plain
returns-then-not-looks_plain c =
    record { plain_put = rw (c.no_lines.ensures.0, c.no_lines.ensures.1) as_it_stood; lines_in_bounds = omega (arith, c.no_lines.ensures.1, c.requires) }
