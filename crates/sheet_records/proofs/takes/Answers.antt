-- `sheet_records::takes` meets its contract: test by test. Assumes nothing.
use Rattle.sheet_records.specs.Pass.{taken_after}
use Rattle.sheet_records.proofs.takes.Goals as goal

pub returns : goal.returns
unfolding taken_after
returns c = c.both.ensures
