-- `sheet_line::bad_record` meets its contract: a campaign that keeps its relations has few enough records for the
-- line's number to fit. Assumes nothing.
use native.Mathlib.Omega.{arith}
use Rattle.truth.proofs.Laws.{holds}
use Rattle.campaign_state.proofs.Relations.{kept_from}
use Rattle.sheet_line.proofs.bad_record.Goals as goal

pub overflow_add-line : goal.overflow_add-line
overflow_add-line c = omega (arith, (kept_from _ (holds c.requires)).records)

pub overflow_add-c : goal.overflow_add-c
overflow_add-c c = omega (arith, (kept_from _ (holds c.requires)).records)
