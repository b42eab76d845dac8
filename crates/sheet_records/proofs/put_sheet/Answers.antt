-- `sheet_records::put_sheet` meets its contract: line 1 takes itself off the sheet, and the lines are the rest. Assumes
-- nothing.
use native.Mathlib.Omega.{arith}
use Rattle.text.proofs.Parts.{Left, left_all, left-fits, left_next, left_last}
use Rattle.sheet_line.specs.Texts.{head_text}
use Rattle.sheet_records.specs.Ledger.{lines_from, sheet_text}
use Rattle.sheet_records.proofs.Puts.{sheet_bytes}
use Rattle.sheet_records.proofs.put_sheet.Goals as goal
use Rattle.sheet_records.proofs.put_sheet.Goals.{After-put_head-lines}

module _ (c : After-put_head-lines) where
  left : Left c.args.out.now 0 (sheet_text c.args.q c.args.records.now) (lines_from 1 c.args.records.now) c.put_head-lines.new.out c.put_head-lines.result
  unfolding sheet_text
  left = left_next (head_text c.args.q) _ (left_all _ 0 (sheet_text c.args.q c.args.records.now) (omega (arith, c.requires.1))) (c.put_head-lines.ensures.value, c.put_head-lines.ensures.out_after)

pub put_head-lines-requires : goal.put_head-lines-requires
put_head-lines-requires c =
    omega (arith, c.requires.1, sheet_bytes c.args.q c.args.records.now)

pub put_lines-requires : goal.put_lines-requires
put_lines-requires c = (c.requires.0, left-fits (left (goal.at.put_lines-requires c).After-put_head-lines))

pub returns : goal.returns
returns c =
    (left_last (left (goal.at.returns c).After-put_head-lines) (c.put_lines.ensures.value, c.put_lines.ensures.out_after)).1
