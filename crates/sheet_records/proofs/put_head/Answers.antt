-- `sheet_records::put_head` meets its contract: line 1 is written part by part, each taking itself off what is left of
-- it. Assumes nothing.
use mathlib.Core.List.{[], ◌∷◌}
use native.Mathlib.Omega.{arith}
use Rattle.text.proofs.Parts.{Left, left_all, left_next, left_last}
use Rattle.decimal.specs.Decimal.{digits_of}
use Rattle.decimal.specs.Field.{line_feed, field_text}
use Rattle.sheet_line.specs.Form.{standard_start}
use Rattle.sheet_line.specs.Texts.{head_text}
use Rattle.sheet_records.proofs.put_head.Goals as goal
use Rattle.sheet_records.proofs.put_head.Goals.{After-write_number-feed}

-- of line 1 so much is left, and the lent bytes are these
module _ (c : After-write_number-feed) where
  left1 : Left c.args.out.now 0 (head_text c.args.q) (field_text c.args.q line_feed) c.write_bytes-number.new.out c.write_bytes-number.result
  left1 = left_next standard_start (field_text c.args.q line_feed) (left_all _ 0 (head_text c.args.q) (omega (arith, c.requires))) (c.write_bytes-number.ensures.value, c.write_bytes-number.ensures.out_after)

module _ (c : After-write_number-feed) where
  left2 : Left c.args.out.now 0 (head_text c.args.q) (line_feed ∷ []) c.write_number-feed.new.out c.write_number-feed.result
  unfolding field_text
  left2 = left_next (digits_of c.args.q) (line_feed ∷ []) (left1 c) (c.write_number-feed.ensures.value, c.write_number-feed.ensures.out_after)

pub returns : goal.returns
returns c =
    let whole = left_last (left2 (goal.at.returns c).After-write_number-feed) (c.write_byte.ensures.value, c.write_byte.ensures.out_after) in record { value = whole.0; out_after = whole.1 }
