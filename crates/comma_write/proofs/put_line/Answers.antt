-- `comma_write::put_line` meets its contract: the line is written part by part, each taking itself off what is left of
-- it. Assumes nothing.
use mathlib.Core.List.{List, [], ◌∷◌, ◌++◌}
use Prim.Native.Nat.{ℕ}
use mir.Facts.{to_z-of_z}
use Rattle.text.proofs.Parts.{Left, left_all, left_next, left_last}
use Rattle.decimal.specs.Decimal.{digits_of}
use Rattle.decimal.specs.Field.{line_feed}
use Rattle.degrees.specs.Degrees.{degrees_text}
use Rattle.comma_line.specs.Line.{comma, sample_text}
use Rattle.comma_write.proofs.put_line.Goals as goal
use Rattle.comma_write.proofs.put_line.Goals.{After-write_degrees-feed}

-- of the line so much is left, and the lent bytes are these
abbrev Stands : After-write_degrees-feed → List ℕ → List ℕ → ℕ → Type 0
Stands c rest out at = Left c.args.out.now c.args.at (sample_text c.args.time c.args.x) rest out at

abbrev Roll : After-write_degrees-feed → List ℕ
Roll c = degrees_text c.args.x ++ (line_feed ∷ [])

left1 : (c : After-write_degrees-feed) → Stands c (comma ∷ Roll c) c.write_number-comma.new.out c.write_number-comma.result
unfolding sample_text
left1 c =
    left_next (digits_of c.args.time) (comma ∷ Roll c) (left_all _ _ (sample_text c.args.time c.args.x) c.requires) (c.write_number-comma.ensures.value, c.write_number-comma.ensures.out_after)

left2 : (c : After-write_degrees-feed) → Stands c (Roll c) c.write_byte-roll.new.out c.write_byte-roll.result
left2 c =
    left_next (comma ∷ []) (Roll c) (left1 c) (c.write_byte-roll.ensures.value, c.write_byte-roll.ensures.out_after)

left3 : (c : After-write_degrees-feed) → Stands c (line_feed ∷ []) c.write_degrees-feed.new.out c.write_degrees-feed.result
left3 c =
    left_next (degrees_text c.args.x) (line_feed ∷ []) (left2 c) (rw (to_z-of_z c.ranges.x) at c.write_degrees-feed.ensures.value, rw (to_z-of_z c.ranges.x) at c.write_degrees-feed.ensures.out_after)

pub returns : goal.returns
returns c =
    let whole = left_last (left3 (goal.at.returns c).After-write_degrees-feed) (c.write_byte.ensures.value, c.write_byte.ensures.out_after) in record { value = whole.0; out_after = whole.1 }
