-- What the program's loop counts with: the bytes of a line begun that a turn keeps, and those of the sheet that are
-- still to come after it. Assumes nothing.
use Rattle.std.specs.Prelude.{ℕ}
use Rattle.std.specs.declared.ops.ControlFlow.{ControlFlow}
use Rattle.std.specs.declared.ops.ControlFlow.TheVariants.{Continue, Break}
use Rattle.sheet_text.specs.declared.Reading.{Reading}
use Rattle.prog_condition.specs.declared.Begun.{Begun}

abbrev pub kept_by : ControlFlow Reading Begun → ℕ
kept_by (Continue b) = b.kept
kept_by (Break reading) = 0

abbrev pub coming_by : ControlFlow Reading Begun → ℕ
coming_by (Continue b) = b.coming
coming_by (Break reading) = 0
