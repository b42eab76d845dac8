-- What the program's loop counts with: the bytes of a line begun that a turn keeps. Assumes nothing.
use Rattle.std.specs.Prelude.{ℕ, Result, Ok, Err}
use Rattle.std.specs.declared.ops.ControlFlow.{ControlFlow}
use Rattle.std.specs.declared.ops.ControlFlow.TheVariants.{Continue, Break}
use Rattle.prog_desk.specs.declared.Broken.{Broken}
use Rattle.prog_desk.specs.declared.Ended.{Ended}
use Rattle.prog_tally.specs.declared.Begun.{Begun}

abbrev pub kept_by : Result (ControlFlow Ended Begun) Broken → ℕ
kept_by (Ok (Continue b)) = b.kept
kept_by (Ok (Break end)) = 0
kept_by (Err e) = 0
