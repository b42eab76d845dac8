-- How a program ended, by its digit. Assumes nothing.
use Rattle.std.specs.Prelude.{ℕ, Result, Ok, Err}
use Rattle.desk_line.specs.Said.{read_digit, refused_digit, failed_digit}
use Rattle.prog_desk.specs.declared.Broken.{Broken}
use Rattle.prog_desk.specs.declared.Ended.{Ended}
use Rattle.prog_desk.specs.declared.Ended.TheVariants.{Read, Refused}

abbrev pub digit_of : Result Ended Broken → ℕ
digit_of (Ok Read) = read_digit
digit_of (Ok Refused) = refused_digit
digit_of (Err b) = failed_digit
