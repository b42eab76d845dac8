-- An array of copies is as long as their number, which is too large to be counted out.
use Rattle.std.proofs.Common.{ℕ, sym}
use Rattle.std.proofs.lemmas.List.{length-replicate}
use Rattle.prog_sheet.proofs.room_for_the_sheet.Goals as goal

pub returns : goal.returns
returns c = sym (length-replicate {A = ℕ} 1800150 0)
