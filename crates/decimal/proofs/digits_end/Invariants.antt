-- `decimal::digits_end` meets its contract. The invariant: the digits from here on end where those from `at` on
-- end; from a place past the text's end none is looked at. Assumes nothing.
use mathlib.Core.Path.{◌≡◌}
use Prim.Native.Nat.{◌<◌}
use lib.ListN.{length}
use Rattle.decimal.proofs.Ends.{Reached}
use Rattle.decimal.proofs.digits_end.Given as goal

abbrev pub invariant-loop-i : goal.invariant-loop-i
invariant-loop-i l = (Reached l.s l.i ≡ Reached l.s l.at) × (length l.s < l.at → l.i ≡ l.at)
