-- The exact figures of some ratios, computed. Assumes nothing.
use Prim.Native.Nat.{◌^◌}
use lib.Dec.{lit<, lit≤}
use Rattle.logarithm.specs.Logarithm.{ExactFigure, units}
use Rattle.logarithm.proofs.Figure.{none_past}

-- log 2 is 1, log 3 is 1.58496.. (a ratio of six digits has powers of a million bits, too large for the checker's step
-- limit)
two : ExactFigure 2 1 65536
two = record { reached = lit≤ tt; greatest = none_past (2 ^ units) (1 ^ units) 65536 (lit< tt) }

three : ExactFigure 3 1 103872
three = record { reached = lit≤ tt; greatest = none_past (3 ^ units) (1 ^ units) 103872 (lit< tt) }

three_halves : ExactFigure 3 2 38336
three_halves = record { reached = lit≤ tt; greatest = none_past (3 ^ units) (2 ^ units) 38336 (lit< tt) }
