-- A refusal's number has at most two digits. Assumes nothing.
use Prim.Native.Nat.{◌<◌}
use native.Mathlib.Omega.{arith}
use Rattle.refusal.specs.declared.Refusal.{Refusal}
use Rattle.refusal.specs.declared.Refusal.TheVariants.{Item, Sample, TooLong, TooShort, CampaignFull, RowsUsedUp}
use Rattle.refusal.specs.declared.Refusal.TheVariants.{Room, BrokenState, Line, CommaLine, SumFull, Unequal}
use Rattle.refusal.specs.declared.Refusal.TheVariants.{NoBureau, BureauFull, NotItsOwn, Tail, Peak, Situations}
use Rattle.refusal.specs.declared.Refusal.TheVariants.{Situation, Acceleration, TimedSamples, LowLevel, NoSpread}
use Rattle.refusal.specs.Numbers.{number_of}

pub number_small : (r : Refusal) → number_of r < 100
number_small (Item i) = omega arith
number_small (Sample p) = omega arith
number_small TooLong = omega arith
number_small TooShort = omega arith
number_small CampaignFull = omega arith
number_small RowsUsedUp = omega arith
number_small (Room k) = omega arith
number_small BrokenState = omega arith
number_small (Line l) = omega arith
number_small (CommaLine l) = omega arith
number_small SumFull = omega arith
number_small Unequal = omega arith
number_small NoBureau = omega arith
number_small BureauFull = omega arith
number_small NotItsOwn = omega arith
number_small Tail = omega arith
number_small (Peak p) = omega arith
number_small Situations = omega arith
number_small (Situation k) = omega arith
number_small (Acceleration p) = omega arith
number_small TimedSamples = omega arith
number_small (LowLevel y) = omega arith
number_small NoSpread = omega arith
