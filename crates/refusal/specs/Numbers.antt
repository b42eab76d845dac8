-- Document 01, "Refusal numbers", document 02 and [14]: the number of each refusal, and what is returned with it.
-- Assumes nothing.
use Rattle.std.specs.Prelude.{ℕ}
use Rattle.refusal.specs.declared.Refusal.{Refusal}
use Rattle.refusal.specs.declared.Refusal.TheVariants.{Item, Sample, TooLong, TooShort, CampaignFull, RowsUsedUp}
use Rattle.refusal.specs.declared.Refusal.TheVariants.{Room, BrokenState, Line, CommaLine, SumFull, Unequal}
use Rattle.refusal.specs.declared.Refusal.TheVariants.{NoBureau, BureauFull, NotItsOwn, Tail, Peak, Situations}
use Rattle.refusal.specs.declared.Refusal.TheVariants.{Situation, Acceleration, TimedSamples, LowLevel, NoSpread}

-- what a refusal says
pub record Numbers : Type 0 where
  -- the column "No."
  pub number : ℕ
  -- the column "Returns with it": item number, place, number needed, line number, peak; 0 stands for nothing
  pub value : ℕ
  -- the channel of a sample outside its range: 1 for the roll, or the only one, 2 for the acceleration; 0 for any other
  -- refusal
  pub channel : ℕ

abbrev pub carrying : ℕ → ℕ → Numbers
carrying n v = record { number = n; value = v; channel = 0 }

-- the table, row by row
abbrev pub numbers_of : Refusal → Numbers
numbers_of (Item i) = carrying 1 i
numbers_of (Sample p) = record { number = 2; value = p; channel = 1 }
numbers_of TooLong = carrying 3 0
numbers_of TooShort = carrying 4 0
numbers_of CampaignFull = carrying 5 0
numbers_of RowsUsedUp = carrying 6 0
numbers_of (Room k) = carrying 7 k
numbers_of BrokenState = carrying 8 0
numbers_of (Line l) = carrying 9 l
numbers_of (CommaLine l) = carrying 10 l
numbers_of SumFull = carrying 11 0
numbers_of Unequal = carrying 12 0
numbers_of NoBureau = carrying 13 0
numbers_of BureauFull = carrying 14 0
numbers_of NotItsOwn = carrying 15 0
numbers_of Tail = carrying 16 0
numbers_of (Peak p) = carrying 17 p
numbers_of Situations = carrying 18 0
numbers_of (Situation k) = carrying 8 k
numbers_of (Acceleration p) = record { number = 2; value = p; channel = 2 }
numbers_of TimedSamples = carrying 19 0
numbers_of (LowLevel y) = carrying 20 y
numbers_of NoSpread = carrying 21 0

abbrev pub number_of : Refusal → ℕ
number_of r = (numbers_of r).number

abbrev pub value_of : Refusal → ℕ
value_of r = (numbers_of r).value

abbrev pub channel_of : Refusal → ℕ
channel_of r = (numbers_of r).channel
