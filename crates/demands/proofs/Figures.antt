-- Documents 01 and 02: the figures that they print, as computed tables. Each refusal has its number and returns its
-- value; Ends has the ends of each range. Assumes nothing.
use mathlib.Core.Path.{◌≡◌, refl}
use mathlib.Core.Bool.{false, true}
use mathlib.Core.List.{List, [], ◌∷◌, map}
use Prim.Native.Nat.{ℕ}
use Rattle.refusal.specs.declared.Refusal.{Refusal}
use Rattle.refusal.specs.declared.Refusal.TheVariants.{Acceleration, BrokenState, BureauFull, CampaignFull, CommaLine, Item}
use Rattle.refusal.specs.declared.Refusal.TheVariants.{Line, NoBureau, NotItsOwn, Peak, Room, RowsUsedUp, Sample, Situation}
use Rattle.refusal.specs.declared.Refusal.TheVariants.{LowLevel, NoSpread, TimedSamples}
use Rattle.refusal.specs.declared.Refusal.TheVariants.{Situations, SumFull, Tail, TooLong, TooShort, Unequal}
use Rattle.refusal.specs.Numbers.{channel_of, number_of, value_of}
use Rattle.campaign_condition.specs.Answers.{situations_in_range}
use Rattle.decimal.specs.Decimal.{longest}
use Rattle.sheet_line.specs.Column.{most_number}
use Rattle.sheet_line.specs.Form.{longest_sheet_line}
use Rattle.binomial_sum.specs.State.{would_pass}
use Rattle.binomial_sum.specs.declared.Sum.{Sum}
use Rattle.peak_tail.specs.Fitting.{peak_in_range, tail_outside}

-- ---- the statement
-- what a refusal tells: number, value, channel
abbrev tells : Refusal → List ℕ
tells r = number_of r ∷ value_of r ∷ channel_of r ∷ []

abbrev refusals : List Refusal
refusals =
    Item 91 ∷ Sample 92 ∷ Acceleration 92 ∷ TooLong ∷ TooShort ∷ CampaignFull ∷ RowsUsedUp ∷ Room 97
    ∷ BrokenState ∷ Situation 98 ∷ Line 99 ∷ CommaLine 910 ∷ SumFull ∷ Unequal
    ∷ NoBureau ∷ BureauFull ∷ NotItsOwn ∷ Tail ∷ Peak 917 ∷ Situations ∷ TimedSamples
    ∷ LowLevel 920 ∷ NoSpread ∷ []

abbrev summed : ℕ → ℕ → Sum
summed N P = record { step = 1; failures = N; samples = P }

pub record Figures : Type 0 where
  pub refusal_numbers : map tells refusals
      ≡ (1 ∷ 91 ∷ 0 ∷ []) ∷ (2 ∷ 92 ∷ 1 ∷ []) ∷ (2 ∷ 92 ∷ 2 ∷ []) ∷ (3 ∷ 0 ∷ 0 ∷ []) ∷ (4 ∷ 0 ∷ 0 ∷ [])
      ∷ (5 ∷ 0 ∷ 0 ∷ []) ∷ (6 ∷ 0 ∷ 0 ∷ []) ∷ (7 ∷ 97 ∷ 0 ∷ []) ∷ (8 ∷ 0 ∷ 0 ∷ []) ∷ (8 ∷ 98 ∷ 0 ∷ [])
      ∷ (9 ∷ 99 ∷ 0 ∷ []) ∷ (10 ∷ 910 ∷ 0 ∷ []) ∷ (11 ∷ 0 ∷ 0 ∷ []) ∷ (12 ∷ 0 ∷ 0 ∷ []) ∷ (13 ∷ 0 ∷ 0 ∷ [])
      ∷ (14 ∷ 0 ∷ 0 ∷ []) ∷ (15 ∷ 0 ∷ 0 ∷ []) ∷ (16 ∷ 0 ∷ 0 ∷ []) ∷ (17 ∷ 917 ∷ 0 ∷ []) ∷ (18 ∷ 0 ∷ 0 ∷ [])
      ∷ (19 ∷ 0 ∷ 0 ∷ []) ∷ (20 ∷ 920 ∷ 0 ∷ []) ∷ (21 ∷ 0 ∷ 0 ∷ []) ∷ []
  -- a number on a sheet has at most 12 digits, a line at most 64 bytes
  pub sheet_numbers : (longest ≡ 12) × (most_number ≡ 999999999999) × (longest_sheet_line ≡ 64)
  -- [7] 10,000 failures and 100,000,000 samples are the most of a sum
  pub sums :
      would_pass (summed 9999 9999) 1 1 ∷ would_pass (summed 10000 10000) 1 1
      ∷ would_pass (summed 0 99999999) 0 1 ∷ would_pass (summed 0 100000000) 0 1
      ∷ []
      ≡ false ∷ true ∷ false ∷ true ∷ []
  -- [12] 4,096 peaks, k from 2 to their number, a peak from 1 to 1,000,000
  pub tails :
      tail_outside 4096 2 ∷ tail_outside 4096 4096 ∷ tail_outside 4097 2 ∷ tail_outside 4096 1 ∷ tail_outside 2 3 ∷ []
      ≡ false ∷ false ∷ true ∷ true ∷ true ∷ []
  pub peaks : map peak_in_range (0 ∷ 1 ∷ 1000000 ∷ 1000001 ∷ []) ≡ false ∷ true ∷ true ∷ false ∷ []
  -- [13] 1 to 64 situations
  pub situations : map situations_in_range (0 ∷ 1 ∷ 64 ∷ 65 ∷ []) ≡ false ∷ true ∷ true ∷ false ∷ []

-- ---- the proof
pub figures : Figures
figures =
    record {
      refusal_numbers = refl;
      sheet_numbers = (refl, refl, refl);
      sums = refl;
      tails = refl;
      peaks = refl;
      situations = refl;
    }
