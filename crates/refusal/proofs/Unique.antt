-- Two refusals with the same number, value and channel are the same refusal, so a promise that settles these settles
-- the refusal. The pairs of cases need no telling apart: `from` makes the refusal out of them. Number 8 has two cases,
-- which the value tells apart, since situations are counted from 1; number 2 has two, which the channel tells apart.
-- Assumes nothing.
use mathlib.Core.Path.{◌≡◌, refl, sym, ◌∙◌}
use mathlib.Core.Bool.{cond}
use Prim.Native.Nat.{ℕ, ◌≤◌}
use native.Mathlib.Omega.{arith}
use lib.Dec.{eqb}
use borrow.Author.Tests.{ne_eqb}
use Rattle.refusal.specs.declared.Refusal.{Refusal}
use Rattle.refusal.specs.declared.Refusal.TheVariants.{Item, Sample, TooLong, TooShort, CampaignFull, RowsUsedUp}
use Rattle.refusal.specs.declared.Refusal.TheVariants.{Room, BrokenState, Line, CommaLine, SumFull, Unequal}
use Rattle.refusal.specs.declared.Refusal.TheVariants.{NoBureau, BureauFull, NotItsOwn, Tail, Peak, Situations}
use Rattle.refusal.specs.declared.Refusal.TheVariants.{Situation, Acceleration, TimedSamples, LowLevel, NoSpread}
use Rattle.refusal.specs.Numbers.{number_of, value_of, channel_of}

-- the refusal of a number, a value and a channel, row by row
abbrev from : ℕ → ℕ → ℕ → Refusal
from n v k =
    cond (eqb n 1) (Item v)
    (cond (eqb n 2) (cond (eqb k 1) (Sample v) (Acceleration v))
    (cond (eqb n 3) TooLong
    (cond (eqb n 4) TooShort
    (cond (eqb n 5) CampaignFull
    (cond (eqb n 6) RowsUsedUp
    (cond (eqb n 7) (Room v)
    (cond (eqb n 8) (cond (eqb v 0) BrokenState (Situation v))
    (cond (eqb n 9) (Line v)
    (cond (eqb n 10) (CommaLine v)
    (cond (eqb n 11) SumFull
    (cond (eqb n 12) Unequal
    (cond (eqb n 13) NoBureau
    (cond (eqb n 14) BureauFull
    (cond (eqb n 15) NotItsOwn
    (cond (eqb n 16) Tail
    (cond (eqb n 17) (Peak v)
    (cond (eqb n 18) Situations
    (cond (eqb n 19) TimedSamples
    (cond (eqb n 20) (LowLevel v)
    NoSpread)))))))))))))))))))

-- a situation's number is counted from 1
abbrev pub FromOne : Refusal → Type 0
FromOne r = (k : ℕ) → r ≡ Situation k → 1 ≤ k

from_own : (r : Refusal) → FromOne r → from (number_of r) (value_of r) (channel_of r) ≡ r
from_own (Item i) h = refl
from_own (Sample p) h = refl
from_own TooLong h = refl
from_own TooShort h = refl
from_own CampaignFull h = refl
from_own RowsUsedUp h = refl
from_own (Room k) h = refl
from_own BrokenState h = refl
from_own (Line l) h = refl
from_own (CommaLine l) h = refl
from_own SumFull h = refl
from_own Unequal h = refl
from_own NoBureau h = refl
from_own BureauFull h = refl
from_own NotItsOwn h = refl
from_own Tail h = refl
from_own (Peak p) h = refl
from_own Situations h = refl
from_own (Acceleration p) h = refl
from_own TimedSamples h = refl
from_own (LowLevel y) h = refl
from_own NoSpread h = refl
from_own (Situation k) h = let low : 1 ≤ k = h k refl in rw (ne_eqb k 0 (omega arith))

-- the functions' promises settle their answers
pub number_unique : (r : Refusal) (n m : ℕ) → n ≡ number_of r → m ≡ number_of r → n ≡ m
number_unique r n m p q = cc

pub carried_unique : (r : Refusal) (v w : ℕ) → v ≡ value_of r → w ≡ value_of r → v ≡ w
carried_unique r v w p q = cc

pub channel_unique : (r : Refusal) (k j : ℕ) → k ≡ channel_of r → j ≡ channel_of r → k ≡ j
channel_unique r k j p q = cc

pub refusal_unique : (r s : Refusal) → FromOne r → FromOne s → number_of r ≡ number_of s → value_of r ≡ value_of s → channel_of r ≡ channel_of s → r ≡ s
refusal_unique r s f g n v k = sym (from_own r f) ∙ rw (n, v, k) (from_own s g)
