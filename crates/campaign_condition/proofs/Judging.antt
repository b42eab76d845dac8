-- What judging answers, from what was seen of the campaigns. Assumes nothing.
use Prim.Native.Nat.{ℕ}
use mathlib.Core.Path.{◌≡◌, ap}
use mathlib.Core.Bool.{false, true}
use mathlib.Core.List.{List}
use borrow.Author.Tests.{eq-eqb, ne_eqb}
use Rattle.refusal.specs.declared.Refusal.TheVariants.{Situation}
use Rattle.campaign_state.specs.declared.Campaign.{Campaign}
use Rattle.campaign_condition.specs.Standing.{all_accepted, one_rejected, standing}
use Rattle.campaign_condition.specs.Answers.{situations_in_range, judging, lowest_broken, seen_of}
use Rattle.campaign_condition.specs.declared.Seen.{Seen}
use Rattle.campaign_condition.specs.declared.Standing.TheVariants.{Accepted, Open, Rejected}
use Rattle.std.specs.Prelude.{Ok, Err}

module _ (number : ℕ) (cs : List Campaign) (range : situations_in_range number ≡ true) {s : Seen} (is : s ≡ seen_of cs) where
  low : s.broken ≡ lowest_broken cs
  low = ap (λ (x : Seen). x.broken) is

  one : s.rejected ≡ one_rejected cs
  one = ap (λ (x : Seen). x.rejected) is

  all : s.accepted ≡ all_accepted cs
  all = ap (λ (x : Seen). x.accepted) is

  pub at_fault : ¬ (s.broken ≡ 0) → Err (Situation s.broken) ≡ judging number cs
  unfolding judging
  at_fault n = rw (range, ← low, ne_eqb s.broken 0 n)

  module _ (whole : s.broken ≡ 0) where
    pub one_bad : s.rejected ≡ true → Ok Rejected ≡ judging number cs
    unfolding judging standing
    one_bad r = rw (range, ← low, eq-eqb s.broken 0 whole, ← one, r)

    pub all_good : s.rejected ≡ false → s.accepted ≡ true → Ok Accepted ≡ judging number cs
    unfolding judging standing
    all_good r a = rw (range, ← low, eq-eqb s.broken 0 whole, ← one, r, ← all, a)

    pub all_open : s.rejected ≡ false → s.accepted ≡ false → Ok Open ≡ judging number cs
    unfolding judging standing
    all_open r a = rw (range, ← low, eq-eqb s.broken 0 whole, ← one, r, ← all, a)
