-- The look at the campaigns on its way: what was seen and what is left to see add up to what there is (`Along`). A
-- campaign more keeps that, and at the end all is seen. Assumes nothing.
use Prim.Native.Nat.{ℕ, ◌+◌, ◌≤◌}
use mathlib.Core.Path.{◌≡◌, refl, sym, ◌∙◌}
use mathlib.Core.Bool.{Bool, and_assoc, cond, false, or_assoc, true, ◌&&◌, ◌||◌}
use mathlib.Core.List.{List, [], ◌∷◌}
use native.Mathlib.Omega.{arith}
use lib.Dec.{eqb}
use borrow.Author.Tests.{eqb-true, ne_eqb}
use Rattle.truth.proofs.Cases.{by_test}
use Rattle.campaign_state.specs.declared.Campaign.{Campaign}
use Rattle.campaign_state.specs.State.{sound}
use Rattle.campaign_condition.specs.Standing.{accepted, all_accepted, one_rejected, rejected}
use Rattle.campaign_condition.specs.Answers.{broken_from, lower, lowest_broken, seen_of}

-- before i campaigns this was seen, these are left
pub record Along (cs rest : List Campaign) (i broken : ℕ) (one all : Bool) : Type 0 where
  pub lowest : cond (eqb broken 0) (broken_from (i + 1) rest) broken ≡ lowest_broken cs
  pub rejects : (one || one_rejected rest) ≡ one_rejected cs
  pub accepts : (all && all_accepted rest) ≡ all_accepted cs

pub start : (cs : List Campaign) → Along cs cs 0 0 false true
start cs = record { lowest = refl; rejects = refl; accepts = refl }

-- the lowest so far decides, or else the one that is looked at, or else those left
lower_or : (s : Bool) (b n left : ℕ) → 1 ≤ n → cond (eqb (cond (eqb b 0) (cond s 0 n) b) 0) left (cond (eqb b 0) (cond s 0 n) b) ≡ cond (eqb b 0) (cond s left n) b
lower_or true b n left h = by_test (eqb b 0) (λ e. rw e) (λ e. rw (e, e))
lower_or false b n left h = by_test (eqb b 0) (λ e. rw (e, ne_eqb n 0 (omega arith))) (λ e. rw (e, e))

module _ {cs : List Campaign} {i broken : ℕ} {one all : Bool} where
  pub on : {rest : List Campaign} (c : Campaign) (later : List Campaign) → rest ≡ c ∷ later → Along cs rest i broken one all
      → Along cs later (i + 1) (lower broken (i + 1) c) (one || rejected c) (all && accepted c)
  unfolding broken_from one_rejected all_accepted
  on c later e a =
      record {
        lowest = lower_or (sound c) broken (i + 1) (broken_from (i + 1 + 1) later) (omega arith) ∙ rw e at a.lowest;
        rejects = or_assoc one (rejected c) (one_rejected later) ∙ rw e at a.rejects;
        accepts = and_assoc all (accepted c) (all_accepted later) ∙ rw e at a.accepts;
      }

  pub ended : {rest : List Campaign} → rest ≡ [] → Along cs rest i broken one all → record { broken = broken; rejected = one; accepted = all } ≡ seen_of cs
  unfolding broken_from one_rejected all_accepted
  ended e a =
      let low : cond (eqb broken 0) 0 broken ≡ lowest_broken cs = rw e at a.lowest in
      let rej : (one || false) ≡ one_rejected cs = rw e at a.rejects in
      let acc : (all && true) ≡ all_accepted cs = rw e at a.accepts in
      let b : broken ≡ lowest_broken cs = sym (same broken) ∙ low in
      rw (b, sym (or-none one) ∙ rej, sym (and_all all) ∙ acc)
    where
      same : (b : ℕ) → cond (eqb b 0) 0 b ≡ b
      same b = by_test (eqb b 0) (λ t. rw t (sym (eqb-true b 0 t))) (λ t. rw t)

      or-none : (b : Bool) → (b || false) ≡ b
      or-none true = refl
      or-none false = refl

      and_all : (b : Bool) → (b && true) ≡ b
      and_all true = refl
      and_all false = refl
