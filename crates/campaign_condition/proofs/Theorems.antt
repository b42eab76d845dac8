-- What a standing says: one rejected situation is enough, an accepted condition has every situation accepted, so none
-- without a record, and the order of situations does not matter. The situation that is named by refusal 8 is the
-- lowest. Assumes nothing.
use Prim.Native.Nat.{ℕ, ◌+◌, ◌≤◌}
use mathlib.Core.Path.{◌≡◌, refl, sym, ◌∙◌}
use mathlib.Core.Bool.{Bool, and_assoc, false, or_assoc, true, ◌&&◌, ◌||◌}
use mathlib.Core.List.{List, [], ◌∷◌, ◌++◌}
use native.Mathlib.Omega.{arith}
use lib.ListN.{length}
use Rattle.truth.proofs.Cases.{by_test}
use Rattle.truth.proofs.Laws.{and-true, impossible, true≢false}
use Rattle.campaign_state.specs.declared.Campaign.{Campaign}
use Rattle.campaign_state.specs.State.{sound}
use Rattle.campaign_verdict.specs.Answers.{judging}
use Rattle.campaign_verdict.specs.Figures.{accepts, lower_rate, rejects, upper_rate}
use Rattle.campaign_verdict.specs.declared.Verdict.{Verdict}
use Rattle.campaign_verdict.specs.declared.Verdict.TheVariants.{Accept, Continue, NoRecord, Reject}
use Rattle.campaign_verdict.proofs.Only.{given, gives}
use Rattle.campaign_condition.specs.Standing.{accepted, acceptance, all_accepted, holds_in, one_rejected, rejected, rejection, standing}
use Rattle.campaign_condition.specs.Answers.{broken_from, lowest_broken}
use Rattle.campaign_condition.specs.declared.Standing.TheVariants.{Accepted, Open, Rejected}
use Rattle.campaign_condition.proofs.Whole.{whole_next}
use Rattle.refusal.specs.declared.Refusal.{Refusal}
use Rattle.std.specs.Prelude.{Result, Ok, Err}

-- ---- one campaign, by document 01's tests
module _ (c : Campaign) where
  sound_given : (says : Verdict → Bool) → holds_in says (judging c) ≡ true → sound c ≡ true
  unfolding judging
  sound_given says h = by_test (sound c) (λ s. s) (λ s. let never : holds_in says (judging c) ≡ false = rw s in absurd (true≢false (sym h ∙ never)))

  module _ (kept : sound c ≡ true) (some : 1 ≤ c.records) where
    pub rejects_rejected : rejects c ≡ true → rejected c ≡ true
    unfolding rejected
    rejects_rejected r = rw (gives c kept (Reject (lower_rate c)) (some, r, refl))

    pub accepts_accepted : accepts c ≡ true → accepted c ≡ true
    unfolding accepted
    accepts_accepted a = rw (gives c kept (Accept (upper_rate c)) (some, a, refl))

  pub rejected_rejects : rejected c ≡ true → (sound c ≡ true) × (1 ≤ c.records) × (rejects c ≡ true)
  unfolding rejected
  rejected_rejects h = let s = sound_given rejection h in let (some, r) = go s (judging c) refl h in (s, some, r)
    where
      go : sound c ≡ true → (j : Result Verdict Refusal) → judging c ≡ j → holds_in rejection j ≡ true → (1 ≤ c.records) × (rejects c ≡ true)
      go s (Ok (Reject x)) e h = let (some, r, _) = given c s (Reject x) e in (some, r)
      go s (Ok (Accept y)) e h = absurd (true≢false (sym h))
      go s (Ok (Continue x y)) e h = absurd (true≢false (sym h))
      go s (Ok NoRecord) e h = absurd (true≢false (sym h))
      go s (Err r) e h = absurd (true≢false (sym h))

  pub accepted_accepts : accepted c ≡ true → (sound c ≡ true) × (1 ≤ c.records) × (accepts c ≡ true)
  unfolding accepted
  accepted_accepts h = let s = sound_given acceptance h in let (some, a) = go s (judging c) refl h in (s, some, a)
    where
      go : sound c ≡ true → (j : Result Verdict Refusal) → judging c ≡ j → holds_in acceptance j ≡ true → (1 ≤ c.records) × (accepts c ≡ true)
      go s (Ok (Accept y)) e h = let (some, a, _) = given c s (Accept y) e in (some, a)
      go s (Ok (Reject x)) e h = absurd (true≢false (sym h))
      go s (Ok (Continue x y)) e h = absurd (true≢false (sym h))
      go s (Ok NoRecord) e h = absurd (true≢false (sym h))
      go s (Err r) e h = absurd (true≢false (sym h))

-- ---- a campaign among others
one_among : (before : List Campaign) (rest : List Campaign) → one_rejected (before ++ rest) ≡ (one_rejected before || one_rejected rest)
unfolding one_rejected
one_among [] rest = refl
one_among (b ∷ before) rest = rw (one_among before rest) (sym (or_assoc (rejected b) (one_rejected before) (one_rejected rest)))

all_among : (before : List Campaign) (rest : List Campaign) → all_accepted (before ++ rest) ≡ (all_accepted before && all_accepted rest)
unfolding all_accepted
all_among [] rest = refl
all_among (b ∷ before) rest = rw (all_among before rest) (sym (and_assoc (accepted b) (all_accepted before) (all_accepted rest)))

accepted_all : (cs : List Campaign) → standing cs ≡ Accepted → all_accepted cs ≡ true
unfolding standing
accepted_all cs e =
    by_test (one_rejected cs)
    (λ o. let z : Rejected ≡ Accepted = rw o at e in impossible (cc))
    (λ o.
    by_test (all_accepted cs)
    (λ a. a)
    (λ a. let z : Open ≡ Accepted = rw (o, a) at e in impossible (cc)))

module _ (before : List Campaign) (c : Campaign) (after : List Campaign) where
  pub one_rejects : rejected c ≡ true → standing (before ++ (c ∷ after)) ≡ Rejected
  unfolding standing one_rejected
  one_rejects r = rw (one_among before (c ∷ after), r, or-true (one_rejected before))
    where
      or-true : (a : Bool) → (a || true) ≡ true
      or-true true = refl
      or-true false = refl

  pub all_needed : standing (before ++ (c ∷ after)) ≡ Accepted → accepted c ≡ true
  unfolding all_accepted
  all_needed e =
      let all = sym (all_among before (c ∷ after)) ∙ accepted_all (before ++ (c ∷ after)) e in
      (and-true (accepted c) (all_accepted after) (and-true (all_accepted before) (all_accepted (c ∷ after)) all).1).0

  -- without a record in one of them no condition is accepted
  pub empty_open : c.records ≡ 0 → ¬ (standing (before ++ (c ∷ after)) ≡ Accepted)
  empty_open none e = let (_, some, _) = accepted_accepts c (all_needed e) in omega arith

  -- refusal 8 names the lowest
  pub lowest_named : lowest_broken before ≡ 0 → sound c ≡ false → lowest_broken (before ++ (c ∷ after)) ≡ length before + 1
  unfolding broken_from
  lowest_named w b = rw (named 1 before (omega arith) w b) (omega arith)
    where
      named : (n : ℕ) (cs : List Campaign) → 1 ≤ n → broken_from n cs ≡ 0 → sound c ≡ false → broken_from n (cs ++ (c ∷ after)) ≡ n + length cs
      named n [] h w b = rw b (omega arith)
      named n (d ∷ cs) h w b =
          let (good, left) = whole_next n d cs h w in
          rw good (named (n + 1) cs (omega arith) left b ∙ omega arith)

-- two neighbours may change places, and by such changes any order comes from any other
pub order : (before : List Campaign) (a b : Campaign) (after : List Campaign) → standing (before ++ (a ∷ (b ∷ after))) ≡ standing (before ++ (b ∷ (a ∷ after)))
unfolding standing one_rejected all_accepted
order before a b after =
    rw (
      one_among before (a ∷ (b ∷ after)),
      all_among before (a ∷ (b ∷ after)),
      one_among before (b ∷ (a ∷ after)),
      all_among before (b ∷ (a ∷ after)),
      or_turn (rejected a) (rejected b) (one_rejected after),
      and_turn (accepted a) (accepted b) (all_accepted after),
    )
  where
    or_turn : (x y z : Bool) → (x || (y || z)) ≡ (y || (x || z))
    or_turn true true z = refl
    or_turn true false z = refl
    or_turn false true z = refl
    or_turn false false z = refl

    and_turn : (x y z : Bool) → (x && (y && z)) ≡ (y && (x && z))
    and_turn true true z = refl
    and_turn true false z = refl
    and_turn false true z = refl
    and_turn false false z = refl
