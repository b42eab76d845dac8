-- Where a condition stands, exactly: rejected if one campaign is rejected, accepted if all are accepted, open
-- otherwise, and each only then. No campaign is both, having one verdict. Assumes nothing.
use Prim.Native.Nat.{ℕ}
use mathlib.Core.Path.{◌≡◌, refl, sym, ◌∙◌}
use mathlib.Core.Bool.{Bool, false, true, ◌||◌}
use mathlib.Core.List.{List, [], ◌∷◌}
use Rattle.truth.proofs.Cases.{by_test}
use Rattle.truth.proofs.Laws.{and-true, impossible, true≢false}
use Rattle.campaign_state.specs.declared.Campaign.{Campaign}
use Rattle.campaign_verdict.specs.Answers.{judging}
use Rattle.campaign_verdict.specs.declared.Verdict.TheVariants.{Accept, Continue, NoRecord, Reject}
use Rattle.campaign_condition.specs.Standing.{All, One, accepted, acceptance, all_accepted, another, done, holds_in, next, one_rejected, rejected, rejection, standing, this}
use Rattle.campaign_condition.specs.declared.Standing.TheVariants.{Accepted, Open, Rejected}
use Rattle.refusal.specs.declared.Refusal.{Refusal}
use Rattle.campaign_verdict.specs.declared.Verdict.{Verdict}
use Rattle.std.specs.Prelude.{Result, Ok, Err}

pub never_both : (c : Campaign) → accepted c ≡ true → rejected c ≡ true → ⊥
unfolding accepted rejected
never_both c a r = go (judging c) a r
  where
    go : (j : Result Verdict Refusal) → holds_in acceptance j ≡ true → holds_in rejection j ≡ true → ⊥
    go (Ok (Accept y)) a r = true≢false (sym r)
    go (Ok (Reject x)) a r = true≢false (sym a)
    go (Ok (Continue x y)) a r = true≢false (sym a)
    go (Ok NoRecord) a r = true≢false (sym a)
    go (Err f) a r = true≢false (sym a)

-- ---- the tests over a list, in words
one_is : (cs : List Campaign) → one_rejected cs ≡ true → One rejected cs
unfolding one_rejected
one_is [] e = absurd (true≢false (sym e))
one_is (c ∷ cs) e = by_test (rejected c) (λ r. this r) (λ r. another (one_is cs (rw r at e)))

is_one : (cs : List Campaign) → One rejected cs → one_rejected cs ≡ true
unfolding one_rejected
is_one [] x' = elim x' [ ]
is_one (c ∷ cs) (this r) = rw r
is_one (c ∷ cs) (another o) = rw (is_one cs o) (or-true (rejected c))
  where
    or-true : (a : Bool) → (a || true) ≡ true
    or-true true = refl
    or-true false = refl

all_are : (cs : List Campaign) → all_accepted cs ≡ true → All accepted cs
unfolding all_accepted
all_are [] e = done
all_are (c ∷ cs) e = let (a, rest) = and-true (accepted c) (all_accepted cs) e in next a (all_are cs rest)

are_all : (cs : List Campaign) → All accepted cs → all_accepted cs ≡ true
unfolding all_accepted
are_all [] done = refl
are_all (c ∷ cs) (next a rest) = rw (a, are_all cs rest)

-- where all are accepted none is rejected
none_rejected : (cs : List Campaign) → All accepted cs → One rejected cs → ⊥
none_rejected [] _ x3 = elim x3 [ ]
none_rejected (c ∷ cs) (next a rest) (this r) = never_both c a r
none_rejected (c ∷ cs) (next a rest) (another o) = none_rejected cs rest o

-- ---- the three standings
rejected≢accepted : ¬ (Rejected ≡ Accepted)
rejected≢accepted e = impossible (cc)

rejected≢open : ¬ (Rejected ≡ Open)
rejected≢open e = impossible (cc)

accepted≢open : ¬ (Accepted ≡ Open)
accepted≢open e = impossible (cc)

module _ (cs : List Campaign) where
  pub rejected_if : One rejected cs → standing cs ≡ Rejected
  unfolding standing
  rejected_if o = rw (is_one cs o)

  pub accepted_if : All accepted cs → standing cs ≡ Accepted
  unfolding standing
  accepted_if a = rw (not-one, are_all cs a)
    where
      not-one : one_rejected cs ≡ false
      not-one = by_test (one_rejected cs) (λ o. absurd (none_rejected cs a (one_is cs o))) (λ o. o)

  pub open_if : ¬ One rejected cs → ¬ All accepted cs → standing cs ≡ Open
  unfolding standing
  open_if none some =
      by_test (one_rejected cs)
      (λ o. absurd (none (one_is cs o)))
      (λ o. by_test (all_accepted cs) (λ a. absurd (some (all_are cs a))) (λ a. rw (o, a)))

  pub only_rejected : standing cs ≡ Rejected → One rejected cs
  unfolding standing
  only_rejected e =
      by_test (one_rejected cs)
      (λ o. one_is cs o)
      (λ o. by_test (all_accepted cs) (λ a. absurd (rejected≢accepted (sym (rw (o, a) at e)))) (λ a. absurd (rejected≢open (sym (rw (o, a) at e)))))

  pub only_accepted : standing cs ≡ Accepted → All accepted cs
  unfolding standing
  only_accepted e =
      by_test (one_rejected cs)
      (λ o. absurd (rejected≢accepted (rw o at e)))
      (λ o. by_test (all_accepted cs) (λ a. all_are cs a) (λ a. absurd (accepted≢open (sym (rw (o, a) at e)))))

  pub only_open : standing cs ≡ Open → ¬ One rejected cs × ¬ All accepted cs
  only_open e = (λ o. rejected≢open (sym (rejected_if o) ∙ e), λ a. accepted≢open (sym (accepted_if a) ∙ e))
