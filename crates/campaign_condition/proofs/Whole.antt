-- Campaigns that all keep their relations: what is known at the one that is due in a loop over them, and that a
-- standing is given for no others. Assumes nothing.
use Prim.Native.Nat.{ℕ, ◌+◌, ◌≤◌, ◌<◌}
use mathlib.Core.Path.{◌≡◌}
use mathlib.Core.Bool.{true}
use mathlib.Core.List.{List, ◌∷◌}
use native.Mathlib.Omega.{arith}
use lib.Dec.{eqb, leb}
use lib.ListN.{drop, get_or, length, take}
use borrow.Author.Tests.{eqb-true, leb-true}
use Rattle.truth.proofs.Cases.{by_test}
use Rattle.truth.proofs.Laws.{and-true, impossible}
use Rattle.refusal.specs.declared.Refusal.{Refusal}
use Rattle.campaign_state.specs.declared.Campaign.{Campaign}
use Rattle.campaign_state.specs.State.{empty, sound}
use Rattle.campaign_condition.specs.Standing.{standing}
use Rattle.campaign_condition.specs.Answers.{situations_in_range, broken_from, judging, lowest_broken}
use Rattle.campaign_condition.specs.declared.Standing.{Standing}
use Rattle.campaign_condition.proofs.Front.{front_next}
use Rattle.std.specs.Prelude.{Ok, Err}
use Rattle.truth.proofs.Answers.{err_not_ok, same_ok}

pub whole_next : (n : ℕ) (c : Campaign) (cs : List Campaign) → 1 ≤ n → broken_from n (c ∷ cs) ≡ 0 → (sound c ≡ true) × (broken_from (n + 1) cs ≡ 0)
unfolding broken_from
whole_next n c cs h e = by_test (sound c) (λ t. (t, rw t at e)) (λ t. let z : n ≡ 0 = rw t at e in absurd (omega arith))

-- the campaign at i of the first n, where those from i on keep their relations
pub record Due (all : List Campaign) (n i : ℕ) : Type 0 where
  pub next : drop i (take n all) ≡ get_or all i (empty 0) ∷ drop (i + 1) (take n all)
  pub good : sound (get_or all i (empty 0)) ≡ true
  pub whole : broken_from (i + 1 + 1) (drop (i + 1) (take n all)) ≡ 0

pub due : (all : List Campaign) (n i : ℕ) → n ≤ length all → i < n → broken_from (i + 1) (drop i (take n all)) ≡ 0 → Due all n i
due all n i room h e =
    let next = front_next all n room i (empty 0) h in
    let both = whole_next (i + 1) (get_or all i (empty 0)) (drop (i + 1) (take n all)) (omega arith) (rw next at e) in
    record { next = next; good = both.0; whole = both.1 }

-- a standing is given for 1 to 64 campaigns that all keep their relations
pub record Stood (number : ℕ) (cs : List Campaign) (s : Standing) : Type 0 where
  pub range : situations_in_range number ≡ true
  pub few : number ≤ 64
  pub whole : lowest_broken cs ≡ 0
  pub is : s ≡ standing cs

pub stood : (number : ℕ) (cs : List Campaign) (s : Standing) → judging number cs ≡ Ok s → Stood number cs s
unfolding judging
stood number cs s e =
    by_test (situations_in_range number)
    (λ range.
    by_test (eqb (lowest_broken cs) 0)
    (λ t.
    let f : standing cs ≡ s = same_ok (rw (range, t) at e) in
    record { range = range; few = leb-true number 64 (and-true (leb 1 number) (leb number 64) range).1; whole = eqb-true _ _ t; is = cc (f) })
    (λ t. absurd (err_not_ok (rw (range, t) at e))))
    (λ range. absurd (err_not_ok (rw range at e)))
