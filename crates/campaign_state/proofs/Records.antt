-- However many results are entered, the campaign's figures are those of document 000, section 4.2, over the list of
-- them. One more record at the list's end does to the figures what `entered` does; the rest is by induction along the
-- records still to come. Assumes nothing.
use mathlib.Core.Path.{◌≡◌, ap, refl, sym, ◌∙◌}
use mathlib.Core.Bool.{Bool, cond, false, true}
use mathlib.Core.List.{List, [], ◌∷◌, ◌++◌, append_assoc, append-nil, map}
use Prim.Native.Nat.{ℕ, ◌+◌}
use native.Mathlib.Omega.{arith}
use lib.ListN.{length, length-append}
use borrow.Author.Tests.{ne_eqb}
use Rattle.record_state.specs.declared.Record.{Record}
use Rattle.record_end.specs.declared.Outcome.{Outcome}
use Rattle.record_end.proofs.Given.{given}
use Rattle.campaign_state.specs.declared.Campaign.{Campaign}
use Rattle.campaign_state.specs.Answers.{opened}
use Rattle.campaign_state.specs.Records.{AllEnded, AllEntered, but_last, campaign_of, censored_in, exposure_in, failures_in, last_failed, none, one, outcome}
use Rattle.campaign_state.specs.State.{censored, entered}
use Rattle.campaign_state.proofs.Answered.{entered_from, opened_from}
use Rattle.std.specs.Prelude.{Ok}

counted : (b : Bool) (n : ℕ) → n + cond b 1 0 ≡ cond b (n + 1) n
counted true n = refl
counted false n = omega arith

module _ (o : Outcome) where
  failures_one : (ps : List Outcome) → failures_in (ps ++ (o ∷ [])) ≡ failures_in ps + cond o.failed 1 0
  unfolding failures_in
  failures_one [] = omega arith
  failures_one (p ∷ ps) = omega (arith, failures_one ps)

  exposure_one : (ps : List Outcome) → exposure_in (ps ++ (o ∷ [])) ≡ exposure_in ps + o.exposure
  unfolding exposure_in
  exposure_one [] = omega arith
  exposure_one (p ∷ ps) = omega (arith, exposure_one ps)

  last_one : (ps : List Outcome) → last_failed (ps ++ (o ∷ [])) ≡ o.failed
  unfolding last_failed
  last_one [] = refl
  last_one (p ∷ []) = refl
  last_one (p ∷ (p' ∷ ps)) = last_one (p' ∷ ps)

  one_later : (q : ℕ) (ps : List Outcome) → entered (campaign_of q ps) o.failed o.exposure ≡ campaign_of q (ps ++ (o ∷ []))
  unfolding campaign_of
  one_later q ps =
      cc (
        failures_one ps,
        counted o.failed (failures_in ps),
        exposure_one ps,
        last_one ps,
        length-append ps (o ∷ []),
      )

entered_all : (q : ℕ) (ps : List Outcome) (c : Campaign) {os : List Outcome} {d : Campaign} → c ≡ campaign_of q ps → AllEntered c os d → d ≡ campaign_of q (ps ++ os)
entered_all q ps c e none = e ∙ ap (campaign_of q) (sym (append-nil ps))
entered_all q ps c e (one {d = d} {o = o} {os = os} t a) =
    let grown = ap (λ (x : Campaign). entered x o.failed o.exposure) e ∙ one_later o q ps in
    entered_all q (ps ++ (o ∷ [])) d ((entered_from c o d t).room.after ∙ grown) a
    ∙ ap (campaign_of q) (append_assoc ps (o ∷ []) os)

ended_entered : {c d : Campaign} {rs : List Record} → AllEnded c rs d → AllEntered c (map outcome rs) d
ended_entered none = none
ended_entered (one {c = c} {r = r} {x = x} g e a) = one (rw (given r x g).is at e) (ended_entered a)

-- ---- the theorems
pub grown_by_entering : (q : ℕ) (c d : Campaign) (os : List Outcome) → opened q ≡ Ok c → AllEntered c os d → d ≡ campaign_of q os
unfolding campaign_of failures_in exposure_in last_failed
grown_by_entering q c d os e a = entered_all q [] c (opened_from q c e).1 a

pub grown_by_results : (q : ℕ) (c d : Campaign) (rs : List Record) → opened q ≡ Ok c → AllEnded c rs d → d ≡ campaign_of q (map outcome rs)
grown_by_results q c d rs e a = grown_by_entering q c d (map outcome rs) e (ended_entered a)

-- n counts the last record, n* before it
split : (o : Outcome) (os : List Outcome) → failures_in (o ∷ os) ≡ failures_in (but_last (o ∷ os)) + cond (last_failed (o ∷ os)) 1 0
unfolding failures_in but_last last_failed
split o [] = omega arith
split o (p ∷ os) = omega (arith, split p os)

pub censored_grown : (q : ℕ) (os : List Outcome) → censored (campaign_of q os) ≡ censored_in os
unfolding censored campaign_of censored_in
censored_grown q [] = refl
censored_grown q (o ∷ os) = rw (ne_eqb (length (o ∷ os)) 0 (λ e. omega arith), split o os) (omega arith)
