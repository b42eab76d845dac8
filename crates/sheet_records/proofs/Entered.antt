-- Records that are all judged clean enter one after the other, and come to document 000's campaign over the list of
-- them. Assumes nothing.
use mathlib.Core.Path.{◌≡◌, refl, ap, subst, ◌∙◌}
use mathlib.Core.List.{List, [], ◌∷◌, map}
use Prim.Native.Nat.{ℕ, ◌≤◌}
use native.Mathlib.Omega.{arith}
use lib.Dec.{T}
use lib.IntN.{ℤ}
use lib.ListN.{length}
use Rattle.truth.proofs.Laws.{impossible}
use Rattle.record_end.specs.declared.Outcome.{Outcome}
use Rattle.campaign_state.specs.declared.Campaign.{Campaign}
use Rattle.campaign_state.specs.Answers.{opened}
use Rattle.campaign_state.specs.Records.{AllEntered, campaign_of, none, one}
use Rattle.campaign_state.specs.State.{sound}
use Rattle.campaign_state.proofs.Answered.{entered_from}
use Rattle.campaign_state.proofs.Keeping.{opened_sound, entering_sound}
use Rattle.campaign_state.proofs.Records.{grown_by_entering}
use Rattle.campaign_state.proofs.Relations.{kept_from}
use Rattle.sheet_line.specs.Line.{telling}
use Rattle.sheet_line.proofs.Theorems.{told_entered}
use Rattle.sheet_records.specs.Ledger.{exposure_in, failed_in, outcome_in}
use Rattle.sheet_records.specs.Answers.{judged, judged_from, onward}
use Rattle.refusal.specs.declared.Refusal.{Refusal}
use Rattle.std.specs.Prelude.{Result, Ok, Err}
use Rattle.truth.proofs.Answers.{same_ok}

-- an answer that goes on was a campaign
pub went_on : (a : Result Campaign Refusal) (go : Campaign → Result Campaign Refusal) (d : Campaign) → onward a go ≡ Ok d → (c : Campaign) × (a ≡ Ok c) × (go c ≡ Ok d)
went_on (Ok c) go d e = (c, refl, e)
went_on (Err r) go d e = impossible (cc)

judged_entered : (c : Campaign) (xs : List ℤ) (d : Campaign) → judged_from c xs ≡ Ok d → AllEntered c (map outcome_in xs) d
unfolding judged_from
judged_entered c [] d e = subst (AllEntered c []) (same_ok e) none
judged_entered c (x ∷ xs) d e =
    let (b, told, rest) = went_on (telling c (failed_in x) (exposure_in x)) (λ b. judged_from b xs) d e in
    one (told_entered c (failed_in x) (exposure_in x) b told) (judged_entered b xs d rest)

all_sound : {c d : Campaign} {os : List Outcome} → T (sound c) → AllEntered c os d → T (sound d)
all_sound s none = s
all_sound s (one {c = c} {d = d} {o = o} e a) = all_sound (entering_sound c o d e) a

-- a campaign keeps its standard
all_standard : {c d : Campaign} {os : List Outcome} → AllEntered c os d → d.standard ≡ c.standard
all_standard none = refl
all_standard (one {c = c} {d = d} {o = o} e a) = all_standard a ∙ ap (λ (y : Campaign). y.standard) (entered_from c o d e).room.after

pub judged_standard : (c : Campaign) (xs : List ℤ) (d : Campaign) → judged_from c xs ≡ Ok d → d.standard ≡ c.standard
judged_standard c xs d e = all_standard (judged_entered c xs d e)

length_outcomes : (xs : List ℤ) → length (map outcome_in xs) ≡ length xs
length_outcomes [] = refl
length_outcomes (x ∷ xs) = omega (arith, length_outcomes xs)

module _ (q : ℕ) (xs : List ℤ) (d : Campaign) (e : judged q xs ≡ Ok d) where
  pub judged_sound : T (sound d)
  unfolding judged
  judged_sound =
      let (c, opens, rest) = went_on (opened q) (λ c. judged_from c xs) d e in
      all_sound (opened_sound q c opens) (judged_entered c xs d rest)

  -- THE CAMPAIGN of the records
  pub judged_campaign : d ≡ campaign_of q (map outcome_in xs)
  unfolding judged
  judged_campaign =
      let (c, opens, rest) = went_on (opened q) (λ c. judged_from c xs) d e in
      grown_by_entering q c d (map outcome_in xs) opens (judged_entered c xs d rest)

  pub judged_records : d.records ≡ length xs
  unfolding campaign_of
  judged_records = ap (λ (c : Campaign). c.records) judged_campaign ∙ length_outcomes xs

  pub judged_few : length xs ≤ 100000
  judged_few = omega (arith, judged_records, (kept_from d judged_sound).records)
