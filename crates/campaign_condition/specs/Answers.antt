-- Document 02 [13]: what judging a loading condition answers, in its order of refusals. Assumes nothing.
use Rattle.std.specs.Prelude.{ℕ, ◌+◌, Bool, cond, not, List, [], ◌∷◌, eqb, Result, Ok, Err}
use Rattle.refusal.specs.declared.Refusal.TheVariants.{Situation, Situations}
use Rattle.sample_items.specs.Limits.{within}
use Rattle.campaign_state.specs.declared.Campaign.{Campaign}
use Rattle.campaign_state.specs.State.{sound}
use Rattle.campaign_condition.specs.declared.Told.{Told}
use Rattle.campaign_condition.specs.declared.Seen.{Seen}
use Rattle.campaign_condition.specs.Standing.{accepted, all_accepted, one_rejected, rejected, standing}
use Rattle.refusal.specs.declared.Refusal.{Refusal}
use Rattle.campaign_condition.specs.declared.Standing.{Standing}

-- 1 to 64 campaigns
abbrev pub most_situations : ℕ
most_situations = 64

abbrev pub situations_in_range : ℕ → Bool
situations_in_range number = within 1 most_situations number

-- the lowest situation whose campaign breaks a relation for 8, the first of these being number n; 0 where none does
unfoldable pub broken_from : ℕ → List Campaign → ℕ
broken_from n [] = 0
broken_from n (c ∷ cs) = cond (sound c) (broken_from (n + 1) cs) n

-- situations are counted from 1
abbrev pub lowest_broken : List Campaign → ℕ
lowest_broken cs = broken_from 1 cs

-- 18 for none or more than 64, then 8 with the lowest situation, else the standing
unfoldable pub judging : ℕ → List Campaign → Result Standing Refusal
judging number cs =
    cond (not (situations_in_range number)) (Err Situations)
    (cond (not (eqb (lowest_broken cs) 0)) (Err (Situation (lowest_broken cs)))
    (Ok (standing cs)))

-- ---- for those who look at one campaign after the other
-- the lowest so far, 0 for none, after the campaign of one more situation
abbrev pub lower : ℕ → ℕ → Campaign → ℕ
lower broken number c = cond (eqb broken 0) (cond (sound c) 0 number) broken

abbrev pub said_of : Campaign → Told
said_of c = record { rejected = rejected c; accepted = accepted c }

abbrev pub seen_of : List Campaign → Seen
seen_of cs = record { broken = lowest_broken cs; rejected = one_rejected cs; accepted = all_accepted cs }
