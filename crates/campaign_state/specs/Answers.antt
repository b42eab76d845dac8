-- What each entry answers, in the order of refusals of document 01, "Refusal numbers". Assumes nothing.
use Rattle.std.specs.Prelude.{Bool, cond, not, ℕ, eqb, Result, Ok, Err}
use Rattle.poisson.specs.Rows.{rows}
use Rattle.sample_items.specs.Limits.{longest_time, within}
use Rattle.refusal.specs.declared.Refusal.TheVariants.{BrokenState, CampaignFull, Item, RowsUsedUp}
use Rattle.record_end.specs.declared.Outcome.{Outcome}
use Rattle.campaign_state.specs.declared.Campaign.{Campaign}
use Rattle.campaign_state.specs.State.{empty, entered, most_records, sound, standard_in_range}
use Rattle.refusal.specs.declared.Refusal.{Refusal}

-- Opening 1: item 5
abbrev pub opened : ℕ → Result Campaign Refusal
opened q = cond (standard_in_range q) (Ok (empty q)) (Err (Item 5))

-- 5, then 6, else the record is entered
abbrev pub taken : Campaign → Bool → ℕ → Result Campaign Refusal
taken c f t =
    cond (eqb c.records most_records) (Err CampaignFull)
    (cond (eqb c.failures rows) (Err RowsUsedUp)
    (Ok (entered c f t)))

-- document 02, [4]: a result needs exposure from 1 to 10,000,000
abbrev pub outcome_kept : Outcome → Bool
outcome_kept o = within 1 longest_time o.exposure

-- Entering 8 (the campaign, the result), 5, 6
unfoldable pub entering : Campaign → Outcome → Result Campaign Refusal
entering c o =
    cond (not (sound c)) (Err BrokenState)
    (cond (not (outcome_kept o)) (Err BrokenState)
    (taken c o.failed o.exposure))
