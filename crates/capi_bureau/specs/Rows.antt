-- A table as rows of six numbers, in both directions: the owner, and the five numbers of its campaign as capi has them.
-- A row whose last number is no flag stands for a place of bureau 3, which no table has, so that every entry refuses it
-- by 8. Assumes nothing.
use Rattle.std.specs.Prelude.{Bool, cond, false, ◌&&◌, List, [], ◌∷◌, map, ℕ, eqb, leb}
use Rattle.campaign_state.specs.declared.Campaign.{Campaign}
use Rattle.record_end.specs.declared.Outcome.{Outcome}
use Rattle.bureau_table.specs.declared.Place.{Place}
use Rattle.capi.specs.Numbers.{flag, number_at}

abbrev pub place_of : List ℕ → Place
place_of r =
    record {
      owner = cond (leb (number_at r 5) 1) (number_at r 0) 3;
      campaign =
          record {
            standard = number_at r 1;
            records = number_at r 2;
            failures = number_at r 3;
            exposure = number_at r 4;
            failed = eqb (number_at r 5) 1;
          };
    }

abbrev pub of_place : Place → List ℕ
of_place p =
    let c : Campaign = p.campaign in
    p.owner ∷ c.standard ∷ c.records ∷ c.failures ∷ c.exposure ∷ flag c.failed ∷ []

abbrev pub places_of : List (List ℕ) → List Place
places_of rows = map place_of rows

abbrev pub same_campaign : Campaign → Campaign → Bool
same_campaign c d =
    eqb c.standard d.standard
    && (eqb c.records d.records
    && (eqb c.failures d.failures
    && (eqb c.exposure d.exposure
    && eqb (flag c.failed) (flag d.failed))))

abbrev pub same_place : Place → Place → Bool
same_place p q = eqb p.owner q.owner && same_campaign p.campaign q.campaign

-- the rows after a call that leaves the places ps: a place that is left as it was keeps its numbers, another has those
-- of what stands there now
unfoldable pub rows_left : List (List ℕ) → List Place → List (List ℕ)
rows_left [] ps = []
rows_left (r ∷ rs) [] = r ∷ rs
rows_left (r ∷ rs) (p ∷ ps) = cond (same_place (place_of r) p) r (of_place p) ∷ rows_left rs ps

-- what a campaign takes of a record, by a flag and an exposure; another flag makes it one that is refused by 8
abbrev pub outcome_of : ℕ → ℕ → Outcome
outcome_of f x = cond (leb f 1) (record { failed = eqb f 1; exposure = x }) (record { failed = false; exposure = 0 })
