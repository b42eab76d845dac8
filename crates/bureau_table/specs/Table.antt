-- Request 9: the table that two bureaus share, and its relations for refusal 8. Assumes nothing.
use Rattle.std.specs.Prelude.{Bool, cond, not, true, ◌&&◌, ◌||◌, List, [], ◌∷◌, ℕ, suc, ◌+◌, eqb, leb, get_or, length, replicate}
use Rattle.campaign_state.specs.declared.Campaign.{Campaign}
use Rattle.campaign_state.specs.State.{empty, sound}
use Rattle.bureau_table.specs.declared.Place.{Place}

-- "32 campaigns, places 0 to 31"; "at most 16 each"
abbrev pub places : ℕ
places = 32

abbrev pub most_jobs : ℕ
most_jobs = 16

-- "owned by bureau 1 or 2"
abbrev pub is_bureau : ℕ → Bool
is_bureau b = eqb b 1 || eqb b 2

-- a place owned by bureau b
abbrev pub owned : ℕ → Campaign → Place
owned b c = record { owner = b; campaign = c }

-- "free and all zeros"; the campaign of standard 0 without a record is all zeros
abbrev pub free : Place
free = owned 0 (empty 0)

-- what stands at place i
abbrev pub at : List Place → ℕ → Place
at t i = get_or t i free

-- the table before any call
abbrev pub bare : List Place
bare = replicate places free

-- ---- the relations
abbrev pub zeros : Campaign → Bool
zeros c = eqb c.standard 0 && (eqb c.records 0 && (eqb c.failures 0 && (eqb c.exposure 0 && not c.failed)))

-- a place is free and all zeros, or owned by bureau 1 or 2; then it holds a campaign, which keeps document 01's
-- relations
abbrev pub place_kept : Place → Bool
place_kept p = cond (eqb p.owner 0) (zeros p.campaign) (is_bureau p.owner && sound p.campaign)

unfoldable pub all_kept : List Place → Bool
all_kept [] = true
all_kept (p ∷ ps) = place_kept p && all_kept ps

-- 1 for a place of bureau b
abbrev pub one : ℕ → Place → ℕ
one b p = cond (eqb p.owner b) 1 0

-- how many jobs bureau b has
unfoldable pub jobs : ℕ → List Place → ℕ
jobs b [] = 0
jobs b (p ∷ ps) = one b p + jobs b ps

-- 32 places, each as it should be, at most 16 of them each bureau's
unfoldable pub kept : List Place → Bool
kept t = eqb (length t) places && (all_kept t && (leb (jobs 1 t) most_jobs && leb (jobs 2 t) most_jobs))

-- ---- taking looks for this one
-- the lowest free place; the table's length if there is none
unfoldable pub lowest_free : List Place → ℕ
lowest_free [] = 0
lowest_free (p ∷ ps) = cond (eqb p.owner 0) 0 (suc (lowest_free ps))
