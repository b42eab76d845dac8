-- Document 02, [9]: tables and calls, computed of the definitions: 32 places and 16 jobs, bureaus 1 and 2, the lowest
-- free place, what a free place holds, and each refusal in its order. Each declaration has the name of its sentence.
-- Assumes nothing.
use mathlib.Core.Path.{◌≡◌, refl}
use mathlib.Core.Bool.{Bool, false, true}
use mathlib.Core.List.{List, [], ◌∷◌, ◌++◌, map}
use Prim.Native.Nat.{ℕ}
use lib.ListN.{get_or, length, replicate, set}
use Rattle.refusal.specs.Numbers.{number_of, value_of}
use Rattle.campaign_state.specs.declared.Campaign.{Campaign}
use Rattle.campaign_state.specs.Answers.{entering}
use Rattle.campaign_state.specs.State.{sound}
use Rattle.campaign_verdict.specs.Answers.{judging, rating}
use Rattle.bureau_table.specs.declared.Ask.{Ask}
use Rattle.bureau_table.specs.declared.Ask.TheVariants.{On, Take}
use Rattle.bureau_table.specs.declared.Place.{Place}
use Rattle.bureau_table.specs.declared.Work.{Work}
use Rattle.bureau_table.specs.declared.Work.TheVariants.{Enter, GiveBack, Judge, Rate}
use Rattle.bureau_table.specs.Calls.{Done, called}
use Rattle.bureau_table.specs.Table.{all_kept, at, is_bureau, jobs, kept, lowest_free}
use Rattle.bureau_table.specs.declared.Reply.TheVariants.{Entered, Freed, Judged, Placed, Rated}
use Rattle.refusal.specs.declared.Refusal.{Refusal}
use Rattle.bureau_table.specs.declared.Reply.{Reply}
use Rattle.std.specs.Prelude.{Result, Ok, Err}

-- a place: its owner and its campaign
abbrev place : ℕ → ℕ → ℕ → ℕ → ℕ → Bool → Place
place b q M N T f =
    record {
      owner = b;
      campaign = record { standard = q; records = M; failures = N; exposure = T; failed = f };
    }

-- one with a campaign of one record, and a free one
abbrev holding : ℕ → ℕ → Place
holding b q = place b q 1 1 5 true

abbrev nobody : Place
nobody = place 0 0 0 0 0 false

-- so many jobs of bureau 1, so many of bureau 2, and then so many free places
abbrev table : ℕ → ℕ → ℕ → List Place
table a b f = replicate a (holding 1 7) ++ (replicate b (holding 2 7) ++ replicate f nobody)

-- 32 places, at most 16 of them each bureau's
table_sizes :
    map kept
    (table 0 0 32 ∷ table 16 16 0 ∷ table 0 0 31 ∷ table 0 0 33 ∷ table 17 0 15 ∷ table 0 17 15 ∷ [])
    ≡ true ∷ true ∷ false ∷ false ∷ false ∷ false ∷ []
unfolding kept all_kept jobs sound
table_sizes = refl

-- with this place for the last of the others
abbrev ending : Place → List Place
ending p = table 1 1 29 ++ (p ∷ [])

-- owned by bureau 1 or 2, with a campaign that is not broken; or free and all zeros
table_relations :
    map (λ (p : Place). kept (ending p))
    (holding 1 7 ∷ holding 2 7 ∷ nobody
    ∷ holding 3 7 ∷ holding 1 0
    ∷ place 0 1 0 0 0 false ∷ place 0 0 1 0 0 false ∷ place 0 0 0 1 0 false ∷ place 0 0 0 0 1 false
    ∷ place 0 0 0 0 0 true ∷ place 1 0 0 0 0 false ∷ [])
    ≡ true ∷ true ∷ true
    ∷ false ∷ false
    ∷ false ∷ false ∷ false ∷ false ∷ false ∷ false ∷ []
unfolding kept all_kept jobs sound
table_relations = refl

two_bureaus : map is_bureau (0 ∷ 1 ∷ 2 ∷ 3 ∷ []) ≡ false ∷ true ∷ true ∷ false ∷ []
two_bureaus = refl

abbrev of_answer : Result Reply Refusal → List ℕ
of_answer (Ok (Placed i)) = i ∷ []
of_answer (Ok Entered) = []
of_answer (Ok (Judged v)) = []
of_answer (Ok (Rated r)) = []
of_answer (Ok Freed) = []
of_answer (Err r) = number_of r ∷ value_of r ∷ []

abbrev answered : List Place → ℕ → Ask → List ℕ
answered t b a = of_answer (called t b a).answer

-- bureau 1 in the places 0, 1 and 3, bureau 2 in 2; 4 is the lowest that is free
abbrev mixed : List Place
mixed = holding 1 7 ∷ holding 1 7 ∷ holding 2 7 ∷ holding 1 7 ∷ replicate 28 nobody

-- the lowest free place, with a fresh campaign; giving back frees it
job_taken : ((called mixed 2 (Take 9)).answer ≡ Ok (Placed 4))
    × ((called mixed 2 (Take 9)).table
    ≡ holding 1 7 ∷ holding 1 7 ∷ holding 2 7 ∷ holding 1 7 ∷ place 2 9 0 0 0 false ∷ replicate 27 nobody)
unfolding called kept all_kept jobs sound lowest_free
job_taken = (refl, refl)

job_given_back : ((called mixed 1 (On 1 GiveBack)).answer ≡ (Ok Freed))
    × ((called mixed 1 (On 1 GiveBack)).table
    ≡ holding 1 7 ∷ nobody ∷ holding 2 7 ∷ holding 1 7 ∷ replicate 28 nobody)
unfolding called kept all_kept jobs sound
job_given_back = (refl, refl)

lowest_place : answered (set mixed 1 nobody) 2 (Take 9) ≡ 1 ∷ []
unfolding called kept all_kept jobs sound lowest_free
lowest_place = refl

-- 8 first of all; 13; 14, before 1 with item 5; a bureau with 15 jobs gets one beside 16 of the other's
taking_refused :
    answered (table 17 0 15) 3 (Take 0) ∷ answered (table 16 0 16) 0 (Take 0) ∷ answered (table 16 0 16) 3 (Take 0)
    ∷ answered (table 16 15 1) 1 (Take 0) ∷ answered (table 16 15 1) 2 (Take 0) ∷ answered (table 16 15 1) 2 (Take 1)
    ∷ []
    ≡ (8 ∷ 0 ∷ []) ∷ (13 ∷ 0 ∷ []) ∷ (13 ∷ 0 ∷ []) ∷ (14 ∷ 0 ∷ []) ∷ (1 ∷ 5 ∷ []) ∷ (31 ∷ []) ∷ []
unfolding called kept all_kept jobs sound lowest_free
taking_refused = refl

abbrev result : ℕ → Work
result t = Enter (record { failed = false; exposure = t })

-- 8 first of all; 13; 15 for another's place, a free one and one past the table, before document 01's 8
owner_needed :
    answered (table 17 0 15) 3 (On 32 (result 0)) ∷ answered mixed 3 (On 32 (result 0))
    ∷ answered mixed 1 (On 2 (result 0)) ∷ answered mixed 1 (On 4 Judge)
    ∷ answered mixed 1 (On 32 Rate) ∷ answered mixed 2 (On 0 GiveBack)
    ∷ answered mixed 1 (On 3 (result 0)) ∷ answered mixed 1 (On 3 (result 1))
    ∷ []
    ≡ (8 ∷ 0 ∷ []) ∷ (13 ∷ 0 ∷ [])
    ∷ (15 ∷ 0 ∷ []) ∷ (15 ∷ 0 ∷ [])
    ∷ (15 ∷ 0 ∷ []) ∷ (15 ∷ 0 ∷ [])
    ∷ (8 ∷ 0 ∷ []) ∷ []
    ∷ []
unfolding called kept all_kept jobs sound entering
owner_needed = refl
