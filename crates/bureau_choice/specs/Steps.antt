-- The clerk's steps for a call after the survey, by value, and what all come to over a table of places. That this is
-- what the call is said to answer and leave is proofs/Serves. Assumes nothing.
use Rattle.std.specs.Prelude.{Bool, cond, not, ◌&&◌, List, ℕ, eqb, leb, ltb, length, Result, Ok, Err}
use Rattle.refusal.specs.declared.Refusal.{Refusal}
use Rattle.refusal.specs.declared.Refusal.TheVariants.{BrokenState, BureauFull, NoBureau, NotItsOwn}
use Rattle.campaign_state.specs.Answers.{opened}
use Rattle.bureau_table.specs.declared.Ask.{Ask}
use Rattle.bureau_table.specs.declared.Ask.TheVariants.{On, Take}
use Rattle.bureau_table.specs.declared.Call.{Call}
use Rattle.bureau_table.specs.declared.Place.{Place}
use Rattle.bureau_table.specs.declared.Worked.{Worked}
use Rattle.bureau_table.specs.Table.{at, is_bureau, most_jobs, owned, places}
use Rattle.bureau_table.specs.Calls.{Done, stored, worked}
use Rattle.bureau_survey.specs.declared.Seen.{Seen}
use Rattle.bureau_survey.specs.Survey.{looked, unseen}
use Rattle.bureau_choice.specs.declared.Choice.{Choice}
use Rattle.bureau_table.specs.declared.Reply.TheVariants.{Placed}
use Rattle.campaign_state.specs.declared.Campaign.{Campaign}
use Rattle.bureau_table.specs.declared.Reply.{Reply}

-- ---- the choice, after the survey of n places
abbrev pub refusing : ℕ → Refusal → Choice
refusing n r = record { at = n; answer = Err r }

abbrev pub opening : Seen → ℕ → Result Campaign Refusal → Choice
opening s n (Ok c) = record { at = s.lowest; answer = Ok (Placed s.lowest) }
opening s n (Err r) = refusing n r

abbrev pub own_count : Seen → ℕ → ℕ
own_count s b = cond (eqb b 1) s.first s.second

abbrev pub choosing : Seen → ℕ → ℕ → Ask → Choice
choosing s n b (Take q) = cond (leb most_jobs (own_count s b)) (refusing n BureauFull) (opening s n (opened q))
choosing s n b (On j w) = record { at = j; answer = Err NotItsOwn }

abbrev pub fine : Seen → ℕ → Bool
fine s n = eqb n places && (s.whole && (leb s.first most_jobs && leb s.second most_jobs))

unfoldable pub chosen : Call → Seen → ℕ → Choice
chosen c s n =
    cond (not (fine s n)) (refusing n BrokenState)
    (cond (not (is_bureau c.bureau)) (refusing n NoBureau)
    (choosing s n c.bureau c.ask))

-- ---- the work on the chosen place
abbrev pub taking : ℕ → Place → Result Reply Refusal → Result Campaign Refusal → Worked
taking b p x (Ok c) = record { answer = x; place = owned b c }
taking b p x (Err r) = record { answer = Err r; place = p }

abbrev pub acting : ℕ → Place → Result Reply Refusal → Ask → Worked
acting b p x (Take q) = taking b p x (opened q)
acting b p x (On j w) = cond (eqb p.owner b) (worked b p.campaign w) (record { answer = Err NotItsOwn; place = p })

unfoldable pub acted : Call → Choice → Place → Worked
acted c d p = acting c.bureau p d.answer c.ask

-- ---- the three, over a table: the place that was chosen is worked on, if it is in the table
abbrev pub worked_on : List Place → Call → Choice → Done
worked_on t c d = cond (ltb d.at (length t)) (stored t d.at (acted c d (at t d.at))) (record { answer = d.answer; table = t })

unfoldable pub served : List Place → Call → Done
served t c = worked_on t c (chosen c (looked unseen 0 t) (length t))
