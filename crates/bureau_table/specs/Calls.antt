-- Request 9: what a call answers, and what it leaves in the table. Assumes nothing.
use Rattle.std.specs.Prelude.{cond, not, ◌&&◌, List, ℕ, eqb, leb, ltb, length, set, Option, Some, None, Result, Ok, Err}
use Rattle.refusal.specs.declared.Refusal.{Refusal}
use Rattle.refusal.specs.declared.Refusal.TheVariants.{BrokenState, BureauFull, NoBureau, NotItsOwn}
use Rattle.campaign_state.specs.declared.Campaign.{Campaign}
use Rattle.campaign_state.specs.Answers.{entering, opened}
use Rattle.campaign_verdict.specs.Answers.{judging, rating}
use Rattle.bureau_table.specs.declared.Ask.{Ask}
use Rattle.bureau_table.specs.declared.Ask.TheVariants.{On, Take}
use Rattle.bureau_table.specs.declared.Place.{Place}
use Rattle.bureau_table.specs.declared.Work.{Work}
use Rattle.bureau_table.specs.declared.Worked.{Worked}
use Rattle.bureau_table.specs.declared.Work.TheVariants.{Enter, GiveBack, Judge, Rate}
use Rattle.bureau_table.specs.Table.{at, free, is_bureau, jobs, kept, lowest_free, most_jobs, owned}
use Rattle.bureau_table.specs.declared.Reply.TheVariants.{Entered, Freed, Judged, Placed, Rated}
use Rattle.campaign_verdict.specs.declared.Verdict.{Verdict}
use Rattle.campaign_verdict.specs.declared.Rates.{Rates}
use Rattle.bureau_table.specs.declared.Reply.{Reply}

-- ---- work on a campaign, by value: what is answered, and what stands in its place then
abbrev pub entry : ℕ → Campaign → Result Campaign Refusal → Worked
entry b c (Ok d) = record { answer = (Ok Entered); place = owned b d }
entry b c (Err r) = record { answer = Err r; place = owned b c }

abbrev pub verdict_answer : Result Verdict Refusal → Result Reply Refusal
verdict_answer (Ok v) = Ok (Judged v)
verdict_answer (Err r) = Err r

abbrev pub rates_answer : Result (Option Rates) Refusal → Result Reply Refusal
rates_answer (Ok r) = Ok (Rated r)
rates_answer (Err r) = Err r

-- entering, verdict and rates are document 01's, with [4]; "giving it back frees the place"
abbrev pub worked : ℕ → Campaign → Work → Worked
worked b c (Enter o) = entry b c (entering c o)
worked b c Judge = record { answer = verdict_answer (judging c); place = owned b c }
worked b c Rate = record { answer = rates_answer (rating c); place = owned b c }
worked b c GiveBack = record { answer = (Ok Freed); place = free }

-- ---- a call
pub record Done : Type 0 where
  pub answer : Result Reply Refusal
  pub table : List Place

-- a refusal leaves the table as it was
abbrev pub refused : List Place → Refusal → Done
refused t r = record { answer = Err r; table = t }

-- "taking a job gives the lowest free place and a fresh campaign", or document 01's refusal of its standard
abbrev pub placed : List Place → ℕ → Result Campaign Refusal → Done
placed t b (Ok c) = record { answer = Ok (Placed (lowest_free t)); table = set t (lowest_free t) (owned b c) }
placed t b (Err r) = refused t r

-- 14 for a bureau that has 16 already
abbrev pub taking : List Place → ℕ → ℕ → Done
taking t b q = cond (leb most_jobs (jobs b t)) (refused t BureauFull) (placed t b (opened q))

abbrev pub stored : List Place → ℕ → Worked → Done
stored t i w = record { answer = w.answer; table = set t i w.place }

-- 15 for a place not in the table or not its own, then document 01's
abbrev pub working : List Place → ℕ → ℕ → Work → Done
working t b i w =
    cond (not (ltb i (length t) && eqb (at t i).owner b)) (refused t NotItsOwn)
    (stored t i (worked b (at t i).campaign w))

abbrev pub asked : List Place → ℕ → Ask → Done
asked t b (Take q) = taking t b q
asked t b (On i w) = working t b i w

-- 8 first of all, 13 for a bureau other than 1 or 2
unfoldable pub called : List Place → ℕ → Ask → Done
called t b a =
    cond (not (kept t)) (refused t BrokenState)
    (cond (not (is_bureau b)) (refused t NoBureau)
    (asked t b a))
