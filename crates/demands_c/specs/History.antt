-- Document 02, [9], over the table that bureaus have: rows of numbers (capi_bench's specs, Rows). Calls from C one
-- after the other, each finding the rows as the last one left them; bench's History has the same over places. Assumes
-- nothing.
use Rattle.std.specs.Prelude.{Bool, false, ◌||◌, List, [], ◌∷◌, ◌++◌, ℕ, replicate, Result}
use Rattle.record_end.specs.declared.Outcome.{Outcome}
use Rattle.bureau_table.specs.declared.Ask.{Ask}
use Rattle.bureau_table.specs.declared.Call.{Call}
use Rattle.bureau_table.specs.Table.{places}
use Rattle.bureau_table.specs.Calls.{called}
use Rattle.bureau_table.specs.Calls as bench
use Rattle.bureau_table.specs.History.{Move, aside, enters, frees, mine, noted, other, own_places, sent}
use Rattle.capi_bureau.specs.Rows.{places_of, rows_left}
use Rattle.refusal.specs.declared.Refusal.{Refusal}
use Rattle.bureau_table.specs.declared.Reply.{Reply}

-- 32 rows of six zeros: an empty bench
abbrev pub empty_rows : List (List ℕ)
empty_rows = replicate places (replicate 6 0)

-- ---- a call: its answer, and the rows that it leaves
pub record Done : Type 0 where
  pub answer : Result Reply Refusal
  pub rows : List (List ℕ)

abbrev pub made : List (List ℕ) → ℕ → Ask → Done
made rows b a =
    let d : bench.Done = called (places_of rows) b a in
    record { answer = d.answer; rows = rows_left rows d.table }

-- ---- bureau b's script among the other's calls
-- what it is answered, place numbers aside, from these rows and a book on
unfoldable pub answers : (b : ℕ) → List (List ℕ) → List ℕ → List (Move b) → List (Result Reply Refusal)
answers b rows book [] = []
answers b rows book (mine a ∷ ms) =
    let d : Done = made rows b (sent book a) in
    aside d.answer ∷ answers b d.rows (noted book a d.answer) ms
answers b rows book (other c n a ∷ ms) = answers b (made rows c a).rows book ms

-- from rows on
abbrev pub answers_from : (b : ℕ) → List (List ℕ) → List (Move b) → List (Result Reply Refusal)
answers_from b rows ms = answers b rows (own_places b 0 (places_of rows)) ms

-- ---- any calls, and what they do to row i
unfoldable pub after : List (List ℕ) → List Call → List (List ℕ)
after rows [] = rows
after rows (c ∷ cs) = after (made rows c.bureau c.ask).rows cs

-- the records that they enter there, oldest first
unfoldable pub entries_at : ℕ → List (List ℕ) → List Call → List Outcome
entries_at i rows [] = []
entries_at i rows (c ∷ cs) =
    let d : Done = made rows c.bureau c.ask in
    enters i c.ask d.answer ++ entries_at i d.rows cs

-- whether one of them gives the place back
unfoldable pub freed_at : ℕ → List (List ℕ) → List Call → Bool
freed_at i rows [] = false
freed_at i rows (c ∷ cs) =
    let d : Done = made rows c.bureau c.ask in
    frees i c.ask d.answer || freed_at i d.rows cs
