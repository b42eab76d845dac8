-- Request 9: calls of two bureaus one after the other, "each call finding the table as the last one left it". Assumes
-- nothing.
use Rattle.std.specs.Prelude.{◌≡◌, Bool, cond, false, true, ◌||◌, List, [], ◌∷◌, ◌++◌, ℕ, suc, eqb, leb, get_or, set, Result, Ok, Err}
use Rattle.campaign_state.specs.Answers.{opened}
use Rattle.record_end.specs.declared.Outcome.{Outcome}
use Rattle.refusal.specs.declared.Refusal.TheVariants.{BureauFull}
use Rattle.bureau_table.specs.declared.Ask.{Ask}
use Rattle.bureau_table.specs.declared.Ask.TheVariants.{On, Take}
use Rattle.bureau_table.specs.declared.Call.{Call}
use Rattle.bureau_table.specs.declared.Place.{Place}
use Rattle.bureau_table.specs.declared.Work.{Work}
use Rattle.bureau_table.specs.declared.Work.TheVariants.{Enter, GiveBack, Judge, Rate}
use Rattle.bureau_table.specs.Table.{jobs, most_jobs, owned, places}
use Rattle.bureau_table.specs.Calls.{Done, called, refused, working}
use Rattle.bureau_table.specs.declared.Reply.TheVariants.{Entered, Freed, Judged, Placed, Rated}
use Rattle.refusal.specs.declared.Refusal.{Refusal}
use Rattle.campaign_state.specs.declared.Campaign.{Campaign}
use Rattle.bureau_table.specs.declared.Reply.{Reply}

-- ---- one bureau's script among the other's calls
-- A script names no place, since which it gets depends on both: in it `On k w` is work on the k-th job that the bureau
-- took, counted from 0. The bureau keeps a book, the place of each job that it took, in the order of taking. 32, which
-- is no place, stands for a job that it gave back or never took. Of the jobs that it has in the table at the start the
-- lowest place counts as taken first.
abbrev pub book_place : List ℕ → ℕ → ℕ
book_place book k = get_or book k places

-- the jobs that bureau b has in a table, lowest place first; and the book of them, from place i on
unfoldable pub own_jobs : ℕ → List Place → List Place
own_jobs b [] = []
own_jobs b (p ∷ ps) = cond (eqb p.owner b) (p ∷ own_jobs b ps) (own_jobs b ps)

unfoldable pub own_places : ℕ → ℕ → List Place → List ℕ
own_places b i [] = []
own_places b i (p ∷ ps) = cond (eqb p.owner b) (i ∷ own_places b (suc i) ps) (own_places b (suc i) ps)

-- the call that the bureau makes
abbrev pub sent : List ℕ → Ask → Ask
sent book (Take q) = Take q
sent book (On k w) = On (book_place book k) w

abbrev pub struck : List ℕ → Ask → List ℕ
struck book (Take q) = book
struck book (On k w) = set book k places

-- what it notes of the answer
abbrev pub noted : List ℕ → Ask → Result Reply Refusal → List ℕ
noted book a (Ok (Placed i)) = book ++ (i ∷ [])
noted book a (Ok Freed) = struck book a
noted book a (Ok Entered) = book
noted book a (Ok (Judged v)) = book
noted book a (Ok (Rated r)) = book
noted book a (Err r) = book

-- a move at the bench: a line of bureau b's script; or any call whatever of any other bureau
pub data Move (b : ℕ) : Type 0 where
  mine : Ask → Move b
  other : (c : ℕ) → ¬ (c ≡ b) → Ask → Move b

-- an answer, the place number aside
abbrev pub aside : Result Reply Refusal → Result Reply Refusal
aside (Ok (Placed i)) = Ok (Placed 0)
aside (Ok Entered) = (Ok Entered)
aside (Ok (Judged v)) = Ok (Judged v)
aside (Ok (Rated r)) = Ok (Rated r)
aside (Ok Freed) = (Ok Freed)
aside (Err r) = Err r

-- what bureau b's script is answered, place numbers aside, from a table and a book on
unfoldable pub answers : (b : ℕ) → List Place → List ℕ → List (Move b) → List (Result Reply Refusal)
answers b t book [] = []
answers b t book (mine a ∷ ms) =
    let d : Done = called t b (sent book a) in
    aside d.answer ∷ answers b d.table (noted book a d.answer) ms
answers b t book (other c n a ∷ ms) = answers b (called t c a).table book ms

-- from a table on
abbrev pub answers_from : (b : ℕ) → List Place → List (Move b) → List (Result Reply Refusal)
answers_from b t ms = answers b t (own_places b 0 t) ms

-- the script
unfoldable pub script : {b : ℕ} → List (Move b) → List Ask
script [] = []
script (mine a ∷ ms) = a ∷ script ms
script (other c n a ∷ ms) = script ms

-- the script run alone
unfoldable pub alone : {b : ℕ} → List (Move b) → List (Move b)
alone [] = []
alone (mine a ∷ ms) = mine a ∷ alone ms
alone (other c n a ∷ ms) = alone ms

-- ---- a desk of the bureau's own
-- Its jobs stand in the order of taking, so the k-th is at place k; there is no end to its places and no other bureau.
abbrev pub opened_at_desk : List Place → ℕ → Result Campaign Refusal → Done
opened_at_desk v b (Ok c) = record { answer = Ok (Placed 0); table = v ++ (owned b c ∷ []) }
opened_at_desk v b (Err r) = refused v r

abbrev pub at_desk : List Place → ℕ → Ask → Done
at_desk v b (Take q) = cond (leb most_jobs (jobs b v)) (refused v BureauFull) (opened_at_desk v b (opened q))
at_desk v b (On k w) = working v b k w

unfoldable pub desk_answers : ℕ → List Place → List Ask → List (Result Reply Refusal)
desk_answers b v [] = []
desk_answers b v (a ∷ more) = (at_desk v b a).answer ∷ desk_answers b (at_desk v b a).table more

-- ---- any calls, and what they do to one place
-- a call, made
abbrev pub made : List Place → Call → Done
made t c = called t c.bureau c.ask

-- the table after calls one after the other
unfoldable pub after : List Place → List Call → List Place
after t [] = t
after t (c ∷ cs) = after (made t c).table cs

-- the record that a call, answered so, enters in place i
abbrev pub work_enters : Work → Result Reply Refusal → List Outcome
work_enters (Enter o) (Ok Entered) = o ∷ []
work_enters (Enter o) (Ok (Placed i)) = []
work_enters (Enter o) (Ok (Judged v)) = []
work_enters (Enter o) (Ok (Rated r)) = []
work_enters (Enter o) (Ok Freed) = []
work_enters (Enter o) (Err r) = []
work_enters Judge x = []
work_enters Rate x = []
work_enters GiveBack x = []

abbrev pub enters : ℕ → Ask → Result Reply Refusal → List Outcome
enters i (Take q) x = []
enters i (On j w) x = cond (eqb j i) (work_enters w x) []

-- whether it gives place i back
abbrev pub is_freed : Result Reply Refusal → Bool
is_freed (Ok Freed) = true
is_freed (Ok (Placed i)) = false
is_freed (Ok Entered) = false
is_freed (Ok (Judged v)) = false
is_freed (Ok (Rated r)) = false
is_freed (Err r) = false

abbrev pub frees : ℕ → Ask → Result Reply Refusal → Bool
frees i (Take q) x = false
frees i (On j w) x = cond (eqb j i) (is_freed x) false

-- the records that calls enter in place i, oldest first
unfoldable pub entries_at : ℕ → List Place → List Call → List Outcome
entries_at i t [] = []
entries_at i t (c ∷ cs) = enters i c.ask (made t c).answer ++ entries_at i (made t c).table cs

-- whether one of them gives place i back
unfoldable pub freed_at : ℕ → List Place → List Call → Bool
freed_at i t [] = false
freed_at i t (c ∷ cs) = frees i c.ask (made t c).answer || freed_at i (made t c).table cs
