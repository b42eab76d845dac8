-- Document 02, [9], from C: `Request9` of `demands` speaks of places, and here the same is said of the rows of numbers
-- that bureaus have. Read specs/History first (calls from C, each finding the rows as the last one left them).
--
-- The rows that a call leaves stand for the table that it leaves (`left_stands`), so a history over rows is that of the
-- places that they stand for, call by call; a row whose place is left as it was keeps its numbers. Assumes nothing.
use mathlib.Core.Path.{◌≡◌, refl, ap, sym, ◌∙◌}
use mathlib.Core.Bool.{Bool, false, true, ◌||◌}
use mathlib.Core.List.{List, [], ◌∷◌, ◌++◌}
use Prim.Native.Nat.{ℕ, ◌<◌}
use lib.ListN.{get_or, length, length-set}
use Rattle.refusal.specs.declared.Refusal.{Refusal}
use Rattle.record_end.specs.declared.Outcome.{Outcome}
use Rattle.bureau_table.specs.declared.Ask.{Ask}
use Rattle.bureau_table.specs.declared.Ask.TheVariants.{On, Take}
use Rattle.bureau_table.specs.declared.Call.{Call}
use Rattle.bureau_table.specs.declared.Place.{Place}
use Rattle.bureau_table.specs.declared.Work.TheVariants.{Judge, Rate}
use Rattle.bureau_table.specs.Table.{all_kept, at, is_bureau, jobs, kept}
use Rattle.bureau_table.specs.Calls.{called}
use Rattle.bureau_table.specs.Calls as bench
use Rattle.bureau_table.specs.History.{Move, alone, aside, desk_answers, enters, frees, mine, noted, other, own_jobs, own_places}
use Rattle.bureau_table.specs.History.{script, sent}
use Rattle.bureau_table.specs.History as places
use Rattle.bureau_table.proofs.Cases.{Made, called_made, enters as entering, frees as freeing, places as placing, reads}
use Rattle.bureau_table.proofs.Cases.{refuses}
use Rattle.capi_bureau.specs.Rows.{places_of, rows_left}
use Rattle.capi_bureau.proofs.Rows.{row_stays, rows_length, rows_stand, rows_stay}
use Rattle.demands.proofs.Request9.{Holds, request_9}
use Rattle.demands_c.specs.History.{after, answers, answers_from, empty_rows, entries_at, freed_at, made}
use Rattle.bureau_table.specs.declared.Reply.TheVariants.{Placed}
use Rattle.bureau_table.specs.declared.Reply.{Reply}
use Rattle.std.specs.Prelude.{Result, Ok, Err}

-- ---- the statement
-- of any rows, any number for a bureau and anything asked
pub record EachCall (rows : List (List ℕ)) (b : ℕ) : Type 0 where
  -- what stands in the rows after the call is what the call left, so that the next one finds that
  pub stands : (a : Ask) → places_of (made rows b a).rows ≡ (called (places_of rows) b a).table
  -- every number is as it was after a refusal, a verdict, rates; and in the rows of another bureau after any call
  pub refusal_leaves : (a : Ask) (r : Refusal) → (made rows b a).answer ≡ Err r → (made rows b a).rows ≡ rows
  pub verdict_leaves : (i : ℕ) → (made rows b (On i Judge)).rows ≡ rows
  pub rates_leave : (i : ℕ) → (made rows b (On i Rate)).rows ≡ rows
  pub others :
      (a : Ask) (c j : ℕ) (z : List ℕ) → j < length rows → is_bureau c ≡ true → (at (places_of rows) j).owner ≡ c
      → ¬ (c ≡ b)
      → get_or (made rows b a).rows j z ≡ get_or rows j z

-- whatever calls the other bureau makes, the answers to bureau b's script are the same, place numbers aside
pub record Undisturbed (b : ℕ) : Type 0 where
  -- they are those at a desk of its own
  pub desk :
      (rows : List (List ℕ)) → kept (places_of rows) ≡ true → (ms : List (Move b))
      → answers_from b rows ms ≡ desk_answers b (own_jobs b (places_of rows)) (script ms)
  -- they are those that the script gets alone
  pub alone : (rows : List (List ℕ)) → kept (places_of rows) ≡ true → (ms : List (Move b)) → answers_from b rows ms
      ≡ answers_from b rows (alone ms)
  -- they depend on the bureau's jobs at the start and its script alone
  pub same :
      (rows others : List (List ℕ)) → kept (places_of rows) ≡ true → kept (places_of others) ≡ true
      → own_jobs b (places_of rows) ≡ own_jobs b (places_of others)
      → (ms ns : List (Move b)) → script ms ≡ script ns
      → answers_from b rows ms ≡ answers_from b others ns

pub record Rows9 : Type 0 where
  -- there is such a table: 192 zeros
  pub bare : kept (places_of empty_rows) ≡ true
  pub call : (rows : List (List ℕ)) (b : ℕ) → EachCall rows b
  pub undisturbed : (b : ℕ) → is_bureau b ≡ true → Undisturbed b
  -- b took place i, and then calls of anyone's, none of which gave it back: row i holds the campaign of the records
  -- entered there, and demands 2 and 3 hold for it
  pub life :
      (rows : List (List ℕ)) (b q i : ℕ) (cs : List Call)
      → (made rows b (Take q)).answer ≡ Ok (Placed i)
      → freed_at i (made rows b (Take q)).rows cs ≡ false
      → Holds (places_of (after (made rows b (Take q)).rows cs)) b q i (entries_at i (made rows b (Take q)).rows cs)

-- ---- the proof
-- a call leaves as many places as there were
made_length : {t : List Place} {b : ℕ} {a : Ask} {d : bench.Done} → Made t b a d → length d.table ≡ length t
made_length (refuses a r) = refl
made_length {t} (placing q m) = length-set t _ _
made_length (reads i w x r o) = refl
made_length {t} (entering i f d o e) = length-set t i _
made_length {t} (freeing i o) = length-set t i _

table_length : (rows : List (List ℕ)) (b : ℕ) (a : Ask) → length (called (places_of rows) b a).table ≡ length rows
table_length rows b a = made_length (called_made (places_of rows) b a) ∙ rows_length rows

pub left_stands : (rows : List (List ℕ)) (b : ℕ) (a : Ask) → places_of (made rows b a).rows
    ≡ (called (places_of rows) b a).table
left_stands rows b a = rows_stand rows (called (places_of rows) b a).table (table_length rows b a)

-- a table that is left as it was leaves every number
pub left_alone : (rows : List (List ℕ)) (t : List Place) → t ≡ places_of rows → rows_left rows t ≡ rows
left_alone rows t e = ap (rows_left rows) e ∙ rows_stay rows

each_call : (rows : List (List ℕ)) (b : ℕ) → EachCall rows b
each_call rows b =
    let call = request_9.call (places_of rows) b in
    record {
      stands = left_stands rows b;
      refusal_leaves = λ a r e. left_alone rows _ (call.refusal_leaves a r e);
      verdict_leaves = λ i. left_alone rows _ (call.verdict_leaves i);
      rates_leave = λ i. left_alone rows _ (call.rates_leave i);
      others = λ a c j z l e o n. row_stays rows (called (places_of rows) b a).table j z (table_length rows b a) l
          (call.others a c j e o n);
    }

-- a history over rows is that of the places that they stand for
over_places : (b : ℕ) (rows : List (List ℕ)) (book : List ℕ) (ms : List (Move b)) → answers b rows book ms
    ≡ places.answers b (places_of rows) book ms
unfolding answers places.answers
over_places b rows book [] = refl
over_places b rows book (mine a ∷ ms) =
    let d = called (places_of rows) b (sent book a) in
    ap (λ (l : List (Result Reply Refusal)). aside d.answer ∷ l)
    (over_places b (rows_left rows d.table) (noted book a d.answer) ms
    ∙ ap (λ (t : List Place). places.answers b t (noted book a d.answer) ms) (left_stands rows b (sent book a)))
over_places b rows book (other c n a ∷ ms) =
    over_places b (made rows c a).rows book ms
    ∙ ap (λ (t : List Place). places.answers b t book ms) (left_stands rows c a)

from_places : (b : ℕ) (rows : List (List ℕ)) (ms : List (Move b)) → answers_from b rows ms
    ≡ places.answers_from b (places_of rows) ms
from_places b rows ms = over_places b rows (own_places b 0 (places_of rows)) ms

after_places : (rows : List (List ℕ)) (cs : List Call) → places_of (after rows cs) ≡ places.after (places_of rows) cs
unfolding after places.after
after_places rows [] = refl
after_places rows (c ∷ cs) =
    after_places (made rows c.bureau c.ask).rows cs
    ∙ ap (λ (t : List Place). places.after t cs) (left_stands rows c.bureau c.ask)

entries_places : (i : ℕ) (rows : List (List ℕ)) (cs : List Call) → entries_at i rows cs
    ≡ places.entries_at i (places_of rows) cs
unfolding entries_at places.entries_at
entries_places i rows [] = refl
entries_places i rows (c ∷ cs) =
    ap (λ (l : List Outcome). enters i c.ask (called (places_of rows) c.bureau c.ask).answer ++ l)
    (entries_places i (made rows c.bureau c.ask).rows cs
    ∙ ap (λ (t : List Place). places.entries_at i t cs) (left_stands rows c.bureau c.ask))

freed_places : (i : ℕ) (rows : List (List ℕ)) (cs : List Call) → freed_at i rows cs ≡ places.freed_at i (places_of rows) cs
unfolding freed_at places.freed_at
freed_places i rows [] = refl
freed_places i rows (c ∷ cs) =
    ap (λ (x : Bool). frees i c.ask (called (places_of rows) c.bureau c.ask).answer || x)
    (freed_places i (made rows c.bureau c.ask).rows cs
    ∙ ap (λ (t : List Place). places.freed_at i t cs) (left_stands rows c.bureau c.ask))

module _ (rows : List (List ℕ)) (b q i : ℕ) (cs : List Call) where
  life : (made rows b (Take q)).answer ≡ Ok (Placed i) → freed_at i (made rows b (Take q)).rows cs ≡ false
      → Holds (places_of (after (made rows b (Take q)).rows cs)) b q i (entries_at i (made rows b (Take q)).rows cs)
  life e f =
      let s = left_stands rows b (Take q) in
      let left = (made rows b (Take q)).rows in
      let g = sym (freed_places i left cs ∙ ap (λ (t : List Place). places.freed_at i t cs) s) ∙ f in
      rw (after_places left cs, entries_places i left cs, s) (request_9.life (places_of rows) b q i cs e g)

pub rows_9 : Rows9
unfolding kept all_kept jobs
rows_9 =
    record {
      bare = refl;
      call = each_call;
      undisturbed =
          λ b e.
          let u = request_9.undisturbed b e in
          record {
            desk = λ rows k ms. from_places b rows ms ∙ u.desk (places_of rows) k ms;
            alone = λ rows k ms. from_places b rows ms ∙ u.alone (places_of rows) k ms
                ∙ sym (from_places b rows (alone ms));
            same =
                λ rows others k l o ms ns e.
                from_places b rows ms ∙ u.same (places_of rows) (places_of others) k l o ms ns e
                ∙ sym (from_places b others ns);
          };
      life = life;
    }
