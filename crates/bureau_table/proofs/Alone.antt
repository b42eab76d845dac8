-- Whatever calls the other bureau makes, the answers about a bureau's own campaigns are the same.  The bureau's script
-- names its jobs, not places; its book, kept from the answers alone, turns one into the other (History). The answers to
-- the script are those that it would get at a desk of its own, where there is no other bureau (`at_a_desk`); so they
-- are the same in any two histories, and as when the script runs alone. The proof follows a history move by move and
-- keeps `Booked`: through its book the bureau sees in the table what stands at its desk. A call of the other's stores
-- in a place that is free or the other's own, which is in no entry of the book. Assumes nothing.
use mathlib.Core.Path.{◌≡◌, refl, sym, ap, ◌∙◌}
use mathlib.Core.Bool.{true}
use mathlib.Core.List.{List, [], ◌∷◌}
use Prim.Native.Nat.{ℕ, ◌<◌}
use lib.Dec.{eqb, leb}
use lib.ListN.{length, set}
use borrow.Author.Tests.{eq-eqb, eqb-false, eqb-true, leb-false, lt-ltb, le-ltb, ne_eqb}
use Rattle.refusal.specs.declared.Refusal.TheVariants.{NotItsOwn}
use Rattle.truth.proofs.Cases.{by_order, by_test}
use Rattle.campaign_state.specs.declared.Campaign.{Campaign}
use Rattle.campaign_state.specs.Answers.{entering}
use Rattle.campaign_verdict.specs.Answers.{judging, rating}
use Rattle.campaign_state.specs.State.{empty, standard_in_range}
use Rattle.bureau_table.specs.declared.Ask.{Ask}
use Rattle.bureau_table.specs.declared.Ask.TheVariants.{On, Take}
use Rattle.bureau_table.specs.declared.Place.{Place}
use Rattle.bureau_table.specs.declared.Work.{Work}
use Rattle.bureau_table.specs.declared.Work.TheVariants.{Enter, GiveBack, Judge, Rate}
use Rattle.bureau_table.specs.Table.{at, free, is_bureau, jobs, kept, lowest_free, owned}
use Rattle.bureau_table.specs.Calls.{Done, called, entry, rates_answer, refused, stored, verdict_answer, worked, working}
use Rattle.bureau_table.specs.History.{Move, alone, answers, answers_from, aside, at_desk, book_place, desk_answers, mine, noted, other, own_jobs, own_places, script, sent}
use Rattle.bureau_table.proofs.Places.{lowest_free_lem}
use Rattle.bureau_table.proofs.Relations.{kept_from, not_none, own_inside}
use Rattle.bureau_table.proofs.Cases.{Made, called_made, enters, frees, places, reads, refuses}
use Rattle.bureau_table.proofs.Keeping.{calls_keep, place_found}
use Rattle.bureau_table.proofs.Taking.{owner_called, room_placed}
use Rattle.bureau_table.proofs.Books.{Booked, foreign, stores, takes}
use Rattle.bureau_table.proofs.Books as books
use Rattle.bureau_table.proofs.Start.{own_booked}
use Rattle.refusal.specs.declared.Refusal.{Refusal}
use Rattle.campaign_verdict.specs.declared.Verdict.{Verdict}
use Rattle.campaign_verdict.specs.declared.Rates.{Rates}
use Rattle.std.specs.Prelude.{Option, Some, None, Result, Ok, Err}

module _ (b : ℕ) (bureau : is_bureau b ≡ true) where
  -- ---- the other's call
  others : {t : List Place} {book : List ℕ} {v : List Place} {c : ℕ} {a : Ask} {d : Done} → ¬ (c ≡ b) → Booked b t book v → kept d.table ≡ true → Made t c a d → Booked b d.table book v
  others n s k (refuses a r) = s
  others {t} {c = c} n s k (places q m) =
      foreign s (lowest_free t) (owned c (empty q)) (place_found t c (kept_from t m.kept) m.bureau m.under)
      (λ e. not_none b bureau (sym e ∙ lowest_free_lem t)) n k
  others n s k (reads i w x r o) = s
  others {c = c} n s k (enters i x d o e) = foreign s i (owned c d) o.inside (λ z. n (sym o.owner ∙ z)) n k
  others n s k (frees i o) = foreign s i free o.inside (λ z. n (sym o.owner ∙ z)) (λ z. not_none b bureau (sym z)) k

  -- ---- the bureau's own call: the answer d at the table and e at the desk
  record Agree (book : List ℕ) (a : Ask) (d e : Done) : Type 0 where
    same : aside d.answer ≡ e.answer
    booked : Booked b d.table (noted book a d.answer) e.table

  its_own : (t : List Place) (i : ℕ) (w : Work) → (at t i).owner ≡ b → working t b i w ≡ stored t i (worked b (at t i).campaign w)
  its_own t i w o = rw (lt-ltb i (length t) (own_inside t b i bureau o), eq-eqb (at t i).owner b o)

  not_own : (t : List Place) (i : ℕ) (w : Work) → ¬ ((at t i).owner ≡ b) → working t b i w ≡ refused t NotItsOwn
  not_own t i w n =
      by_order i (length t) (λ l. rw (lt-ltb i (length t) l, ne_eqb (at t i).owner b n)) (λ h. rw (le-ltb i (length t) h))

  not_own_called : (t : List Place) (i : ℕ) (w : Work) → kept t ≡ true → ¬ ((at t i).owner ≡ b) → called t b (On i w) ≡ refused t NotItsOwn
  unfolding called
  not_own_called t i w k n = rw (k, bureau) (not_own t i w n)

  module _ {t : List Place} {book : List ℕ} {v : List Place} (s : Booked b t book v) where
    works : (k : ℕ) (w : Work) (c : Campaign) → book_place book k < length t → kept (set t (book_place book k) (worked b c w).place) ≡ true
        → Agree book (On k w) (stored t (book_place book k) (worked b c w)) (stored v k (worked b c w))
    works k (Enter x) c l h = go (entering c x) h
      where
        go : (a : Result Campaign Refusal) → kept (set t (book_place book k) (entry b c a).place) ≡ true → Agree book (On k (Enter x)) (stored t (book_place book k) (entry b c a)) (stored v k (entry b c a))
        go (Ok d) h = record { same = refl; booked = stores s k l (owned b d) refl h }
        go (Err r) h = record { same = refl; booked = stores s k l (owned b c) refl h }
    works k Judge c l h = go (judging c)
      where
        go : (a : Result Verdict Refusal) → Agree book (On k Judge) (stored t (book_place book k)
            (record { answer = verdict_answer a; place = owned b c }))
            (stored v k (record { answer = verdict_answer a; place = owned b c }))
        go (Ok x) = record { same = refl; booked = stores s k l (owned b c) refl h }
        go (Err r) = record { same = refl; booked = stores s k l (owned b c) refl h }
    works k Rate c l h = go (rating c)
      where
        go : (a : Result (Option Rates) Refusal) → Agree book (On k Rate) (stored t (book_place book k)
            (record { answer = rates_answer a; place = owned b c }))
            (stored v k (record { answer = rates_answer a; place = owned b c }))
        go (Ok x) = record { same = refl; booked = stores s k l (owned b c) refl h }
        go (Err r) = record { same = refl; booked = stores s k l (owned b c) refl h }
    works k GiveBack c l h = record { same = refl; booked = books.frees s k l h }

    on_job : (k : ℕ) (w : Work) → Agree book (On k w) (called t b (On (book_place book k) w)) (working v b k w)
    on_job k w =
        by_test (eqb (at v k).owner b)
        (λ h.
        let o = eqb-true (at v k).owner b h in
        let o' : (at t (book_place book k)).owner ≡ b = rw (s.shows k) o in
        let l = own_inside t b (book_place book k) bureau o' in
        let e : called t b (On (book_place book k) w) ≡ stored t (book_place book k) (worked b (at v k).campaign w)
        = rw (← s.shows k) (owner_called t b (book_place book k) w (record { kept = s.kept; bureau = bureau; inside = l; owner = o' })) in
        rw (e, its_own v k w o) (works k w (at v k).campaign l (rw e at (calls_keep t b (On (book_place book k) w) s.kept))))
        (λ h.
        let n = eqb-false (at v k).owner b h in
        let e = not_own_called t (book_place book k) w s.kept (λ z. n (sym (ap (λ (p : Place). p.owner) (s.shows k)) ∙ z)) in
        rw (e, not_own v k w n) (record { same = refl; booked = s }))

    on_taking : (q : ℕ) → Agree book (Take q) (called t b (Take q)) (at_desk v b (Take q))
    unfolding called
    on_taking q =
        by_test (leb 16 (jobs b v))
        (λ h. rw (s.kept, bureau, s.count, h) (record { same = refl; booked = s }))
        (λ h. by_test (standard_in_range q)
        (λ i.
        let u : jobs b t < 16 = rw s.count (leb-false 16 (jobs b v) h) in
        let f = kept_from t s.kept in
        let e = room_placed t b q (record { kept = s.kept; bureau = bureau; under = u; standard = i }) in
        let k = rw e at (calls_keep t b (Take q) s.kept) in
        rw (e, h, i)
        (record {
          same = refl;
          booked = takes s (lowest_free t) (owned b (empty q)) (place_found t b f bureau u) (λ z. not_none b bureau (sym z ∙ lowest_free_lem t)) refl k;
        }))
        (λ i. rw (s.kept, bureau, s.count, h, i) (record { same = refl; booked = s })))

    own : (a : Ask) → Agree book a (called t b (sent book a)) (at_desk v b a)
    own (Take q) = on_taking q
    own (On k w) = on_job k w

  -- ---- the theorems
  pub at_a_desk : (ms : List (Move b)) (t : List Place) (book : List ℕ) (v : List Place) → Booked b t book v → answers b t book ms ≡ desk_answers b v (script ms)
  unfolding answers desk_answers script
  at_a_desk [] t book v s = refl
  at_a_desk (mine a ∷ ms) t book v s = let g = own s a in cc (g.same, at_a_desk ms _ _ _ g.booked)
  at_a_desk (other c n a ∷ ms) t book v s = at_a_desk ms _ _ _ (others n s (calls_keep t c a s.kept) (called_made t c a))

same_script : {b : ℕ} (ms : List (Move b)) → script (alone ms) ≡ script ms
unfolding script alone
same_script [] = refl
same_script (mine a ∷ ms) = ap (λ (l : List Ask). a ∷ l) (same_script ms)
same_script (other c n a ∷ ms) = same_script ms

module _ (b : ℕ) (bureau : is_bureau b ≡ true) where
  -- the answers to a script, in any history from any table, are those at a desk of the bureau's own
  pub its_own_desk : (t : List Place) → kept t ≡ true → (ms : List (Move b)) → answers_from b t ms ≡ desk_answers b (own_jobs b t) (script ms)
  its_own_desk t k ms = at_a_desk b bureau ms t (own_places b 0 t) (own_jobs b t) (own_booked b t k)

  -- so where the bureau has the same jobs at the start, the same script is answered the same
  pub same_answers :
      (t u : List Place)
      → kept t ≡ true
      → kept u ≡ true
      → own_jobs b t ≡ own_jobs b u
      → (ms ns : List (Move b))
      → script ms ≡ script ns
      → answers_from b t ms ≡ answers_from b u ns
  same_answers t u k l e ms ns f = its_own_desk t k ms ∙ rw (e, f) (sym (its_own_desk u l ns))

  -- and as when the script runs alone
  pub as_alone : (t : List Place) → kept t ≡ true → (ms : List (Move b)) → answers_from b t ms ≡ answers_from b t (alone ms)
  as_alone t k ms = same_answers t t k k refl ms (alone ms) (sym (same_script ms))
