-- Rows and the places that they stand for. A call stores in one place at most; so the rows that it leaves (`rows_left`)
-- are the rows, with that one's set if it changed. And they stand for the places that it left, so that the next call
-- finds these. Assumes nothing.
use mathlib.Core.Path.{◌≡◌, refl, sym, ap, ◌∙◌}
use mathlib.Core.Bool.{Bool, cond, true, false}
use mathlib.Core.List.{List, [], ◌∷◌}
use Prim.Native.Nat.{ℕ, zero, suc, ◌+◌, ◌≤◌, ◌<◌}
use native.Mathlib.Omega.{arith}
use lib.Dec.{eqb, ltb}
use lib.ListN.{drop, get_or, length, set}
use borrow.Author.Tests.{eq-eqb, eqb-true, le-ltb, lt-ltb}
use Rattle.truth.proofs.Cases.{by_test}
use Rattle.truth.proofs.Laws.{and-true, both_true}
use Rattle.bureau_table.specs.declared.Call.{Call}
use Rattle.bureau_table.specs.declared.Place.{Place}
use Rattle.bureau_table.specs.declared.Worked.{Worked}
use Rattle.bureau_table.specs.Table.{at}
use Rattle.bureau_table.specs.Calls.{Done, called}
use Rattle.bureau_choice.specs.declared.Choice.{Choice}
use Rattle.bureau_survey.specs.declared.Seen.{Seen}
use Rattle.bureau_choice.specs.Steps.{acted, chosen, served, worked_on}
use Rattle.bureau_survey.specs.Survey.{looked, surveyed, unseen}
use Rattle.bureau_survey.proofs.Looking.{look_end, look_on}
use Rattle.bureau_choice.proofs.Serves.{serves}
use Rattle.capi.specs.Numbers.{flag}
use Rattle.capi_bureau.specs.Rows.{of_place, place_of, places_of, rows_left, same_place}
use Rattle.refusal.specs.declared.Refusal.{Refusal}
use Rattle.bureau_table.specs.declared.Reply.{Reply}
use Rattle.std.specs.Prelude.{Result}

same_self : (p : Place) → same_place p p ≡ true
same_self p =
    both_true (eq-eqb p.owner p.owner refl)
    (both_true (eq-eqb p.campaign.standard _ refl)
    (both_true (eq-eqb p.campaign.records _ refl)
    (both_true (eq-eqb p.campaign.failures _ refl)
    (both_true (eq-eqb p.campaign.exposure _ refl) (eq-eqb (flag p.campaign.failed) _ refl)))))

pub rows_length : (rows : List (List ℕ)) → length (places_of rows) ≡ length rows
rows_length [] = refl
rows_length (r ∷ rs) = ap suc (rows_length rs)

pub row_at : (rows : List (List ℕ)) (i : ℕ) (d : List ℕ) → i < length rows → at (places_of rows) i ≡ place_of (get_or rows i d)
row_at [] i d l = absurd (omega arith)
row_at (r ∷ rs) zero d l = refl
row_at (r ∷ rs) (suc i) d l = row_at rs i d (omega arith)

-- no place changed
pub rows_stay : (rows : List (List ℕ)) → rows_left rows (places_of rows) ≡ rows
unfolding rows_left
rows_stay [] = refl
rows_stay (r ∷ rs) = rw (same_self (place_of r)) (ap (λ (l : List (List ℕ)). r ∷ l) (rows_stay rs))

-- one place was stored
rows_set : (rows : List (List ℕ)) (i : ℕ) (d : List ℕ) (p : Place) → i < length rows → rows_left rows
    (set (places_of rows) i p) ≡ cond (same_place (place_of (get_or rows i d)) p) rows (set rows i (of_place p))
unfolding rows_left
rows_set [] i d p l = absurd (omega arith)
rows_set (r ∷ rs) zero d p l = by_test (same_place (place_of r) p) (λ h. rw (h, rows_stay rs)) (λ h. rw (h, rows_stay rs))
rows_set (r ∷ rs) (suc i) d p l =
    rw (same_self (place_of r), rows_set rs i d p (omega arith))
    (by_test (same_place (place_of (get_or rs i d)) p) (λ h. rw h) (λ h. rw h))

-- ---- rows that are left stand for the places that they are left for
same_flag : (a b : Bool) → flag a ≡ flag b → a ≡ b
same_flag true true e = refl
same_flag true false e = absurd (omega arith)
same_flag false true e = absurd (omega arith)
same_flag false false e = refl

place : ℕ → ℕ → ℕ → ℕ → ℕ → Bool → Place
place o q m n t f =
    record { owner = o; campaign = record { standard = q; records = m; failures = n; exposure = t; failed = f } }

alike : {o o' q q' m m' n n' t t' : ℕ} {f f' : Bool} → o ≡ o' → q ≡ q' → m ≡ m' → n ≡ n' → t ≡ t' → f ≡ f'
    → place o q m n t f ≡ place o' q' m' n' t' f'
alike eo eq em en et ef = cc

pub same_place_lem : (p q : Place) → same_place p q ≡ true → p ≡ q
unfolding place
same_place_lem p q e =
    let c = p.campaign in
    let d = q.campaign in
    let o = and-true (eqb p.owner q.owner) _ e in
    let s = and-true (eqb c.standard d.standard) _ o.1 in
    let m = and-true (eqb c.records d.records) _ s.1 in
    let n = and-true (eqb c.failures d.failures) _ m.1 in
    let t = and-true (eqb c.exposure d.exposure) _ n.1 in
    alike (eqb-true _ _ o.0) (eqb-true _ _ s.0) (eqb-true _ _ m.0) (eqb-true _ _ n.0) (eqb-true _ _ t.0)
    (same_flag _ _ (eqb-true _ _ t.1))

place-back : (p : Place) → place_of (of_place p) ≡ p
place-back p = go p p.campaign.failed refl
  where
    go : (p : Place) (b : Bool) → p.campaign.failed ≡ b → place_of (of_place p) ≡ p
    go p true e = rw e refl
    go p false e = rw e refl

pub rows_stand : (rows : List (List ℕ)) (ps : List Place) → length ps ≡ length rows → places_of (rows_left rows ps) ≡ ps
unfolding rows_left
rows_stand [] [] e = refl
rows_stand [] (p ∷ ps) e = absurd (omega arith)
rows_stand (r ∷ rs) [] e = absurd (omega arith)
rows_stand (r ∷ rs) (p ∷ ps) e =
    by_test (same_place (place_of r) p)
    (λ h. rw (h, rows_stand rs ps (omega arith)) (ap (λ (x : Place). x ∷ ps) (same_place_lem (place_of r) p h)))
    (λ h. rw (h, rows_stand rs ps (omega arith)) (ap (λ (x : Place). x ∷ ps) (place-back p)))

-- and a row whose place is left as it was keeps its numbers
pub row_stays : (rows : List (List ℕ)) (ps : List Place) (j : ℕ) (d : List ℕ) → length ps ≡ length rows → j < length rows
    → at ps j ≡ at (places_of rows) j → get_or (rows_left rows ps) j d ≡ get_or rows j d
unfolding rows_left
row_stays [] ps j d e l h = absurd (omega arith)
row_stays (r ∷ rs) [] j d e l h = absurd (omega arith)
row_stays (r ∷ rs) (p ∷ ps) zero d e l h =
    let g : same_place (place_of r) p ≡ true = rw h (same_self (place_of r)) in
    rw g
row_stays (r ∷ rs) (p ∷ ps) (suc j) d e l h = row_stays rs ps j d (omega arith) (omega arith) h

-- ---- the survey, row by row
pub look_row : (s : Seen) (i : ℕ) (rows : List (List ℕ)) (d : List ℕ) → i < length rows
    → looked s i (drop i (places_of rows)) ≡ looked (surveyed s i (place_of (get_or rows i d))) (i + 1) (drop (i + 1) (places_of rows))
look_row s i rows d l = look_on s i (places_of rows) (rw (rows_length rows) l) ∙ rw (row_at rows i d l) refl

pub look_all : (s : Seen) (i : ℕ) (rows : List (List ℕ)) → length rows ≤ i → looked s i (drop i (places_of rows)) ≡ s
look_all s i rows l = look_end s i (places_of rows) (rw (rows_length rows) l)

-- ---- a call over rows: the place that was chosen is worked on, or there is none
module _ (rows : List (List ℕ)) (c : Call) (s : Seen) (d : Choice) (es : s ≡ looked unseen 0 (places_of rows)) (ed : d ≡ chosen c s (length rows)) where
  comes_to : worked_on (places_of rows) c d ≡ called (places_of rows) c.bureau c.ask
  unfolding served
  comes_to =
      ap (worked_on (places_of rows) c) (ed ∙ ap (λ (u : Seen). chosen c u (length rows)) es ∙ ap (chosen c (looked unseen 0 (places_of rows))) (sym (rows_length rows)))
      ∙ serves (places_of rows) c

  abbrev pub Says : Result Reply Refusal → List (List ℕ) → Type 0
  Says x left = (x ≡ (called (places_of rows) c.bureau c.ask).answer) × (left ≡ rows_left rows (called (places_of rows) c.bureau c.ask).table)

  pub none_chosen : length rows ≤ d.at → Says d.answer rows
  none_chosen l =
      let t : ltb d.at (length (places_of rows)) ≡ false = rw (rows_length rows) (le-ltb d.at (length rows) l) in
      let e = rw t at comes_to in
      (ap (λ (x : Done). x.answer) e, sym (rows_stay rows) ∙ ap (λ (x : Done). rows_left rows x.table) e)

  pub one_chosen : (z : List ℕ) → d.at < length rows → (w : Worked) → w ≡ acted c d (place_of (get_or rows d.at z))
      → Says w.answer (cond (same_place (place_of (get_or rows d.at z)) w.place) rows (set rows d.at (of_place w.place)))
  one_chosen z l w ew =
      let t : ltb d.at (length (places_of rows)) ≡ true = rw (rows_length rows) (lt-ltb d.at (length rows) l) in
      let v : w ≡ acted c d (at (places_of rows) d.at) = ew ∙ ap (acted c d) (sym (row_at rows d.at z l)) in
      let e : record { answer = w.answer; table = set (places_of rows) d.at w.place } ≡ called (places_of rows) c.bureau c.ask = rw v (rw t at comes_to) in
      (ap (λ (x : Done). x.answer) e, sym (rows_set rows d.at z w.place l) ∙ ap (λ (x : Done). rows_left rows x.table) e)
