-- Taking a job and giving it back. Taking gives the lowest free place with a fresh campaign in it, and a bureau under
-- 16 jobs always gets one for a standard in range; the owner's work on a place is what document 01 makes of the
-- campaign in it. Assumes nothing.
use mathlib.Core.Path.{◌≡◌, ap, refl}
use mathlib.Core.Bool.{true}
use mathlib.Core.List.{List}
use Prim.Native.Nat.{ℕ, ◌<◌}
use lib.ListN.{length, set}
use borrow.Author.Tests.{eq-eqb, lt-leb, lt-ltb}
use Rattle.truth.proofs.Laws.{impossible}
use Rattle.campaign_state.specs.State.{empty, standard_in_range}
use Rattle.bureau_table.specs.declared.Ask.TheVariants.{On, Take}
use Rattle.bureau_table.specs.declared.Place.{Place}
use Rattle.bureau_table.specs.declared.Work.{Work}
use Rattle.bureau_table.specs.declared.Work.TheVariants.{GiveBack}
use Rattle.bureau_table.specs.Table.{at, free, is_bureau, jobs, kept, lowest_free, owned}
use Rattle.bureau_table.specs.Calls.{Done, called, stored, worked}
use Rattle.bureau_table.specs.Taken.{Room, TakenAt}
use Rattle.bureau_table.proofs.Places.{all-at, lowest_free_lem, none_lower}
use Rattle.bureau_table.proofs.Relations.{free_is, kept_from}
use Rattle.bureau_table.proofs.Cases.{Made, Own, called_made, frees, places, rates, reads, refuses, verdict}
use Rattle.bureau_table.proofs.Keeping.{place_found}
use Rattle.bureau_table.specs.declared.Reply.TheVariants.{Freed, Placed}
use Rattle.std.specs.Prelude.{Ok}

taken : {t : List Place} {b q : ℕ} {d : Done} (i : ℕ) → d.answer ≡ Ok (Placed i) → Made t b (Take q) d → TakenAt t b q i d
taken i e (refuses a r) = impossible (cc)
taken {t} {b} i e (places q m) =
    let h : lowest_free t ≡ i = cc in
    let k = kept_from t m.kept in
    rw (← h)
    (record {
      room = m;
      inside = place_found t b k m.bureau m.under;
      was_free = free_is _ (all-at t (lowest_free t) k.all) (lowest_free_lem t);
      none_lower = none_lower t;
      fresh = refl;
    })

freed : {t : List Place} {b i : ℕ} {d : Done} → d.answer ≡ (Ok Freed) → Made t b (On i GiveBack) d → d.table ≡ set t i free
freed e (refuses a r) = impossible (cc)
freed e (reads i w x (verdict v) o) = impossible (cc)
freed e (reads i w x (rates r) o) = impossible (cc)
freed e (frees i o) = refl

-- ---- the theorems
pub taken_at : (t : List Place) (b q i : ℕ) → (called t b (Take q)).answer ≡ Ok (Placed i) → TakenAt t b q i (called t b (Take q))
taken_at t b q i e = taken i e (called_made t b (Take q))

pub room_placed : (t : List Place) (b q : ℕ) → Room t b q → called t b (Take q) ≡ record { answer = Ok (Placed (lowest_free t)); table = set t (lowest_free t) (owned b (empty q)) }
unfolding called
room_placed t b q m = rw (m.kept, m.bureau, lt-leb 16 (jobs b t) m.under, m.standard)

pub always_placed : (t : List Place) (b q : ℕ) → kept t ≡ true → is_bureau b ≡ true → jobs b t < 16 → standard_in_range q ≡ true → (i : ℕ) × ((called t b (Take q)).answer ≡ Ok (Placed i))
always_placed t b q k e u s = (lowest_free t, ap (λ (d : Done). d.answer) (room_placed t b q (record { kept = k; bureau = e; under = u; standard = s })))

pub freed_at_lem : (t : List Place) (b i : ℕ) → (called t b (On i GiveBack)).answer ≡ (Ok Freed) → (called t b (On i GiveBack)).table ≡ set t i free
freed_at_lem t b i e = freed e (called_made t b (On i GiveBack))

pub owner_called : (t : List Place) (b i : ℕ) (w : Work) → Own t b i → called t b (On i w) ≡ stored t i (worked b (at t i).campaign w)
unfolding called
owner_called t b i w o = rw (o.kept, o.bureau, lt-ltb i (length t) o.inside, eq-eqb (at t i).owner b o.owner)
