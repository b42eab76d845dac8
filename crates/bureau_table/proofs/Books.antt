-- A bureau's book and its desk: `Booked` says that through its book the bureau sees in the table what stands at its
-- desk. Here: a store of the other's, a store in a place of its own, freeing one and taking one leave it so. Two
-- entries of a book are never the same place, so a store is seen in one job alone; and a place that is free or the
-- other's is in no entry. Assumes nothing.
use mathlib.Core.Path.{◌≡◌, refl, sym, ap, ◌∙◌}
use mathlib.Core.Bool.{true}
use mathlib.Core.List.{List, [], ◌∷◌, ◌++◌}
use Prim.Native.Nat.{ℕ, zero, suc, ◌+◌, ◌<◌}
use native.Mathlib.Omega.{arith}
use lib.Dec.{eqb}
use lib.ListN.{get_or-eq_default, get_or, length, length-append, length-set, set}
use lib.Seq.{get_or-set_other, get_or-set_same}
use borrow.Author.Tests.{eqb-false, eqb-true}
use Rattle.truth.proofs.Cases.{by_order, by_test}
use Rattle.bureau_table.specs.declared.Place.{Place}
use Rattle.bureau_table.specs.Table.{at, free, jobs, kept, one}
use Rattle.bureau_table.specs.History.{book_place}
use Rattle.bureau_table.proofs.Places.{jobs_more, jobs_set, one_other, one_own}
use Rattle.bureau_table.proofs.Relations.{kept_from}

-- ---- lists: an element after a store, and after one more
by_equal : (j k : ℕ) {P : Type 0} → (j ≡ k → P) → (¬ (j ≡ k) → P) → P
by_equal j k f g = by_test (eqb j k) (λ h. f (eqb-true j k h)) (λ h. g (eqb-false j k h))

module _ {A : Type 0} where
  more_last : (l : List A) (a d : A) → get_or (l ++ (a ∷ [])) (length l) d ≡ a
  more_last [] a d = refl
  more_last (x ∷ l) a d = more_last l a d

  more_other : (l : List A) (a d : A) (j : ℕ) → ¬ (j ≡ length l) → get_or (l ++ (a ∷ [])) j d ≡ get_or l j d
  more_other [] a d zero n = absurd (n refl)
  more_other [] a d (suc j) n = refl
  more_other (x ∷ l) a d zero n = refl
  more_other (x ∷ l) a d (suc j) n = more_other l a d j (λ e. n (ap suc e))

-- ---- the bureau's book, and its desk v
pub record Booked (b : ℕ) (t : List Place) (book : List ℕ) (v : List Place) : Type 0 where
  pub kept : kept t ≡ true
  pub long : length book ≡ length v
  -- the k-th job stands in the table, at its place of the book, as on the desk
  pub shows : (k : ℕ) → at t (book_place book k) ≡ at v k
  -- a job in hand is the bureau's
  pub mine : (k : ℕ) → book_place book k < 32 → (at v k).owner ≡ b
  -- two jobs have two places
  pub apart : (j k : ℕ) → book_place book j < 32 → book_place book j ≡ book_place book k → j ≡ k
  -- the bureau has no job but those in its book
  pub count : jobs b t ≡ jobs b v

module _ {b : ℕ} {t : List Place} {book : List ℕ} {v : List Place} (s : Booked b t book v) where
  inside : {i : ℕ} → i < length t → i < 32
  inside l = let e = (kept_from t s.kept).long in omega arith

  -- a place that is not the bureau's is in no entry
  not_booked : (k i : ℕ) → i < length t → ¬ ((at t i).owner ≡ b) → ¬ (book_place book k ≡ i)
  not_booked k i l n e =
      let m : book_place book k < 32 = rw e (inside l) in
      n (ap (λ (j : ℕ). (at t j).owner) (sym e) ∙ ap (λ (p : Place). p.owner) (s.shows k) ∙ s.mine k m)

  pub foreign : (i : ℕ) (p : Place) → i < length t → ¬ ((at t i).owner ≡ b) → ¬ (p.owner ≡ b) → kept (set t i p) ≡ true → Booked b (set t i p) book v
  foreign i p l n m k =
      record {
        kept = k;
        long = s.long;
        shows = λ j. get_or-set_other t i (book_place book j) p free (not_booked j i l n) ∙ s.shows j;
        mine = s.mine;
        apart = s.apart;
        count = omega (arith, jobs_set b t i p l, one_other b (at t i) n, one_other b p m, s.count);
      }

  module _ (k : ℕ) (l : book_place book k < length t) where
    -- the k-th job is on the desk
    pub on_desk : k < length v
    on_desk =
        by_order k (length v) (λ h. h)
        (λ h. let e : book_place book k ≡ 32 = get_or-eq_default book 32 (rw s.long h) in absurd (let m = inside l in omega arith))

    in_book : k < length book
    in_book = rw s.long on_desk

    elsewhere : (j : ℕ) → ¬ (j ≡ k) → ¬ (book_place book j ≡ book_place book k)
    elsewhere j n e = n (sym (s.apart k j (inside l) (sym e)))

    desk_count : (p : Place) → jobs b (set t (book_place book k) p) ≡ jobs b (set v k p)
    desk_count p =
        omega (
          arith,
          jobs_set b t (book_place book k) p l,
          jobs_set b v k p on_desk,
          ap (one b) (s.shows k),
          s.count,
        )

    pub stores : (p : Place) → p.owner ≡ b → kept (set t (book_place book k) p) ≡ true → Booked b (set t (book_place book k) p) book (set v k p)
    stores p o h =
        record {
          kept = h;
          long = s.long ∙ sym (length-set v k p);
          shows =
              λ j. by_equal j k
              (λ e. rw e (get_or-set_same t (book_place book k) p free l ∙ sym (get_or-set_same v k p free on_desk)))
              (λ n. get_or-set_other t (book_place book k) (book_place book j) p free (elsewhere j n) ∙ s.shows j ∙ sym (get_or-set_other v k j p free n));
          mine =
              λ j m. by_equal j k
              (λ e. rw e (ap (λ (p : Place). p.owner) (get_or-set_same v k p free on_desk) ∙ o))
              (λ n. ap (λ (p : Place). p.owner) (get_or-set_other v k j p free n) ∙ s.mine j m);
          apart = s.apart;
          count = desk_count p;
        }

    struck_same : book_place (set book k 32) k ≡ 32
    struck_same = get_or-set_same book k 32 32 in_book

    struck_other : (j : ℕ) → ¬ (j ≡ k) → book_place (set book k 32) j ≡ book_place book j
    struck_other j n = get_or-set_other book k j 32 32 n

    -- an entry that is a place is not the one struck out
    not_struck : (j : ℕ) → book_place (set book k 32) j < 32 → ¬ (j ≡ k)
    not_struck j m e = let z : book_place (set book k 32) j ≡ 32 = rw e struck_same in omega arith

    pub frees : kept (set t (book_place book k) free) ≡ true → Booked b (set t (book_place book k) free) (set book k 32) (set v k free)
    frees h =
        record {
          kept = h;
          long = length-set book k 32 ∙ s.long ∙ sym (length-set v k free);
          shows =
              λ j. by_equal j k
              (λ e. rw (e, struck_same)
              (get_or-eq_default (set t (book_place book k) free) free {n = 32} (let z =
              (kept_from (set t (book_place book k) free) h).long in omega arith) ∙ sym (get_or-set_same v k free
              free on_desk)))
              (λ n. rw (struck_other j n)
              (get_or-set_other t (book_place book k) (book_place book j) free free (elsewhere j n) ∙ s.shows j ∙ sym (get_or-set_other v k j free free n)));
          mine =
              λ j m.
              let n = not_struck j m in
              ap (λ (p : Place). p.owner) (get_or-set_other v k j free free n) ∙ s.mine j (rw (struck_other j n) at m);
          apart =
              λ i j m e.
              let n = not_struck i m in
              let n' = not_struck j (rw e at m) in
              s.apart i j (rw (struck_other i n) at m) (sym (struck_other i n) ∙ e ∙ struck_other j n');
          count = desk_count free;
        }

  -- one more job, in a place that was nobody's
  pub takes : (i : ℕ) (p : Place) → i < length t → ¬ ((at t i).owner ≡ b) → p.owner ≡ b → kept (set t i p) ≡ true → Booked b (set t i p) (book ++ (i ∷ [])) (v ++ (p ∷ []))
  takes i p l n o h =
      let last : book_place (book ++ (i ∷ [])) (length book) ≡ i = more_last book i 32 in
      let others : (j : ℕ) → ¬ (j ≡ length book) → book_place (book ++ (i ∷ [])) j ≡ book_place book j = λ j m. more_other book i 32 j m in
      let seen : at (v ++ (p ∷ [])) (length book) ≡ p = rw s.long (more_last v p free) in
      let seen-others : (j : ℕ) → ¬ (j ≡ length book) → at (v ++ (p ∷ [])) j ≡ at v j = λ j m. more_other v p free j (λ e. m (e ∙ sym s.long)) in
      record {
        kept = h;
        long = length-append book (i ∷ []) ∙ ap (λ (n : ℕ). n + 1) s.long ∙ sym (length-append v (p ∷ []));
        shows =
            λ j. by_equal j (length book)
            (λ e. rw (e, last, seen) (get_or-set_same t i p free l))
            (λ m. rw (others j m, seen-others j m) (get_or-set_other t i (book_place book j) p free (not_booked j i l n) ∙ s.shows j));
        mine =
            λ j m. by_equal j (length book)
            (λ e. rw (e, seen) o)
            (λ q. rw (seen-others j q) (s.mine j (rw (others j q) at m)));
        apart =
            λ j k m e. by_equal j (length book)
            (λ a. by_equal k (length book) (λ c. a ∙ sym c)
            (λ c. absurd (not_booked k i l n (sym (others k c) ∙ sym e ∙ rw a last))))
            (λ a. by_equal k (length book)
            (λ c. absurd (not_booked j i l n (sym (others j a) ∙ e ∙ rw c last)))
            (λ c. s.apart j k (rw (others j a) at m) (sym (others j a) ∙ e ∙ others k c)));
        count = omega (arith, jobs_set b t i p l, one_other b (at t i) n, one_own b p o, jobs_more b v p, s.count);
      }
