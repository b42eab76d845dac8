-- The first pass sample by sample: its numbers stay within their types while there is room for the samples to come
-- (`Good`), and what it counted and what is to come are all peaks. Assumes nothing.
use Prim.Native.Nat.{ℕ, ◌+◌, ◌*◌, ◌≤◌}
use mathlib.Core.Path.{◌≡◌, refl, sym, ap, ◌∙◌}
use mathlib.Core.Bool.{Bool, true, false, cond, ◌&&◌}
use mathlib.Core.List.{List, [], ◌∷◌, foldl}
use native.Mathlib.Omega.{arith}
use lib.ListN.{length}
use lib.Dec.{leb}
use lib.IntN.{ℤ}
use borrow.Author.Tests.{leb-true}
use Rattle.truth.proofs.Laws.{and-true}
use Rattle.peak_groups.specs.declared.Peak.{Peak}
use Rattle.peak_groups.specs.Groups.{larger}
use Rattle.sample_items.specs.Limits.{most_in_range}
use Rattle.peak_groups.specs.Peaks.{sum}
use Rattle.peak_stream.specs.declared.Reading.{Reading}
use Rattle.peak_stream.specs.declared.Surveying.{Surveying}
use Rattle.peak_stream.specs.Reading.{here, waits, stays, grown, read, closes, readable}
use Rattle.peak_stream.specs.Survey.{none, surveyed, sound, Totalled}
use Rattle.peak_stream.proofs.Ahead.{ahead, ahead_next, ahead_last, ahead_first}

-- ---- a reading's numbers
pub record Grown (r s : Reading) : Type 0 where
  pub step : s.step ≡ r.step
  pub n : s.n ≡ r.n + 1
  pub opened : s.opened ≤ r.opened + 1

pub read_grows : (r : Reading) (x : ℤ) → Grown r (read r x)
unfolding read
read_grows r x = go (waits r x) (stays r x)
  where
    go : (a b : Bool) → Grown r (cond a (grown r r.opened r.best) (cond b (grown r r.opened (larger r.best (here r x))) (grown r (r.opened + 1) (here r x))))
    go true b = record { step = refl; n = refl; opened = omega arith }
    go false true = record { step = refl; n = refl; opened = omega arith }
    go false false = record { step = refl; n = refl; opened = omega arith }

-- ---- as the code adds
module _ (s : Surveying) (x : ℤ) (r : Reading) (e : r ≡ read s.reading x) where
  pub add_yes : closes s.reading r ≡ true → record { reading = r; number = s.number + 1; sum = s.sum + s.reading.best.size } ≡ surveyed s x
  unfolding surveyed
  add_yes k = let h : closes s.reading (read s.reading x) ≡ true = ap (closes s.reading) (sym e) ∙ k in rw (h, e)

  pub add_no : closes s.reading r ≡ false → record { reading = r; number = s.number; sum = s.sum } ≡ surveyed s x
  unfolding surveyed
  add_no k =
      let h : closes s.reading (read s.reading x) ≡ false = ap (closes s.reading) (sym e) ∙ k in
      let a : s.number ≡ s.number + 0 = omega arith in
      let b : s.sum ≡ s.sum + 0 = omega arith in
      rw (h, e) (ap (λ (m : ℕ). record { reading = read s.reading x; number = m; sum = s.sum }) a ∙ ap (λ (m : ℕ). record { reading = read s.reading x; number = s.number + 0; sum = m }) b)

-- ---- with room for k samples more
pub record Good (s : Surveying) (k : ℕ) : Type 0 where
  pub room : s.reading.n + k ≤ most_in_range s.reading.step 0
  pub opened : s.reading.opened ≤ s.reading.n
  pub number : s.number ≤ s.reading.n
  pub sum : s.sum ≤ s.reading.n * 4294967295

pub good : (s : Surveying) (k : ℕ) → sound s ≡ true → s.reading.n + k ≤ most_in_range s.reading.step 0 → Good s k
good s k e h =
    let r = s.reading in
    let a = and-true (readable r) (leb s.number r.n && leb s.sum (r.n * 4294967295)) e in
    let b = and-true (leb r.n (most_in_range r.step 0)) (leb r.opened r.n) a.0 in
    let d = and-true (leb s.number r.n) (leb s.sum (r.n * 4294967295)) a.1 in
    record { room = h; opened = leb-true r.opened r.n b.1; number = leb-true s.number r.n d.0; sum = leb-true s.sum (r.n * 4294967295) d.1 }

few : (b : Bool) → cond b 1 0 ≤ 1
few true = omega arith
few false = omega arith

pub good_step : (s : Surveying) (x : ℤ) (k : ℕ) → (surveyed s x).sum ≤ s.sum + 4294967295 → Good s (k + 1) → Good (surveyed s x) k
unfolding surveyed
good_step s x k h g =
    let r = s.reading in
    let m = read_grows r x in
    record {
      room = rw m.step (omega (arith, m.n, g.room));
      opened = omega (arith, m.n, m.opened, g.opened);
      number = omega (arith, m.n, g.number, few (closes r (read r x)));
      sum = omega (arith, m.n, g.sum, h);
    }

pub good_next : (s t : Surveying) (x : ℤ) (j k : ℕ) → t ≡ surveyed s x → t.sum ≤ s.sum + 4294967295 → j ≡ k + 1 → Good s j → Good t k
good_next s t x j k e h l g = rw e (good_step s x k (rw e at h) (rw l at g))

-- ---- counted, and to come
counted : (b : Bool) (m : ℕ) (p : Peak) (l : List Peak) → m + cond b 1 0 + length l ≡ m + length (cond b (p ∷ l) l)
counted true m p l = omega arith
counted false m p l = omega arith

summed : (b : Bool) (m : ℕ) (p : Peak) (l : List Peak) → m + cond b p.size 0 + sum l ≡ m + sum (cond b (p ∷ l) l)
unfolding sum
summed true m p l = omega arith
summed false m p l = omega arith

pub all_counted : (s : Surveying) (xs : List ℤ) → (foldl surveyed s xs).number ≡ s.number + length (ahead s.reading xs)
unfolding surveyed
all_counted s [] = rw (ahead_last s.reading) (omega arith)
all_counted s (x ∷ xs) =
    let r = s.reading in
    all_counted (surveyed s x) xs ∙ counted (closes r (read r x)) s.number r.best (ahead (read r x) xs) ∙ ap (λ (l : List Peak). s.number + length l) (sym (ahead_next r x xs))

pub all_summed : (s : Surveying) (xs : List ℤ) → (foldl surveyed s xs).sum ≡ s.sum + sum (ahead s.reading xs)
unfolding surveyed sum
all_summed s [] = rw (ahead_last s.reading) (omega arith)
all_summed s (x ∷ xs) =
    let r = s.reading in
    all_summed (surveyed s x) xs ∙ summed (closes r (read r x)) s.sum r.best (ahead (read r x) xs) ∙ ap (λ (l : List Peak). s.sum + sum l) (sym (ahead_next r x xs))

-- from the first sample on
pub totals : (D : ℕ) (xs : List ℤ) → Totalled D xs (foldl surveyed (none D) xs)
totals D xs =
    record {
      number = all_counted (none D) xs ∙ ap (λ (l : List Peak). 0 + length l) (ahead_first D xs) ∙ (omega arith);
      sum = all_summed (none D) xs ∙ ap (λ (l : List Peak). 0 + sum l) (ahead_first D xs) ∙ (omega arith);
    }
