-- Pieces cut anywhere: taken one after the other they come to the joined piece, and the totals are those of its
-- peaks. Assumes nothing.
use Prim.Native.Nat.{ℕ, ◌+◌, ◌*◌, ◌≤◌, ◌<◌}
use mathlib.Core.Path.{◌≡◌, refl, sym, ap, subst, ◌∙◌}
use mathlib.Core.Bool.{Bool, true, false, cond, ◌&&◌}
use mathlib.Core.List.{List, [], ◌∷◌, ◌++◌, foldl, foldl-append}
use native.Mathlib.Omega.{arith}
use lib.ListN.{length, length-append}
use lib.Dec.{leb, ltb}
use lib.IntN.{ℤ, nat_abs}
use borrow.Author.Tests.{leb-true, le-leb, le-ltb, lt-ltb}
use Rattle.truth.proofs.Laws.{and-true, both_true}
use Rattle.truth.proofs.Cases.{by_order}
use Rattle.crossing_sets.specs.Parting.{together}
use Rattle.refusal.specs.declared.Refusal.{Refusal}
use Rattle.refusal.specs.declared.Refusal.TheVariants.{TooLong, BrokenState}
use Rattle.peak_groups.specs.Groups.{larger}
use Rattle.sample_items.specs.Limits.{step_in_range, most_in_range}
use Rattle.peak_stream.specs.declared.Reading.{Reading}
use Rattle.peak_stream.specs.declared.Surveying.{Surveying}
use Rattle.peak_stream.specs.Reading.{here, waits, stays, grown, read, closes, readable}
use Rattle.peak_stream.specs.Survey.{none, started, surveyed, sound, taken, onwards, Totalled, Small}
use Rattle.peak_stream.proofs.Passing.{Good, good, good_step, read_grows, totals}
use Rattle.std.specs.Prelude.{Ok, Err}

-- ---- the answers
module _ (s : Surveying) (xs : List ℤ) where
  pub taken_broken : sound s ≡ false → Err BrokenState ≡ taken s xs
  unfolding taken
  taken_broken e = rw e

  pub taken_long : sound s ≡ true → most_in_range s.reading.step 0 < s.reading.n + length xs → Err TooLong ≡ taken s xs
  unfolding taken
  taken_long e h = rw (e, lt-ltb (most_in_range s.reading.step 0) (s.reading.n + length xs) h)

  pub taken_all : sound s ≡ true → s.reading.n + length xs ≤ most_in_range s.reading.step 0 → Ok (foldl surveyed s xs) ≡ taken s xs
  unfolding taken
  taken_all e h = rw (e, le-ltb (most_in_range s.reading.step 0) (s.reading.n + length xs) h)

-- ---- a sound state stays sound
pub fits : (s : Surveying) → sound s ≡ true → s.reading.n ≤ most_in_range s.reading.step 0
fits s e =
    let r = s.reading in
    leb-true r.n (most_in_range r.step 0) (and-true (leb r.n (most_in_range r.step 0)) (leb r.opened r.n) (and-true (readable r) (leb s.number r.n && leb s.sum (r.n * 4294967295)) e).0).0

pub sound_good : (s : Surveying) (k : ℕ) → Good s k → sound s ≡ true
sound_good s k g = both_true (both_true (le-leb s.reading.n (most_in_range s.reading.step 0) (omega (
  arith,
  g.room,
))) (le-leb _ _ g.opened)) (both_true (le-leb _ _ g.number) (le-leb _ _ g.sum))

best_small : (r : Reading) (x : ℤ) → r.best.size ≤ 4294967295 → nat_abs x ≤ 4294967295 → (read r x).best.size ≤ 4294967295
unfolding read larger
best_small r x h k = go (waits r x) (stays r x) (ltb r.best.size (nat_abs x))
  where
    go : (a b d : Bool) → (cond a (grown r r.opened r.best) (cond b (grown r r.opened (cond d (here r x) r.best)) (grown r (r.opened + 1) (here r x)))).best.size ≤ 4294967295
    go true b d = h
    go false true true = k
    go false true false = h
    go false false d = k

sum_small : (s : Surveying) (x : ℤ) → s.reading.best.size ≤ 4294967295 → (surveyed s x).sum ≤ s.sum + 4294967295
unfolding surveyed
sum_small s x h = go (closes s.reading (read s.reading x))
  where
    go : (b : Bool) → s.sum + cond b s.reading.best.size 0 ≤ s.sum + 4294967295
    go true = omega arith
    go false = omega arith

step_small : (s : Surveying) (x : ℤ) → s.reading.best.size ≤ 4294967295 → nat_abs x ≤ 4294967295 → (surveyed s x).reading.best.size ≤ 4294967295
unfolding surveyed
step_small s x = best_small s.reading x

-- from s to t by m samples, with room for k more
pub record Goes (s t : Surveying) (m k : ℕ) : Type 0 where
  pub state : Good t k
  pub best : t.reading.best.size ≤ 4294967295
  pub n : t.reading.n ≡ s.reading.n + m
  pub step : t.reading.step ≡ s.reading.step

step_grows : (s : Surveying) (x : ℤ) → ((surveyed s x).reading.n ≡ s.reading.n + 1) × ((surveyed s x).reading.step ≡ s.reading.step)
unfolding surveyed
step_grows s x = let g = read_grows s.reading x in (g.n, g.step)

pub goes : (s : Surveying) (xs : List ℤ) (k : ℕ) → Small xs → s.reading.best.size ≤ 4294967295 → Good s (length xs + k) → Goes s (foldl surveyed s xs) (length xs) k
goes s [] k m b g = record { state = subst (Good s) (omega arith) g; best = b; n = omega arith; step = refl }
goes s (x ∷ xs) k m b g =
    let e : length (x ∷ xs) + k ≡ length xs + k + 1 = omega arith in
    let h = goes (surveyed s x) xs k m.1 (step_small s x b m.0) (good_step s x (length xs + k) (sum_small s x b) (subst (Good s) e g)) in
    let w = step_grows s x in
    record { state = h.state; best = h.best; n = omega (arith, h.n, w.0); step = h.step ∙ w.1 }

pub small_left : (xs ys : List ℤ) → Small (xs ++ ys) → Small xs
small_left [] ys h = tt
small_left (x ∷ xs) ys h = (h.0, small_left xs ys h.1)

pub small_right : (xs ys : List ℤ) → Small (xs ++ ys) → Small ys
small_right [] ys h = h
small_right (x ∷ xs) ys h = small_right xs ys h.1

-- ---- two pieces
module _ (s : Surveying) (xs ys : List ℤ) (e : sound s ≡ true) (b : s.reading.best.size ≤ 4294967295) (m : Small xs) where
  abbrev t : Surveying
  t = foldl surveyed s xs

  abbrev most : ℕ
  most = most_in_range s.reading.step 0

  room : s.reading.n + length xs ≤ most → Goes s t (length xs) 0
  room h = goes s xs 0 m b (good s (length xs + 0) e (omega arith))

  joins : s.reading.n + length xs ≤ most → taken t ys ≡ taken s (xs ++ ys)
  joins h = by_order most (s.reading.n + length (xs ++ ys)) long fit
    where
      long : most < s.reading.n + length (xs ++ ys) → taken t ys ≡ taken s (xs ++ ys)
      long k =
          let g = room h in
          let w : most_in_range t.reading.step 0 ≡ most = ap (λ (D : ℕ). most_in_range D 0) g.step in
          sym (taken_long t ys (sound_good t 0 g.state) (omega (arith, w, g.n, length-append xs ys))) ∙ taken_long s (xs ++ ys) e k

      fit : s.reading.n + length (xs ++ ys) ≤ most → taken t ys ≡ taken s (xs ++ ys)
      fit k =
          let g = room h in
          let w : most_in_range t.reading.step 0 ≡ most = ap (λ (D : ℕ). most_in_range D 0) g.step in
          sym (taken_all t ys (sound_good t 0 g.state) (omega (arith, w, g.n, length-append xs ys))) ∙ ap Ok (sym (foldl-append surveyed s xs ys)) ∙ taken_all s (xs ++ ys) e k

-- ---- any number
refused_stays : (ps : List (List ℤ)) (f : Refusal) → onwards ps (Err f) ≡ Err f
unfolding onwards
refused_stays [] f = refl
refused_stays (p ∷ ps) f = refl

pub anywhere : (s : Surveying) (ps : List (List ℤ)) → sound s ≡ true → s.reading.best.size ≤ 4294967295 → Small (together ps) → onwards ps (Ok s) ≡ taken s (together ps)
unfolding onwards
anywhere s [] e b m = taken_all s [] e (omega (arith, fits s e))
anywhere s (p ∷ ps) e b m = by_order (most_in_range s.reading.step 0) (s.reading.n + length p) long (fit (λ t. anywhere t ps))
  where
    long : most_in_range s.reading.step 0 < s.reading.n + length p → onwards ps (taken s p) ≡ taken s (p ++ together ps)
    long h = ap (onwards ps) (sym (taken_long s p e h)) ∙ refused_stays ps TooLong ∙ taken_long s (p ++ together ps) e (omega (arith, length-append p (together ps)))

    fit : ((t : Surveying) → sound t ≡ true → t.reading.best.size ≤ 4294967295 → Small (together ps) → onwards ps
        (Ok t) ≡ taken t (together ps)) → s.reading.n + length p ≤ most_in_range s.reading.step 0 → onwards ps
        (taken s p) ≡ taken s (p ++ together ps)
    fit rest h =
        let l = small_left p (together ps) m in
        let g = room s p (together ps) e b l h in
        ap (onwards ps) (sym (taken_all s p e h)) ∙ rest (foldl surveyed s p) (sound_good (foldl surveyed s p) 0 g.state) g.best (small_right p (together ps) m) ∙ joins s p (together ps) e b l h

pub none_sound : (D : ℕ) → sound (none D) ≡ true
none_sound D = both_true (both_true (le-leb 0 (most_in_range D 0) (omega arith)) refl) (both_true refl refl)

-- the first pass, over the timed samples in pieces cut anywhere
pub survey_anywhere : (D : ℕ) (ps : List (List ℤ)) → step_in_range D ≡ true → Small (together ps) → length (together ps) ≤ most_in_range D 0
    → (s : Surveying) × (onwards ps (started D) ≡ Ok s) × Totalled D (together ps) s
unfolding started
survey_anywhere D ps e m h =
    let x = together ps in (
      foldl surveyed (none D) x,
      rw e (anywhere (none D) ps (none_sound D) (omega arith) m ∙ sym (taken_all (none D) x (none_sound D) (omega arith))),
      totals D x,
    )

pub survey_too_long : (D : ℕ) (ps : List (List ℤ)) → step_in_range D ≡ true → Small (together ps) → most_in_range D 0 < length (together ps) → onwards ps (started D) ≡ Err TooLong
unfolding started
survey_too_long D ps e m h = rw e (anywhere (none D) ps (none_sound D) (omega arith) m ∙ sym (taken_long (none D) (together ps) (none_sound D) (omega arith)))
