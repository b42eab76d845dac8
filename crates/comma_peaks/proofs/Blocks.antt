-- A first pass over a file's samples in blocks, cut anywhere, as `count` takes them (`blocks`): where the record is not
-- too long it comes to the number and the sum of the peaks of the timed samples. Assumes nothing.
use Rattle.std.proofs.Common.{◌≡◌, ℕ, zero, suc, ◌+◌, ◌-◌, ◌<◌, ◌≤◌, true, List, [], ◌∷◌, ◌++◌, length, take, drop, ℤ, sym, refl, ap, ◌∙◌, subst, arith, length-append, length-drop, take_all}
use mathlib.Core.List.{foldl, foldl-append}
use lib.Seq.{drop-nil}
use Rattle.crossing_sets.specs.Parting.{together}
use Rattle.sample_items.specs.Limits.{most_in_range}
use Rattle.peak_stream.specs.declared.Surveying.{Surveying}
use Rattle.peak_stream.specs.Survey.{none, sound, surveyed, Totalled, Small}
use Rattle.peak_stream.proofs.Passing.{good, totals}
use Rattle.peak_stream.proofs.Pieces.{goes, sound_good, small_left, small_right, none_sound}
use Rattle.comma_peaks.specs.Timed.{timed_of, counting, blocks}

pub drop_join : (k : ℕ) (xs ys : List ℤ) → drop k (xs ++ ys) ≡ drop k xs ++ drop (k - length xs) ys
drop_join k [] ys = let e : k - 0 ≡ k = omega arith in rw e (none_left k)
  where
    none_left : (k : ℕ) → drop k ys ≡ drop k [] ++ drop k ys
    none_left zero = refl
    none_left (suc k) = refl
drop_join zero (x ∷ xs) ys = let e : 0 - suc (length xs) ≡ 0 = omega arith in rw e
drop_join (suc k) (x ∷ xs) ys = let e : suc k - suc (length xs) ≡ k - length xs = omega arith in rw e (drop_join k xs ys)

pub small_drop : (k : ℕ) (xs : List ℤ) → Small xs → Small (drop k xs)
small_drop zero xs h = h
small_drop (suc k) [] h = tt
small_drop (suc k) (x ∷ xs) h = small_drop k xs h.1

-- a block's timed samples are all taken where there is room for them
counting_all : (R lines : ℕ) (s : Surveying) (xs : List ℤ) → sound s ≡ true → s.reading.n + length (drop (R - lines) xs) ≤ most_in_range s.reading.step 0
    → counting R lines s xs ≡ foldl surveyed s (drop (R - lines) xs)
unfolding counting
counting_all R lines s xs e l =
    let m = most_in_range s.reading.step 0 - s.reading.n in
    rw e (ap (foldl surveyed s) (take_all m (drop (R - lines) xs) (omega arith)))

-- so many lines came, a pass stands at their timed samples, and there is room for those to come
over_blocks : (R : ℕ) (bs : List (List ℤ)) (lines : ℕ) (s : Surveying) → sound s ≡ true → s.reading.best.size ≤ 4294967295 → Small (together bs)
    → s.reading.n + length (drop (R - lines) (together bs)) ≤ most_in_range s.reading.step 0
    → blocks R lines s bs ≡ foldl surveyed s (drop (R - lines) (together bs))
unfolding blocks
over_blocks R [] lines s e b m l = sym (ap (foldl surveyed s) (drop-nil (R - lines)))
over_blocks R (x ∷ bs) lines s e b m l =
    let A = drop (R - lines) x in
    let B = drop (R - lines - length x) (together bs) in
    let t = foldl surveyed s A in
    let j : drop (R - lines) (x ++ together bs) ≡ A ++ B = drop_join (R - lines) x (together bs) in
    let k : R - (lines + length x) ≡ R - lines - length x = omega arith in
    let n : length (drop (R - lines) (x ++ together bs)) ≡ length A + length B = ap length j ∙ length-append A B in
    let g = goes s A (length B) (small_drop (R - lines) x (small_left x (together bs) m)) b (good s (length A + length B) e (omega (arith, l, n))) in
    let w : most_in_range t.reading.step 0 ≡ most_in_range s.reading.step 0 = ap (λ (D : ℕ). most_in_range D 0) g.step in
    let room : t.reading.n + length (drop (R - (lines + length x)) (together bs)) ≤ most_in_range t.reading.step 0 = rw k (omega (arith, l, n, g.n, w)) in
    ap (λ (u : Surveying). blocks R (lines + length x) u bs) (counting_all R lines s x e (omega (arith, l, n)))
    ∙ over_blocks R bs (lines + length x) t (sound_good t (length B) g.state) g.best (small_right x (together bs) m) room
    ∙ ap (λ (i : ℕ). foldl surveyed t (drop i (together bs))) k
    ∙ sym (foldl-append surveyed s A B)
    ∙ ap (foldl surveyed s) (sym j)

-- A FIRST READING, its samples in blocks cut anywhere: the number and the sum of the peaks of the timed samples
pub counted_anywhere : (D R : ℕ) (bs : List (List ℤ)) → Small (together bs) → length (drop R (together bs)) ≤ most_in_range D 0
    → Totalled D (drop R (together bs)) (blocks R 0 (none D) bs)
counted_anywhere D R bs m l =
    let z : R - 0 ≡ R = omega arith in
    let e : blocks R 0 (none D) bs ≡ foldl surveyed (none D) (drop R (together bs)) =
    over_blocks R bs 0 (none D) (none_sound D) (omega arith) m (rw z (omega arith)) ∙ ap (λ (i : ℕ). foldl surveyed (none D) (drop i (together bs))) z in
    subst (Totalled D (drop R (together bs))) (sym e) (totals D (drop R (together bs)))
