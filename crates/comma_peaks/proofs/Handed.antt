-- A second pass over a file's samples in blocks, cut anywhere, as `hand` takes them (`handing_blocks`): with the
-- number and the sum of a first reading, however its blocks were cut, it hands out the record's peaks. Assumes
-- nothing.
use Rattle.std.proofs.Common.{◌≡◌, ℕ, ◌+◌, ◌-◌, ◌≤◌, true, false, List, [], ◌∷◌, ◌++◌, length, take, drop, ℤ, sym, refl, ap, ◌∙◌, subst, arith, length-append, length-drop, take_all}
use mathlib.Core.List.{foldl}
use lib.Seq.{drop-nil}
use Rattle.crossing_sets.specs.Parting.{together}
use Rattle.sample_items.specs.Limits.{step_in_range, decorrelation_in_range, most_in_range}
use Rattle.peak_groups.specs.declared.Peak.{Peak}
use Rattle.peak_groups.specs.Peaks.{handed, short}
use Rattle.peak_stream.specs.declared.Surveying.{Surveying}
use Rattle.peak_stream.specs.declared.Handing.{Handing}
use Rattle.peak_stream.specs.Survey.{none, started, onwards, Totalled, Small}
use Rattle.peak_stream.specs.Hands.{waiting, begun, moved, closed_by, at_end, hands_on, handing_out, Pieces}
use Rattle.peak_stream.proofs.Coming.{Set, set_out, ready_set}
use Rattle.peak_stream.proofs.Over.{no_refusal}
use Rattle.peak_stream.proofs.Pieces.{survey_anywhere}
use Rattle.peak_stream.proofs.Anywhere.{set_fold, both_long, fresh_ready, passes_anywhere}
use Rattle.comma_peaks.specs.Timed.{timed_of, blocks, handing_blocks}
use Rattle.comma_peaks.proofs.Blocks.{drop_join, small_drop, counted_anywhere}
use Rattle.refusal.specs.declared.Refusal.{Refusal}
use Rattle.std.specs.Prelude.{Result, Ok}
use Rattle.truth.proofs.Answers.{same_ok}

-- the timed samples of each block
timed_blocks : ℕ → ℕ → List (List ℤ) → List (List ℤ)
timed_blocks R lines [] = []
timed_blocks R lines (x ∷ bs) = drop (R - lines) x ∷ timed_blocks R (lines + length x) bs

timed_together : (R lines : ℕ) (bs : List (List ℤ)) → together (timed_blocks R lines bs) ≡ drop (R - lines) (together bs)
unfolding timed_blocks
timed_together R lines [] = sym (drop-nil (R - lines))
timed_together R lines (x ∷ bs) =
    let k : R - (lines + length x) ≡ R - lines - length x = omega arith in
    ap (λ (l : List ℤ). drop (R - lines) x ++ l) (timed_together R (lines + length x) bs ∙ ap (λ (i : ℕ). drop i (together bs)) k)
    ∙ sym (drop_join (R - lines) x (together bs))

timed_pieces : (n R lines : ℕ) (bs : List (List ℤ)) → Pieces n bs → Pieces n (timed_blocks R lines bs)
unfolding timed_blocks
timed_pieces n R lines [] w = tt
timed_pieces n R lines (x ∷ bs) w = (omega (arith, w.0, length-drop (R - lines) x), timed_pieces n R (lines + length x) bs w.1)

module _ (n R : ℕ) (sizes times : List ℕ) (a : n ≤ length sizes) (b : n ≤ length times) where
  same_out : (bs : List (List ℤ)) (lines : ℕ) (h : Handing) (k : ℕ) → Pieces n bs → Set h (length (drop (R - lines) (together bs)))
      → handing_blocks R (length sizes) (length times) lines bs (Ok (h, k)) ≡ handing_out (length sizes) (length times) (timed_blocks R lines bs) (Ok (h, k))
  unfolding handing_blocks handing_out timed_blocks
  same_out [] lines h k w g = refl
  same_out (x ∷ bs) lines h k w g =
      let A = drop (R - lines) x in
      let B = drop (R - (lines + length x)) (together bs) in
      let i : R - (lines + length x) ≡ R - lines - length x = omega arith in
      let j : length (drop (R - lines) (x ++ together bs)) ≡ length A + length B =
      ap length (drop_join (R - lines) x (together bs)) ∙ length-append A (drop (R - lines - length x) (together bs)) ∙ ap (λ (m : ℕ). length A + length (drop m (together bs))) (sym i) in
      let s : Set h (length A + length B) = subst (Set h) j g in
      let t : timed_of R lines h.reading x ≡ A = take_all (most_in_range h.reading.step 0 - h.reading.n) A (omega (arith, s.room)) in
      let r = no_refusal h A sizes times (ready_set h (length A + length B) s) (omega (arith, s.room)) (both_long n
      (length sizes) (length times) (length A) (omega (arith, w.0, length-drop (R - lines) x)) a b) in
      let f = foldl moved h A in
      let c = length (closed_by h A) in
      ap (λ (l : List ℤ). closed_by h l ++ handing_blocks R (length sizes) (length times) (lines + length x) bs (hands_on h l (length sizes) (length times))) t
      ∙ ap (λ (q : Result (Handing × ℕ) Refusal). closed_by h A ++ handing_blocks R (length sizes) (length times) (lines + length x) bs q) (sym r)
      ∙ ap (λ (l : List Peak). closed_by h A ++ l) (same_out bs (lines + length x) f c w.1 (set_fold h A (length B) s))
      ∙ ap (λ (q : Result (Handing × ℕ) Refusal). closed_by h A ++ handing_out (length sizes) (length times) (timed_blocks R (lines + length x) bs) q) r

  -- a second pass that has begun
  abbrev pub Out : List (List ℤ) → ℕ → ℕ → ℕ → ℕ → List Peak
  Out cs D τ N S = handing_blocks R (length sizes) (length times) 0 cs (begun D τ N S)

  from_begun : (D τ N S : ℕ) (cs : List (List ℤ)) → step_in_range D ≡ true → decorrelation_in_range τ ≡ true → length (drop R (together cs)) ≤ most_in_range D 0 → Pieces n cs
      → Out cs D τ N S ≡ handing_out (length sizes) (length times) (timed_blocks R 0 cs) (begun D τ N S)
  unfolding begun
  from_begun D τ N S cs d t l w =
      let z : R - 0 ≡ R = omega arith in
      let h = waiting D τ N S in
      let g : Set h (length (drop (R - 0) (together cs))) = set_out h (length (drop (R - 0) (together cs))) (fresh_ready D τ N S) (rw z (omega arith)) in
      rw (d, t) (same_out cs 0 h 0 w g)

  -- BOTH READINGS of the same samples, each in blocks cut as it likes: the record's peaks
  pub handed_anywhere : (D τ : ℕ) (bs cs : List (List ℤ)) → together bs ≡ together cs → step_in_range D ≡ true → decorrelation_in_range τ ≡ true
      → Small (together bs) → length (drop R (together bs)) ≤ most_in_range D 0 → Pieces n cs
      → Out cs D τ (blocks R 0 (none D) bs).number (blocks R 0 (none D) bs).sum ≡ handed D R τ (together bs)
  handed_anywhere D τ bs cs same d t m l w =
      let c = blocks R 0 (none D) bs in
      let qs = timed_blocks R 0 cs in
      let z : R - 0 ≡ R = omega arith in
      let e : together qs ≡ drop R (together bs) = timed_together R 0 cs ∙ ap (λ (i : ℕ). drop i (together cs)) z ∙ ap (drop R) (sym same) in
      let k : length (drop R (together cs)) ≤ most_in_range D 0 = subst (λ (xs : List ℤ). length (drop R xs) ≤ most_in_range D 0) same l in
      let small = small_drop R (together bs) m in
      let p = passes_anywhere n sizes times a b D R τ (together bs) qs qs e e d t small l (timed_pieces n R 0 cs w) in
      let q = survey_anywhere D qs d (subst Small (sym e) small) (omega (arith, l, ap length e)) in
      let u : p.0 ≡ q.0 = same_ok (sym p.1 ∙ q.1) in
      let total : Totalled D (drop R (together bs)) p.0 = subst (λ (s : Surveying). Totalled D (drop R (together
      bs)) s) (sym u) (subst (λ (xs : List ℤ). Totalled D xs q.0) e q.2) in
      let mine = counted_anywhere D R bs m l in
      from_begun D τ c.number c.sum cs d t k w
      ∙ ap (λ (x : ℕ). handing_out (length sizes) (length times) qs (begun D τ x c.sum)) (mine.number ∙ sym total.number)
      ∙ ap (λ (x : ℕ). handing_out (length sizes) (length times) qs (begun D τ p.0.number x)) (mine.sum ∙ sym total.sum)
      ∙ p.2
