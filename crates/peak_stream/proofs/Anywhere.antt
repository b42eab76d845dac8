-- The whole search over pieces: two passes over the same timed samples, each cut as it likes, hand out what the
-- record hands out; and no piece of the second is refused where the record has room and the slices have a place for
-- each sample of a piece. Assumes nothing.
use Prim.Native.Nat.{ℕ, ◌+◌, ◌≤◌}
use mathlib.Core.Path.{◌≡◌, refl, sym, ap, subst, ◌∙◌}
use mathlib.Core.Bool.{true, false}
use mathlib.Core.List.{List, [], ◌∷◌, ◌++◌, foldl}
use native.Mathlib.Omega.{arith}
use lib.ListN.{length, drop, length-append}
use lib.IntN.{ℤ}
use borrow.Author.Tests.{le-leb, le-ltb}
use Rattle.truth.proofs.Laws.{both_true}
use Rattle.crossing_sets.specs.Parting.{together}
use Rattle.sample_items.specs.Limits.{step_in_range, decorrelation_in_range, most_in_range}
use Rattle.peak_groups.specs.declared.Peak.{Peak}
use Rattle.peak_groups.specs.Peaks.{handed, short}
use Rattle.peak_stream.specs.declared.Surveying.{Surveying}
use Rattle.peak_stream.specs.declared.Handing.{Handing}
use Rattle.peak_stream.specs.Survey.{started, onwards, Totalled, Small}
use Rattle.peak_stream.specs.Hands.{waiting, begun, moved, closed_by, ready, hands_on, handing_out, Pieces}
use Rattle.peak_stream.proofs.Pieces.{survey_anywhere}
use Rattle.peak_stream.proofs.Coming.{Set, set_out, set_next, ready_set, outs, handed_anywhere}
use Rattle.peak_stream.proofs.Over.{no_refusal}
use Rattle.refusal.specs.declared.Refusal.{Refusal}
use Rattle.std.specs.Prelude.{Result, Ok}

-- both passes
pub peaks_anywhere : (D τ : ℕ) (ps qs : List (List ℤ)) → together ps ≡ together qs → step_in_range D ≡ true → Small (together ps) → length (together ps) ≤ most_in_range D 0
    → (s : Surveying) × (onwards ps (started D) ≡ Ok s) × (outs (waiting D τ s.number s.sum) qs ≡ handed D 0 τ (together ps))
peaks_anywhere D τ ps qs same e m l =
    let a = survey_anywhere D ps e m l in
    (a.0, a.1, handed_anywhere D τ qs a.0 (subst (λ (xs : List ℤ). Totalled D xs a.0) same a.2) ∙ ap (handed D 0 τ) (sym same))

-- ---- each piece is answered
abbrev pub AllTaken : Handing → List (List ℤ) → ℕ → ℕ → Type 0
AllTaken h [] sizes times = Unit {0}
AllTaken h (p ∷ ps) sizes times = (Ok (foldl moved h p, length (closed_by h p)) ≡ hands_on h p sizes times) × AllTaken (foldl moved h p) ps sizes times

pub set_fold : (h : Handing) (xs : List ℤ) (k : ℕ) → Set h (length xs + k) → Set (foldl moved h xs) k
set_fold h [] k g = subst (Set h) (omega arith) g
set_fold h (x ∷ xs) k g = set_fold (moved h x) xs k (set_next h (moved h x) x (length (x ∷ xs) + k) (length xs + k) refl (omega arith) g)

pub both_long : (n sizes times k : ℕ) → k ≤ n → n ≤ sizes → n ≤ times → short sizes times k ≡ false
both_long n sizes times k h i j = rw (le-ltb sizes k (omega arith), le-ltb times k (omega arith))

pub fresh_ready : (D τ n s : ℕ) → ready (waiting D τ n s) ≡ true
fresh_ready D τ n s = both_true (both_true (le-leb 0 (most_in_range D 0) (omega arith)) refl) (both_true refl refl)

module _ (n : ℕ) (sizes times : List ℕ) (a : n ≤ length sizes) (b : n ≤ length times) where
  taken_on : (h : Handing) (ps : List (List ℤ)) → Pieces n ps → Set h (length (together ps) + 0) → AllTaken h ps (length sizes) (length times)
  taken_on h [] w g = tt
  taken_on h (p ∷ ps) w g =
      let e : length (p ++ together ps) + 0 ≡ length p + (length (together ps) + 0) = ap (λ (k : ℕ). k + 0) (length-append p (together ps)) ∙ (omega arith) in
      let r = ready_set h (length (p ++ together ps) + 0) g in (
        no_refusal h p sizes times r (omega (arith, g.room, e)) (both_long n (length sizes) (length times) (length p) w.0 a b),
        taken_on (foldl moved h p) ps w.1 (set_fold h p (length (together ps) + 0) (subst (Set h) e g)),
      )

  pub all_taken : (h : Handing) (ps : List (List ℤ)) → ready h ≡ true → Pieces n ps → h.reading.n + length
      (together ps) ≤ most_in_range h.reading.step 0 → AllTaken h ps (length sizes) (length times)
  all_taken h ps e w l = taken_on h ps w (set_out h (length (together ps) + 0) e (omega arith))

  -- what the answers hand out is what the states do
  out : (h : Handing) (k : ℕ) (ps : List (List ℤ)) → AllTaken h ps (length sizes) (length times)
      → handing_out (length sizes) (length times) ps (Ok (h, k)) ≡ outs h ps
  unfolding handing_out outs
  out h k [] w = refl
  out h k (p ∷ ps) w =
      ap (λ (a : Result (Handing × ℕ) Refusal). closed_by h p ++ handing_out (length sizes) (length times) ps a) (sym w.0)
      ∙ ap (λ (l : List Peak). closed_by h p ++ l) (out (foldl moved h p) (length (closed_by h p)) ps w.1)

  -- both passes, answer by answer
  pub passes_anywhere : (D R τ : ℕ) (xs : List ℤ) (ps qs : List (List ℤ)) → together ps ≡ drop R xs → together qs ≡ drop R xs
      → step_in_range D ≡ true → decorrelation_in_range τ ≡ true → Small (drop R xs) → length (drop R xs) ≤ most_in_range D 0 → Pieces n qs
      → (s : Surveying) × (onwards ps (started D) ≡ Ok s)
      × (handing_out (length sizes) (length times) qs (begun D τ s.number s.sum) ≡ handed D R τ xs)
  unfolding begun
  passes_anywhere D R τ xs ps qs e f d t m l w =
      let b = peaks_anywhere D τ ps qs (e ∙ sym f) d (subst Small (sym e) m) (omega (arith, l, ap length e)) in
      let s = b.0 in
      let h = waiting D τ s.number s.sum in
      let r = all_taken h qs (fresh_ready D τ s.number s.sum) w (omega (arith, l, ap length f)) in
      (s, b.1, rw (d, t) (out h 0 qs r ∙ b.2 ∙ ap (handed D 0 τ) e))
