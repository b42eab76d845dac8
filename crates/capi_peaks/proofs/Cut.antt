-- A record in pieces cut anywhere, once for each pass, from any two arrays of the right length: no call is refused
-- where the whole record is not, and the peaks are the record's (`in_pieces`). Assumes nothing.
use Prim.Native.Nat.{ℕ, suc, zero, ◌+◌, ◌-◌, ◌≤◌}
use mathlib.Core.Path.{◌≡◌, ap, refl, subst, sym, ◌∙◌}
use mathlib.Core.Bool.{Bool, cond, false, true}
use mathlib.Core.List.{List, [], ◌∷◌, ◌++◌, foldl, foldl-append}
use native.Mathlib.Omega.{arith}
use lib.IntN.{ℤ}
use lib.ListN.{drop, length, length-append, length-drop}
use lib.Seq.{drop-nil}
use borrow.Author.Tests.{eq-eqb, le-ltb}
use Rattle.crossing_sets.specs.Parting.{together}
use Rattle.sample_items.specs.Limits.{decorrelation_in_range, most_in_range, most_samples, ramp_in_range, step_in_range}
use Rattle.sample_range.specs.Range.{first_bad}
use Rattle.peak_groups.specs.declared.Peak.{Peak}
use Rattle.peak_groups.specs.Peaks.{handed}
use Rattle.peak_stream.proofs.Anywhere.{both_long}
use Rattle.peak_stream.proofs.Coming.{handed_anywhere, outs}
use Rattle.peak_stream.proofs.Passing.{totals}
use Rattle.peak_stream.specs.declared.Handing.{Handing}
use Rattle.peak_stream.specs.declared.Surveying.{Surveying}
use Rattle.peak_stream.specs.Hands.{Pieces, at_end, closed_by, moved, waiting}
use Rattle.peak_stream.specs.Survey.{Totalled, none}
use Rattle.peak_stream.specs.Survey as first
use Rattle.capi.specs.Told.{Told, told}
use Rattle.capi_peaks.specs.Calls.{AllHanded, AllTaken, begun, given_out, survey_after, surveyed}
use Rattle.capi_peaks.specs.Numbers.{handing_numbers, of_handing, of_survey, survey_numbers}
use Rattle.capi_peaks.specs.Told.{begun_from, handing_kept, handing_told, opened_at, peaks_begun, peaks_handed}
use Rattle.capi_peaks.specs.Told.{peaks_surveyed, survey_kept, survey_told}
use Rattle.capi_peaks.proofs.Bounds.{InRange, in_range, range_left, range_right}
use Rattle.capi_peaks.proofs.States.{HandingOk, SurveyOk, hand_grows, hand_ok, hand_told, handing_back}
use Rattle.capi_peaks.proofs.States.{none_ok, survey_back, survey_number, take_grows, take_ok, take_told}
use Rattle.capi_peaks.proofs.States.{waiting_ok}

-- ---- the ramp over two pieces
drop_join : (L : ℕ) (xs ys : List ℤ) → drop L (xs ++ ys) ≡ drop L xs ++ drop (L - length xs) ys
drop_join zero xs ys =
    let e : 0 ≡ 0 - length xs = omega arith in
    ap (λ (k : ℕ). xs ++ drop k ys) e
drop_join (suc L) [] ys =
    let e : suc L ≡ suc L - 0 = omega arith in
    ap (λ (k : ℕ). drop k ys) e
drop_join (suc L) (x ∷ xs) ys =
    let e : L - length xs ≡ suc L - suc (length xs) = omega arith in
    drop_join L xs ys ∙ ap (λ (k : ℕ). drop L xs ++ drop k ys) e

-- what comes after the ramp, piece by piece
unfoldable pub timed : ℕ → List (List ℤ) → List (List ℤ)
timed L [] = []
timed L (p ∷ ps) = drop L p ∷ timed (L - length p) ps

timed_all : (L : ℕ) (ps : List (List ℤ)) → together (timed L ps) ≡ drop L (together ps)
unfolding timed
timed_all zero [] = refl
timed_all (suc L) [] = refl
timed_all L (p ∷ ps) =
    ap (λ (l : List ℤ). drop L p ++ l) (timed_all (L - length p) ps) ∙ sym (drop_join L p (together ps))

-- ---- the first pass
pub record Takes (t : Surveying) (R L : ℕ) (ps : List (List ℤ)) : Type 0 where
  pub all : AllTaken (of_survey t R L) ps
  pub after : survey_after (of_survey t R L) ps
      ≡ of_survey (foldl first.surveyed t (drop L (together ps))) R (L - length (together ps))
  pub ok : SurveyOk (foldl first.surveyed t (drop L (together ps))) R (L - length (together ps))

pub takes : (t : Surveying) (R L : ℕ) (ps : List (List ℤ)) → SurveyOk t R L → InRange (together ps)
    → t.reading.n + length (drop L (together ps)) ≤ most_in_range t.reading.step 0 → Takes t R L ps
unfolding survey_after
takes t R L [] k g room =
    let d = drop-nil {A = ℤ} L in
    let z : L - 0 ≡ L = omega arith in
    record { all = tt; after = rw (d, z) refl; ok = rw (d, z) k }
takes t R L (p ∷ ps) k g room =
    let q = together ps in
    let M = L - length p in
    let j = drop_join L p q in
    let l : length (drop L (p ++ q)) ≡ length (drop L p) + length (drop M q)
    = ap length j ∙ length-append (drop L p) (drop M q) in
    let gl = range_left p q g in
    let u = foldl first.surveyed t (drop L p) in
    let h : t.reading.n + length (drop L p) ≤ most_in_range t.reading.step 0 = omega (arith, room, l) in
    let w = take_grows t R L p k gl h in
    let e = take_told t R L p k gl h in
    let rest = takes u R M ps (take_ok t R L p k gl h) (range_right p q g) (rw w.1 (omega (arith, w.0, room, l))) in
    let f : foldl first.surveyed t (drop L (p ++ q)) ≡ foldl first.surveyed u (drop M q)
    = ap (foldl first.surveyed t) j ∙ foldl-append first.surveyed t (drop L p) (drop M q) in
    let m : L - length (p ++ q) ≡ M - length q = omega (arith, length-append p q) in
    record {
      all = (
        ap (λ (x : Told). x.number) e,
        subst (λ (s : List ℕ). AllTaken s ps) (sym (ap (λ (x : Told). x.lent) e)) rest.all,
      );
      after = ap (λ (x : Told). survey_after x.lent ps) e ∙ rest.after
          ∙ sym (ap (λ (v : Surveying). of_survey v R (L - length (p ++ q))) f
          ∙ ap (λ (i : ℕ). of_survey (foldl first.surveyed u (drop M q)) R i) m);
      ok = rw (f, m) rest.ok;
    }

-- ---- the second pass, into slices of at least n places, in pieces of at most n samples
module _ (n : ℕ) (sizes times : List ℕ) (a : n ≤ length sizes) (b : n ≤ length times) where
  pub record Hands (h : Handing) (L : ℕ) (ps : List (List ℤ)) : Type 0 where
    pub all : AllHanded sizes times (of_handing h L) ps
    pub peaks : given_out sizes times (of_handing h L) ps ≡ outs h (timed L ps)

  pub hands : (h : Handing) (L : ℕ) (ps : List (List ℤ)) → HandingOk h L → InRange (together ps)
      → h.reading.n + length (drop L (together ps)) ≤ most_in_range h.reading.step 0 → Pieces n ps → Hands h L ps
  unfolding given_out outs timed
  hands h L [] k g room w = record { all = tt; peaks = ap at_end (handing_back h L k) }
  hands h L (p ∷ ps) k g room w =
      let q = together ps in
      let M = L - length p in
      let j = drop_join L p q in
      let l : length (drop L (p ++ q)) ≡ length (drop L p) + length (drop M q)
      = ap length j ∙ length-append (drop L p) (drop M q) in
      let gl = range_left p q g in
      let i : h.reading.n + length (drop L p) ≤ most_in_range h.reading.step 0 = omega (arith, room, l) in
      let o = both_long n (length sizes) (length times) (length (drop L p))
      (omega (arith, w.0, length-drop L p)) a b in
      let v = hand_grows sizes times h L p k gl i o in
      let e = hand_told sizes times h L p k gl i o in
      let rest = hands (foldl moved h (drop L p)) M ps (hand_ok sizes times h L p k gl i o) (range_right p q g)
      (rw v.1 (omega (arith, v.0, room, l))) w.1 in
      record {
        all = (
          ap (λ (x : Told). x.number) e,
          subst (λ (s : List ℕ). AllHanded sizes times s ps) (sym (ap (λ (x : Told). x.lent) e)) rest.all,
        );
        peaks =
            ap (λ (x : Handing). closed_by x (drop L p)
            ++ given_out sizes times (peaks_handed (of_handing h L) p sizes times).lent ps) (handing_back h L k)
            ∙ ap (λ (x : Told). closed_by h (drop L p) ++ given_out sizes times x.lent ps) e
            ∙ ap (λ (x : List Peak). closed_by h (drop L p) ++ x) rest.peaks;
      }

  -- ---- both
  room_after : (D R m : ℕ) → step_in_range D ≡ true → m ≤ most_in_range D R → m - R ≤ most_in_range D 0
  unfolding most_in_range
  room_after D R m d h = rw d (go (ramp_in_range R) (rw d at h))
    where
      go : (b : Bool) → m ≤ cond b (most_samples D R) 0 → m - R ≤ most_samples D 0
      go true h = omega arith
      go false h = omega arith

  -- from the arrays s and h on, the first pass over ps and the second over qs
  pub record InPieces (D R τ : ℕ) (xs : List ℤ) (s h : List ℕ) (ps qs : List (List ℤ)) : Type 0 where
    pub opens : (peaks_surveyed D R s).number ≡ 0
    pub takes : AllTaken (peaks_surveyed D R s).lent ps
    pub begins : (peaks_begun (surveyed D R s ps) τ h).number ≡ 0
    pub hands : AllHanded sizes times (begun D R τ s h ps) qs
    pub peaks : given_out sizes times (begun D R τ s h ps) qs ≡ handed D R τ xs

  opens_told : (D R : ℕ) (s : List ℕ) → step_in_range D ≡ true → ramp_in_range R ≡ true → length s ≡ survey_numbers
      → peaks_surveyed D R s ≡ told 0 0 (of_survey (none D) R R)
  unfolding survey_kept survey_told opened_at
  opens_told D R s d r l = rw (eq-eqb (length s) survey_numbers l, d, r)

  begins_told : (t : Surveying) (R L τ : ℕ) (h : List ℕ) → SurveyOk t R L → decorrelation_in_range τ ≡ true
      → 2 ≤ t.reading.n → length h ≡ handing_numbers
      → peaks_begun (of_survey t R L) τ h ≡ told 0 0 (of_handing (waiting t.reading.step τ t.number t.sum) R)
  unfolding handing_kept handing_told begun_from
  begins_told t R L τ h k e m l =
      rw (survey_back t R L k, eq-eqb (length h) handing_numbers l, k.keeps, e, le-ltb t.reading.n 2 m)

  pub in_pieces : (D R τ : ℕ) (xs : List ℤ) (ps qs : List (List ℤ)) → together ps ≡ xs → together qs ≡ xs
      → step_in_range D ≡ true → ramp_in_range R ≡ true → decorrelation_in_range τ ≡ true → length xs ≤ first_bad xs
      → length xs ≤ most_in_range D R → R + 2 ≤ length xs → Pieces n qs
      → (s h : List ℕ) → length s ≡ survey_numbers → length h ≡ handing_numbers → InPieces D R τ xs s h ps qs
  in_pieces D R τ xs ps qs e f d r t good most many w s h ls lh =
      let X = drop R (together ps) in
      let S = foldl first.surveyed (none D) X in
      let ex : X ≡ drop R xs = ap (drop R) e in
      let lx : length X ≡ length xs - R = ap length ex ∙ length-drop R xs in
      let g = in_range xs good in
      let gp = subst InRange (sym e) g in
      let k = none_ok D R d r in
      let room : 0 + length X ≤ most_in_range D 0 = omega (arith, lx, room_after D R (length xs) d most) in
      let o = opens_told D R s d r ls in
      let T = takes (none D) R R ps k gp room in
      let v = take_grows (none D) R R (together ps) k gp room in
      let E : surveyed D R s ps ≡ of_survey S R (R - length (together ps))
      = ap (λ (x : Told). survey_after x.lent ps) o ∙ T.after in
      let B = ap (λ (x : List ℕ). peaks_begun x τ h) E
      ∙ begins_told S R (R - length (together ps)) τ h T.ok t (omega (arith, v.0, lx, many)) lh in
      let H = waiting S.reading.step τ S.number S.sum in
      let ok = waiting_ok S.reading.step R τ S.number S.sum T.ok.step r t
      (survey_number S T.ok.keeps) in
      let lq : length (drop R (together qs)) ≡ length xs - R
      = ap (λ (l : List ℤ). length (drop R l)) f ∙ length-drop R xs in
      let N = hands H R qs ok (subst InRange (sym f) g)
      (rw v.1 (omega (arith, lq, room_after D R (length xs) d most))) w in
      let y : X ≡ together (timed R qs) = ex ∙ sym (timed_all R qs ∙ ap (drop R) f) in
      record {
        opens = ap (λ (x : Told). x.number) o;
        takes = subst (λ (x : List ℕ). AllTaken x ps) (sym (ap (λ (x : Told). x.lent) o)) T.all;
        begins = ap (λ (x : Told). x.number) B;
        hands = subst (λ (x : List ℕ). AllHanded sizes times x qs) (sym (ap (λ (x : Told). x.lent) B)) N.all;
        peaks =
            ap (λ (x : Told). given_out sizes times x.lent qs) B
            ∙ N.peaks
            ∙ ap (λ (D : ℕ). outs (waiting D τ S.number S.sum) (timed R qs)) v.1
            ∙ handed_anywhere D τ (timed R qs) S (subst (λ (l : List ℤ). Totalled D l S) y (totals D X))
            ∙ ap (handed D 0 τ) (timed_all R qs ∙ ap (drop R) f);
      }
