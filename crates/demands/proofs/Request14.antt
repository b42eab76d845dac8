-- [14], the rate beyond the records, by the definitions that have no figure of ours in them (`peak_reach/specs/Reach`,
-- whole powers and document 01's S(K, x)). The entry is decided by its tests in the request's order. A standard is
-- accepted only if it is below the mean time between failures at the upper ends of count and shape, and whenever it is
-- so with the spare; rejected likewise, at the lower ends; never both. The times are in order, and move with the level,
-- the samples and the peaks as they should; at the k-th peak they are the counted ones; equal peaks are refused. No
-- builder who gives one letter to everything, or 0 for every time, keeps the promise. h and w are the half-widths.
-- Assumes nothing.
use mathlib.Core.Path.{◌≡◌, ap, refl, sym, ◌∙◌}
use mathlib.Core.Bool.{Bool, true, false, cond, not}
use mathlib.Core.List.{List, [], ◌∷◌}
use mathlib.Core.Logic.{◌⊎◌}
use Prim.Native.Nat.{ℕ, zero, suc, ◌+◌, ◌-◌, ◌*◌, ◌^◌, ◌≤◌, ◌<◌}
use native.Mathlib.Nat.{le_refl, le_trans, mul-le-mul, mul-le-mul_left, mul-le-mul_right}
use native.Mathlib.Omega.{arith}
use borrow.Author.Tests.{le-leb, leb-true}
use lib.Dec.{eqb, leb, ltb}
use lib.ListN.{get_or, length}
use Rattle.truth.proofs.Laws.{and-true, impossible}
use Rattle.refusal.specs.declared.Refusal.{Refusal}
use Rattle.refusal.specs.declared.Refusal.TheVariants.{Item, LowLevel, NoSpread, Peak, Tail, TimedSamples}
use Rattle.sample_items.specs.Limits.{level_in_range, step_in_range}
use Rattle.campaign_state.specs.State as campaign
use Rattle.poisson.specs.Fractions.{Less, over}
use Rattle.poisson.specs.Series as series
use Rattle.logarithm.specs.Ours.{our_figure}
use Rattle.logarithm.proofs.Whole.{none_within}
use Rattle.exponential.specs.Exponential.{past}
use Rattle.root.proofs.First.{least_root_lem, only_least}
use Rattle.root.proofs.HalfWidth.{half_width_lem}
use Rattle.peak_tail.specs.Fitting.{tail_outside}
use Rattle.peak_tail.specs.Hill.{figures, hill_sum, kth}
use Rattle.peak_reach.specs.Answers.{CountedTimes, ExtrapolatesTo, extrapolated, first_out, item_outside, letter_for}
use Rattle.peak_reach.specs.Answers.{no_spread, reached, samples_outside, standard_in_range, times}
use Rattle.peak_reach.specs.Figures.{count_width, exponent_down, full_sum, longest_standard, shape_width}
use Rattle.peak_reach.specs.Reach.{Accepted, AcceptedWell, AtMostEstimate, HalfWidths, PowersAtMost, Rejected}
use Rattle.peak_reach.specs.Reach.{RejectedWell, product}
use Rattle.peak_reach.specs.declared.Letter.{Letter}
use Rattle.peak_reach.specs.declared.Letter.TheVariants.{Accept, Reject}
use Rattle.peak_reach.specs.declared.Times.{Times}
use Rattle.peak_reach.proofs.Apart as apart
use Rattle.peak_reach.proofs.Counted as counting
use Rattle.peak_reach.proofs.Grows.{figures_grow, full_level_grows, level_grows, longest_grows, rejected_grows}
use Rattle.peak_reach.proofs.Grows.{width_grows}
use Rattle.peak_reach.proofs.Judging.{apart, from_accept, from_reject, to_accept, to_reject}
use Rattle.peak_reach.proofs.Letters.{longer_rejected, shorter_accepted}
use Rattle.peak_reach.proofs.Order.{Answered, answered, answered_right, at_another, hill, in_peaks}
use Rattle.peak_reach.proofs.Rightly.{exponents_small}
use Rattle.peak_reach.proofs.Unique.{extrapolate_unique}
use Rattle.demands.proofs.Demand1.{Decides, Test, ◌gives◌, decide, decided}
use Rattle.std.specs.Prelude.{Result, Ok, Err}
use Rattle.truth.proofs.Answers.{same_err}

-- ---- the statement
-- 1 with the lowest of items 1, 3 and 5; 16; 17 with the first place; 19; 20 with the k-th peak; 21
abbrev pub beyond_tests : List ℕ → ℕ → ℕ → ℕ → ℕ → ℕ → List Test
beyond_tests ys k c D P q =
    not (step_in_range D) gives Item 1
    ∷ (not (level_in_range c) gives Item 3
    ∷ (not (standard_in_range q) gives Item 5
    ∷ (tail_outside (length ys) k gives Tail
    ∷ (ltb (first_out ys) (length ys) gives Peak (first_out ys)
    ∷ (samples_outside k P gives TimedSamples
    ∷ (ltb c (kth ys k) gives LowLevel (kth ys k)
    ∷ (no_spread k (hill_sum ys k) (our_figure c (kth ys k)) gives NoSpread
    ∷ [])))))))

-- accepted and rejected, with and without the spare, at the half-widths of k among P samples
abbrev pub AcceptedAt : List ℕ → ℕ → ℕ → ℕ → ℕ → ℕ → Type 0
AcceptedAt ys k c D P q = Accepted ys k c P D (count_width k P) (shape_width k) q

abbrev pub RejectedAt : List ℕ → ℕ → ℕ → ℕ → ℕ → ℕ → Type 0
RejectedAt ys k c D P q = Rejected ys k c P D (count_width k P) (shape_width k) q

abbrev pub AcceptedWellAt : List ℕ → ℕ → ℕ → ℕ → ℕ → ℕ → Type 0
AcceptedWellAt ys k c D P q = AcceptedWell ys k c P D (count_width k P) (shape_width k) q

abbrev pub RejectedWellAt : List ℕ → ℕ → ℕ → ℕ → ℕ → ℕ → Type 0
RejectedWellAt ys k c D P q = RejectedWell ys k c P D (count_width k P) (shape_width k) q

-- the spare, in its numbers: each peak before the k-th and the level 2 units of 1/65,536 worse, or the level at the
-- k-th peak, and the standard one millionth worse
abbrev pub SpareAccepted : Type 0
SpareAccepted =
    (ys : List ℕ) (k c D P h w q p c' X Z K : ℕ)
    → 2 ^ (2 * (k - 1)) * product ys k ^ 65536 ≤ p ^ 65536
    → (2 ^ 2 * c' ^ 65536 ≤ c ^ 65536) ⊎ (c' ≡ kth ys k)
    → 1 ≤ Z → PowersAtMost p (kth ys k ^ k) (X * (1000000 + w)) c' (kth ys k) (Z * (1000000 * k))
    → Less (over (q * 1000001 * (1000 * k + h)) (1000000 * (1000 * (P * D)))) (series.S K (over X Z))
    → AcceptedWell ys k c P D h w q

abbrev pub SpareRejected : Type 0
SpareRejected =
    (ys : List ℕ) (k c D P h w q p c' X Z : ℕ)
    → 2 ^ (2 * (k - 1)) * p ^ 65536 ≤ product ys k ^ 65536
    → (2 ^ 2 * c ^ 65536 ≤ c' ^ 65536) ⊎ ((c ≡ kth ys k) × (c' ≡ kth ys k))
    → 1 ≤ Z → w < 1000000 → PowersAtMost c' (kth ys k) (Z * (1000000 * k)) p (kth ys k ^ k) (X * (1000000 - w))
    → ((K : ℕ) → Less (series.S K (over X Z)) (over (1000000 * (q * (1000 * k - h))) (1000001 * (1000 * (P * D)))))
    → RejectedWell ys k c P D h w q

-- the second times are no shorter than the first, where 0 stands for a standard that is never rejected
pub record NoShorter (t s : Times) : Type 0 where
  pub estimate : t.estimate ≤ s.estimate
  pub accepted : t.accepted ≤ s.accepted
  pub rejected : 1 ≤ s.rejected → (1 ≤ t.rejected) × (t.rejected ≤ s.rejected)

-- an answer to every list and every item, and that it keeps the promise
abbrev pub Answer : Type 0
Answer = List ℕ → ℕ → ℕ → ℕ → ℕ → ℕ → Result (Times × Letter) Refusal

abbrev pub Keeps : Answer → Type 0
Keeps f = (ys : List ℕ) (k c D P q : ℕ) → ExtrapolatesTo ys k c D P q (f ys k c D P q)

pub record Request14 : Type 0 where
  pub order : (ys : List ℕ) (k c D P q : ℕ)
      → Decides Err (beyond_tests ys k c D P q) (Ok (times ys k c D P, letter_for q (times ys k c D P))) (extrapolated ys k c D P q)
  -- item 5 is a campaign's
  pub standards : (q : ℕ) → standard_in_range q ≡ campaign.standard_in_range q
  pub settled : (ys : List ℕ) (k c D P q : ℕ) (x y : Result (Times × Letter) Refusal) → ExtrapolatesTo ys k c D P q x → ExtrapolatesTo ys k c D P q y → x ≡ y
  -- the half-widths are the least such numbers, and the only ones
  pub widths : (k P : ℕ) → 1 ≤ k → HalfWidths k P (count_width k P) (shape_width k)
  pub only_widths : (k P h w : ℕ) → 1 ≤ k → HalfWidths k P h w → (h ≡ count_width k P) × (w ≡ shape_width k)
  -- A only if, and whenever with the spare; R likewise; never both
  pub accepted_only_if : (ys : List ℕ) (k c D P q : ℕ) (t : Times) → extrapolated ys k c D P q ≡ Ok (t, Accept) → AcceptedAt ys k c D P q
  pub accepted_whenever : (ys : List ℕ) (k c D P q : ℕ) (t : Times) (l : Letter) → extrapolated ys k c D P q ≡ Ok (t, l)
      → AcceptedWellAt ys k c D P q → l ≡ Accept
  pub rejected_only_if : (ys : List ℕ) (k c D P q : ℕ) (t : Times) → extrapolated ys k c D P q ≡ Ok (t, Reject) → RejectedAt ys k c D P q
  pub rejected_whenever : (ys : List ℕ) (k c D P q : ℕ) (t : Times) (l : Letter) → extrapolated ys k c D P q ≡ Ok (t, l)
      → RejectedWellAt ys k c D P q → l ≡ Reject
  pub never_both : (ys : List ℕ) (k c D P q : ℕ) (t : Times) (l : Letter) → extrapolated ys k c D P q ≡ Ok (t, l)
      → (p : ℕ) → AcceptedAt ys k c D P p → RejectedAt ys k c D P p → ⊥
  -- what is to spare is that and no more
  pub spare_accepted : SpareAccepted
  pub spare_rejected : SpareRejected
  -- E is at most the estimate, and at least what is left of it with the spare
  pub estimate : (ys : List ℕ) (k c D P q : ℕ) (t : Times) (l : Letter) → extrapolated ys k c D P q ≡ Ok (t, l)
      → AtMostEstimate ys k c P D t.estimate
  pub estimate_near : (ys : List ℕ) (k c D P q : ℕ) (t : Times) (l : Letter) → extrapolated ys k c D P q ≡ Ok (t, l)
      → (p : ℕ) → p ≤ longest_standard → AcceptedWell ys k c P D 0 0 p → p ≤ t.estimate
  -- A ≤ E < B
  pub in_order : (ys : List ℕ) (k c D P q : ℕ) (t : Times) (l : Letter) → extrapolated ys k c D P q ≡ Ok (t, l)
      → (t.accepted ≤ t.estimate) × (1 ≤ t.rejected → t.estimate < t.rejected)
  -- what is accepted is accepted at every shorter standard, what is rejected at every longer one
  pub shorter : (ys : List ℕ) (k c D P q p : ℕ) (t : Times) → extrapolated ys k c D P q ≡ Ok (t, Accept) → 1 ≤ p → p ≤ q
      → extrapolated ys k c D P p ≡ Ok (t, Accept)
  pub longer : (ys : List ℕ) (k c D P q p : ℕ) (t : Times) → extrapolated ys k c D P q ≡ Ok (t, Reject) → q ≤ p → p ≤ longest_standard
      → extrapolated ys k c D P p ≡ Ok (t, Reject)
  -- a higher level, and higher peaks over the same k-th one
  pub higher_level : (ys : List ℕ) (k c d D P q p : ℕ) (t s : Times) (l m : Letter) → c ≤ d
      → extrapolated ys k c D P q ≡ Ok (t, l) → extrapolated ys k d D P p ≡ Ok (s, m) → NoShorter t s
  pub higher_peaks : (ys zs : List ℕ) (k c D P q p : ℕ) (t s : Times) (l m : Letter) → kth ys k ≡ kth zs k
      → ((i : ℕ) → i < k → get_or ys i 0 ≤ get_or zs i 0)
      → extrapolated ys k c D P q ≡ Ok (t, l) → extrapolated zs k c D P p ≡ Ok (s, m) → NoShorter s t
  -- more samples: E and B grow, and A where the half-width is the same; A alone need not
  pub more_samples : (ys : List ℕ) (k c D P Q q p : ℕ) (t s : Times) (l m : Letter) → P ≤ Q
      → extrapolated ys k c D P q ≡ Ok (t, l) → extrapolated ys k c D Q p ≡ Ok (s, m)
      → (t.estimate ≤ s.estimate) × (1 ≤ s.rejected → (1 ≤ t.rejected) × (t.rejected ≤ s.rejected))
  pub more_samples_accepted : (ys : List ℕ) (k c D P Q q p : ℕ) (t s : Times) (l m : Letter) → P ≤ Q → count_width k P ≡ count_width k Q
      → extrapolated ys k c D P q ≡ Ok (t, l) → extrapolated ys k c D Q p ≡ Ok (s, m) → t.accepted ≤ s.accepted
  -- at the k-th peak itself, the counted answer
  pub counted : (ys : List ℕ) (k D P q : ℕ) (t : Times) (l : Letter) → extrapolated ys k (kth ys k) D P q ≡ Ok (t, l)
      → CountedTimes k (count_width k P) (shape_width k) (1000 * (P * D)) t
  -- equal peaks, those of clipped records, have no times and no letter
  pub clipped : (ys : List ℕ) (k c D P q : ℕ) (t : Times) (l : Letter) → ((i : ℕ) → i < k → get_or ys i 0 ≡ kth ys k)
      → extrapolated ys k c D P q ≡ Ok (t, l) → ⊥

-- ---- the proof
-- an item's number and the tests of the three items
first-item : (ts : List Test) (x : Result (Times × Letter) Refusal) (a b c : Bool) (n : ℕ) → n ≡ cond (not a) 1 (cond (not b) 3 (cond (not c) 5 0))
    → cond (not (eqb n 0)) (Err (Item n)) (decide Err ts x)
    ≡ decide Err (not a gives Item 1 ∷ (not b gives Item 3 ∷ (not c gives Item 5 ∷ ts))) x
unfolding decide
first-item ts x false b c n e = rw e
first-item ts x true false c n e = rw e
first-item ts x true true false n e = rw e
first-item ts x true true true n e = rw e

order : (ys : List ℕ) (k c D P q : ℕ)
    → Decides Err (beyond_tests ys k c D P q) (Ok (times ys k c D P, letter_for q (times ys k c D P))) (extrapolated ys k c D P q)
unfolding decide extrapolated reached item_outside
order ys k c D P q =
    decided Err (Ok (times ys k c D P, letter_for q (times ys k c D P))) (λ r s. same_err) (λ r e. impossible (cc)) (beyond_tests ys k c D P q) (extrapolated ys k c D P q)
    (first-item
    (tail_outside (length ys) k gives Tail
    ∷ (ltb (first_out ys) (length ys) gives Peak (first_out ys)
    ∷ (samples_outside k P gives TimedSamples
    ∷ (ltb c (kth ys k) gives LowLevel (kth ys k)
    ∷ (no_spread k (hill_sum ys k) (our_figure c (kth ys k)) gives NoSpread
    ∷ [])))))
    (Ok (times ys k c D P, letter_for q (times ys k c D P))) (step_in_range D) (level_in_range c) (standard_in_range q)
    (item_outside D c q) refl)

spare_accepted : SpareAccepted
spare_accepted ys k c D P h w q p c' X Z K higher lower unit exponent longer =
    record {
      p = p;
      higher = higher;
      c' = c';
      lower = lower;
      X = X;
      Z = Z;
      K = K;
      unit = unit;
      exponent = exponent;
      longer = longer;
    }

spare_rejected : SpareRejected
spare_rejected ys k c D P h w q p c' X Z lower higher unit some exponent shorter =
    record {
      p = p;
      lower = lower;
      c' = c';
      higher = higher;
      X = X;
      Z = Z;
      unit = unit;
      some_shape = some;
      exponent = exponent;
      shorter = shorter;
    }

widths : (k P : ℕ) → 1 ≤ k → HalfWidths k P (count_width k P) (shape_width k)
widths k P some = record { count = half_width_lem 2236 k P; shape = least_root_lem (2236000 * 2236000) k some }

only_widths : (k P h w : ℕ) → 1 ≤ k → HalfWidths k P h w → (h ≡ count_width k P) × (w ≡ shape_width k)
only_widths k P h w some x =
    (only_least x.count (half_width_lem 2236 k P), only_least x.shape (least_root_lem (2236000 * 2236000) k some))

-- ---- one answer with times
module _ (ys : List ℕ) (k c D P q : ℕ) (t : Times) (l : Letter) (e : extrapolated ys k c D P q ≡ Ok (t, l)) where
  a : Answered ys k c D P q t l
  a = answered ys k c D P q t l e

  within_standard : q ≤ longest_standard
  within_standard = let (x, y) = and-true (leb 1 q) (leb q longest_standard) a.standard in leb-true q longest_standard y

  accepts : l ≡ Accept → AcceptedAt ys k c D P q
  accepts is =
      shorter_accepted ys k c P D (count_width k P) (shape_width k) t.accepted q
      (from_accept q t (sym a.letter ∙ is))
      (answered_right ys k c D P q t l a).accepted

  accepts_well : AcceptedWellAt ys k c D P q → l ≡ Accept
  accepts_well w = a.letter ∙ to_accept q t ((answered_right ys k c D P q t l a).accepted_near q within_standard w)

  rejects : l ≡ Reject → RejectedAt ys k c D P q
  rejects is =
      let (some, m) = from_reject q t (sym a.letter ∙ is) in
      longer_rejected ys k c P D (count_width k P) (shape_width k) t.rejected q m
      ((answered_right ys k c D P q t l a).rejected some)

  rejects_well : RejectedWellAt ys k c D P q → l ≡ Reject
  rejects_well w =
      let r = answered_right ys k c D P q t l a in
      let (some, m) = r.rejected_near q within_standard w in
      a.letter ∙ to_reject q t (omega (arith, r.first, r.last some)) some m

  never_both : (p : ℕ) → AcceptedAt ys k c D P p → RejectedAt ys k c D P p → ⊥
  never_both p x y =
      apart.never_both ys k c P D (count_width k P) (shape_width k) p a.is_ready.some_peak a.is_ready.above
      (apart ys k (hill_sum ys k) (hill ys k c D a.judged) a.is_ready.spread a.is_ready.some_peak)
      x
      y

  -- at another standard the times are the same
  other : (p : ℕ) → 1 ≤ p → p ≤ longest_standard → extrapolated ys k c D P p ≡ Ok (t, letter_for p t)
  other p low high = at_another ys k c D P q t l a p (rw (le-leb 1 p low, le-leb p longest_standard high))

  shorter : l ≡ Accept → (p : ℕ) → 1 ≤ p → p ≤ q → extrapolated ys k c D P p ≡ Ok (t, Accept)
  shorter is p low high =
      other p low (le_trans high within_standard)
      ∙ ap ((λ a. Ok (t, a))) (to_accept p t (le_trans high (from_accept q t (sym a.letter ∙ is))))

  longer : l ≡ Reject → (p : ℕ) → q ≤ p → p ≤ longest_standard → extrapolated ys k c D P p ≡ Ok (t, Reject)
  longer is p low high =
      let r = answered_right ys k c D P q t l a in
      let (some, m) = from_reject q t (sym a.letter ∙ is) in
      other p (omega (arith, some, m)) high
      ∙ ap ((λ a. Ok (t, a))) (to_reject p t (omega (arith, r.first, r.last some, m)) some (le_trans m low))

-- ---- two answers
higher_level : (ys : List ℕ) (k c d D P q p : ℕ) (t s : Times) (l m : Letter) → c ≤ d
    → extrapolated ys k c D P q ≡ Ok (t, l) → extrapolated ys k d D P p ≡ Ok (s, m) → NoShorter t s
higher_level ys k c d D P q p t s l m le e f =
    let a = answered ys k c D P q t l e in
    let b = answered ys k d D P p s m f in
    let u = kth ys k in
    let S = hill_sum ys k in
    let r = 1000 * (P * D) in
    let w = shape_width k in
    let h = count_width k P in
    let g = mul-le-mul_left k (level_grows u c d a.is_ready.some_peak le b.is_ready.level_most) in
    let small = exponents_small ys k d S D P (hill ys k d D b.judged) b.is_ready in
    rw (a.is, b.is)
    (record {
      estimate =
          longest_grows (k * our_figure c u) (k * our_figure d u) (S + 2 * (k - 1)) (S + 2 * (k - 1)) 0 (1000 * k) r r 0
          g (le_refl _) (omega (arith, a.is_ready.spread)) (le_refl _) (omega (arith, a.is_ready.two)) small.0;
      accepted =
          longest_grows (k * our_figure c u) (k * our_figure d u) (S + 2 * (k - 1)) (S + 2 * (k - 1)) w (1000 * k + h) r r 1
          g (le_refl _) (omega (arith, a.is_ready.spread)) (le_refl _) (omega (arith, a.is_ready.two)) small.1;
      rejected =
          rejected_grows k _ _ S S h h w r r
          (full_level_grows u c d a.is_ready.some_peak a.is_ready.above le b.is_ready.level_most)
          (le_refl _) a.is_ready.spread (le_refl _) (le_refl _);
    })

higher_peaks : (ys zs : List ℕ) (k c D P q p : ℕ) (t s : Times) (l m : Letter) → kth ys k ≡ kth zs k
    → ((i : ℕ) → i < k → get_or ys i 0 ≤ get_or zs i 0)
    → extrapolated ys k c D P q ≡ Ok (t, l) → extrapolated zs k c D P p ≡ Ok (s, m) → NoShorter s t
higher_peaks ys zs k c D P q p t s l m same all e f =
    let a = answered ys k c D P q t l e in
    let b = answered zs k c D P p s m f in
    let u = kth ys k in
    let S = hill_sum ys k in
    let Z = figures zs u k in
    let r = 1000 * (P * D) in
    let w = shape_width k in
    let h = count_width k P in
    let sums : S ≤ Z = figures_grow ys zs u k a.is_ready.some_peak (λ i j. (all i j, in_peaks zs k c D b.judged i j)) in
    let full : S + 2 * (k - 1) ≤ Z + 2 * (k - 1) = omega arith in
    let small = exponents_small ys k c S D P (hill ys k c D a.judged) a.is_ready in
    rw (a.is, b.is, ← same)
    (record {
      estimate =
          longest_grows (k * our_figure c u) (k * our_figure c u) (Z + 2 * (k - 1)) (S + 2 * (k - 1)) 0 (1000 * k) r r 0
          (le_refl _) full (omega (arith, a.is_ready.spread)) (le_refl _) (omega (arith, a.is_ready.two)) small.0;
      accepted =
          longest_grows (k * our_figure c u) (k * our_figure c u) (Z + 2 * (k - 1)) (S + 2 * (k - 1)) w (1000 * k + h) r r 1
          (le_refl _) full (omega (arith, a.is_ready.spread)) (le_refl _) (omega (arith, a.is_ready.two)) small.1;
      rejected = rejected_grows k _ _ Z S h h w r r (le_refl _) sums a.is_ready.spread (le_refl _) (le_refl _);
    })

module _ (ys : List ℕ) (k c D P Q q p : ℕ) (t s : Times) (l m : Letter) (le : P ≤ Q)
    (e : extrapolated ys k c D P q ≡ Ok (t, l)) (f : extrapolated ys k c D Q p ≡ Ok (s, m)) where
  before : Answered ys k c D P q t l
  before = answered ys k c D P q t l e

  after : Answered ys k c D Q p s m
  after = answered ys k c D Q p s m f

  small_after : (exponent_down (k * our_figure c (kth ys k)) (full_sum k (hill_sum ys k)) 0 < past)
      × (exponent_down (k * our_figure c (kth ys k)) (full_sum k (hill_sum ys k)) (shape_width k) < past)
  small_after = exponents_small ys k c (hill_sum ys k) D Q (hill ys k c D after.judged) after.is_ready

  time_grows : 1000 * (P * D) ≤ 1000 * (Q * D)
  time_grows = mul-le-mul_left 1000 (mul-le-mul_right D le)

  more_samples : (t.estimate ≤ s.estimate) × (1 ≤ s.rejected → (1 ≤ t.rejected) × (t.rejected ≤ s.rejected))
  more_samples =
      let a = before in
      let u = kth ys k in
      let S = hill_sum ys k in
      rw (a.is, after.is) (
        longest_grows (k * our_figure c u) (k * our_figure c u) (S + 2 * (k - 1)) (S + 2 * (k - 1)) 0 (1000 * k) (1000 * (P * D)) (1000 * (Q * D)) 0
            (le_refl _) (le_refl _) (omega (arith, a.is_ready.spread)) time_grows (omega (arith, a.is_ready.two)) small_after.0,
        rejected_grows k _ _ S S (count_width k P) (count_width k Q) (shape_width k) (1000 * (P * D)) (1000 * (Q * D)) (le_refl _) (le_refl _) a.is_ready.spread time_grows
            (width_grows k P Q (omega (arith, a.is_ready.two)) a.is_ready.samples_some le),
      )

  more_samples_accepted : count_width k P ≡ count_width k Q → t.accepted ≤ s.accepted
  more_samples_accepted same =
      let a = before in
      let u = kth ys k in
      let S = hill_sum ys k in
      rw (a.is, after.is, same)
      (longest_grows (k * our_figure c u) (k * our_figure c u) (S + 2 * (k - 1)) (S + 2 * (k - 1)) (shape_width k) (1000 * k + count_width k Q) (1000 * (P * D)) (1000 * (Q * D)) 1
      (le_refl _) (le_refl _) (omega (arith, a.is_ready.spread)) time_grows (omega (arith, a.is_ready.two)) small_after.1)

counted : (ys : List ℕ) (k D P q : ℕ) (t : Times) (l : Letter) → extrapolated ys k (kth ys k) D P q ≡ Ok (t, l)
    → CountedTimes k (count_width k P) (shape_width k) (1000 * (P * D)) t
counted ys k D P q t l e =
    let a = answered ys k (kth ys k) D P q t l e in
    let x = a.is_ready in
    let p : 1 ≤ P = omega (arith, x.two, x.samples_some) in
    rw a.is
    (counting.counted (kth ys k) k (hill_sum ys k) (count_width k P) (shape_width k) (1000 * (P * D)) x.two x.spread
    (omega (arith, mul-le-mul p x.step-some)))

-- equal values have figures of 0
none_apart : (ys : List ℕ) (y n : ℕ) → ((i : ℕ) → i < n → get_or ys i 0 ≡ y) → figures ys y n ≡ 0
unfolding figures
none_apart ys y zero all = refl
none_apart ys y (suc n) all =
    let e = none_apart ys y n (λ i h. all i (omega arith)) in
    let d = none_within (get_or ys n 0) y (rw (all n (le_refl _)) (le_refl y)) in
    omega (arith, e, d)

clipped : (ys : List ℕ) (k c D P q : ℕ) (t : Times) (l : Letter) → ((i : ℕ) → i < k → get_or ys i 0 ≡ kth ys k)
    → extrapolated ys k c D P q ≡ Ok (t, l) → ⊥
clipped ys k c D P q t l all e =
    let a = answered ys k c D P q t l e in
    let z : hill_sum ys k ≡ 0 = none_apart ys (kth ys k) k all in
    omega (arith, a.is_ready.spread)

pub request_14 : Request14
request_14 =
    record {
      order = order;
      standards = λ q. refl;
      settled = extrapolate_unique;
      widths = widths;
      only_widths = only_widths;
      accepted_only_if = λ ys k c D P q t e. accepts ys k c D P q t Accept e refl;
      accepted_whenever = accepts_well;
      rejected_only_if = λ ys k c D P q t e. rejects ys k c D P q t Reject e refl;
      rejected_whenever = rejects_well;
      never_both = never_both;
      spare_accepted = spare_accepted;
      spare_rejected = spare_rejected;
      estimate = λ ys k c D P q t l e. (answered_right ys k c D P q t l (a ys k c D P q t l e)).estimate;
      estimate_near = λ ys k c D P q t l e. (answered_right ys k c D P q t l (a ys k c D P q t l e)).estimate_near;
      in_order = λ ys k c D P q t l e. let r = answered_right ys k c D P q t l (a ys k c D P q t l e) in (r.first, r.last);
      shorter = λ ys k c D P q p t e. shorter ys k c D P q t Accept e refl p;
      longer = λ ys k c D P q p t e. longer ys k c D P q t Reject e refl p;
      higher_level = higher_level;
      higher_peaks = higher_peaks;
      more_samples = more_samples;
      more_samples_accepted = λ ys k c D P Q q p t s l m le same e f. more_samples_accepted ys k c D P Q q p t s l m le e f same;
      counted = counted;
      clipped = clipped;
    }
