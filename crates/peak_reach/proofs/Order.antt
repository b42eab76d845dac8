-- What is left once the tests are passed, in the request's order: the list lies downwards, its Hill sum is ours, and
-- the three times have what they are found from. And an answer with times was refused by none. Assumes nothing.
use mathlib.Core.Path.{◌≡◌, ap, refl, sym}
use mathlib.Core.Bool.{Bool, true, false, cond, not}
use mathlib.Core.List.{List}
use Prim.Native.Nat.{ℕ, ◌-◌, ◌*◌, ◌^◌, ◌≤◌, ◌<◌}
use native.Mathlib.Nat.{le_trans}
use native.Mathlib.Omega.{arith}
use borrow.Author.Tests.{eqb-false, eqb-true, le-ltb, leb-false, lt-ltb, ltb-false, ne_eqb, not-false}
use lib.Dec.{eqb, leb, ltb}
use lib.ListN.{get_or, length}
use Rattle.truth.proofs.Cases.{by_order}
use Rattle.truth.proofs.Laws.{impossible, neither}
use Rattle.refusal.specs.declared.Refusal.{Refusal}
use Rattle.refusal.specs.declared.Refusal.TheVariants.{Item, LowLevel, NoSpread, Peak, Tail, TimedSamples}
use Rattle.sample_items.specs.Limits.{level_in_range, step_in_range, within}
use Rattle.logarithm.specs.Ours.{our_figure}
use Rattle.peak_tail.specs.Fitting.{hill_within, longest_list, tail_outside}
use Rattle.peak_tail.specs.Hill.{HillSum, hill_sum, kth}
use Rattle.peak_tail.proofs.Order as tail
use Rattle.peak_tail.proofs.Summing.{figures_most, near_sum}
use Rattle.peak_reach.specs.declared.Times.{Times}
use Rattle.peak_reach.specs.declared.Letter.{Letter}
use Rattle.peak_reach.specs.Answers.{Right, Told, extrapolated, first_out, item_outside, letter_for, no_spread}
use Rattle.peak_reach.specs.Answers.{reached, samples_outside, standard_in_range, times}
use Rattle.peak_reach.specs.Figures.{full_sum}
use Rattle.peak_reach.specs.Steps.{Judged, Ready}
use Rattle.peak_reach.proofs.Downwards.{in_range, inside, lies_downwards}
use Rattle.peak_reach.proofs.Rightly.{right}
use Rattle.std.specs.Prelude.{Result, Ok, Err}

some_of : (n : ℕ) → (n ≡ 0 → ⊥) → 1 ≤ n
some_of n f = by_order 0 n (λ l. l) (λ l. absurd (f (omega arith)))

-- no item is outside its range
pub items_inside : (D c q : ℕ) → item_outside D c q ≡ 0 → (step_in_range D ≡ true) × (level_in_range c ≡ true) × (standard_in_range q ≡ true)
unfolding item_outside
items_inside D c q = go (step_in_range D) (level_in_range c) (standard_in_range q)
  where
    go : (x y z : Bool) → ◌≡◌ {A = ℕ} (cond (not x) 1 (cond (not y) 3 (cond (not z) 5 0))) 0 → (x ≡ true) × (y ≡ true) × (z ≡ true)
    go true true true e = (refl, refl, refl)
    go true true false e = absurd (omega arith)
    go true false z e = absurd (omega arith)
    go false y z e = absurd (omega arith)

module _ (ys : List ℕ) (k c D : ℕ) (j : Judged ys k c D) where
  pub tail_inside : (length ys ≤ longest_list) × (2 ≤ k) × (k ≤ length ys)
  tail_inside = tail.inside (length ys) k j.tail

  peak : (i : ℕ) → i < k → (1 ≤ get_or ys i 0) × (get_or ys i 0 ≤ 1000000)
  peak i l = in_range 1000000 ys j.in_place i (le_trans l tail_inside.2)

  pub in_peaks : (i : ℕ) → i < k → get_or ys i 0 ≤ 1000000
  in_peaks i l = (peak i l).1

  last_among : k - 1 < k
  last_among = omega (arith, tail_inside.1)

  pub some_peak : 1 ≤ kth ys k
  some_peak = (peak (k - 1) last_among).0

  pub peak_most : kth ys k ≤ 1000000
  peak_most = (peak (k - 1) last_among).1

  no_less : (i : ℕ) → i < k → kth ys k ≤ get_or ys i 0
  no_less i l =
      by_order i (k - 1)
      (λ h. lies_downwards 1000000 ys j.in_place i (k - 1) h (le_trans last_among tail_inside.2))
      (λ h. let e : i ≡ k - 1 = omega arith in rw e (omega arith))

  fits : (i : ℕ) → i < k → get_or ys i 0 < 2 ^ 32
  fits i l = omega (arith, (peak i l).1)

  pub hill : HillSum ys k (hill_sum ys k)
  hill = near_sum ys (kth ys k) k some_peak (λ i l. (no_less i l, fits i l))

  pub sum_most : hill_sum ys k ≤ 8589934592
  sum_most =
      omega (
        arith,
        figures_most ys (kth ys k) k fits,
        tail_inside.0,
        tail_inside.2,
      )

  module _ (P : ℕ) (samples : samples_outside k P ≡ false) (above : kth ys k ≤ c)
      (spread : no_spread k (hill_sum ys k) (our_figure c (kth ys k)) ≡ false) where
    pub ready : Ready (kth ys k) c k (hill_sum ys k) D P
    ready =
        let s = inside k 100000000 P (not-false _ samples) in
        let d = inside 1 10000 D j.step in
        let (x, y) = neither (eqb (hill_sum ys k) 0) (leb (64 * full_sum k (hill_sum ys k)) (k * our_figure c (kth ys k))) spread in
        record {
          two = tail_inside.1;
          few = omega (arith, tail_inside.0, tail_inside.2);
          step-some = d.0;
          step_most = d.1;
          some_peak = some_peak;
          sum_most = sum_most;
          samples_some = s.0;
          samples_most = s.1;
          above = above;
          level_most = (inside 1 1000000 c j.level).1;
          spread = some_of (hill_sum ys k) (eqb-false (hill_sum ys k) 0 x);
          small = leb-false _ _ y;
        }

-- ---- what the code answers, test by test
module _ (ys : List ℕ) (k c D P q : ℕ) where
  pub refuses_samples : within k 100000000 P ≡ false → Err TimedSamples ≡ reached ys k c D P q
  unfolding reached
  refuses_samples e = rw e

  module _ (s : within k 100000000 P ≡ true) where
    pub refuses_level : c < kth ys k → Err (LowLevel (kth ys k)) ≡ reached ys k c D P q
    unfolding reached
    refuses_level l = rw (s, lt-ltb c (kth ys k) l)

    module _ (l : kth ys k ≤ c) where
      pub refuses_spread : no_spread k (hill_sum ys k) (our_figure c (kth ys k)) ≡ true → Err NoSpread ≡ reached ys k c D P q
      unfolding reached
      refuses_spread e = rw (s, le-ltb c (kth ys k) l, e)

      pub finds : no_spread k (hill_sum ys k) (our_figure c (kth ys k)) ≡ false → (t : Times) (x : Letter) → t ≡ times ys k c D P
          → x ≡ letter_for q t → Ok (t, x) ≡ reached ys k c D P q
      unfolding reached
      finds e t x is letter = rw (s, le-ltb c (kth ys k) l, e, letter, is)

  pub refuses_item : (n : ℕ) → n ≡ item_outside D c q → (n ≡ 0 → ⊥) → Err (Item n) ≡ extrapolated ys k c D P q
  unfolding extrapolated
  refuses_item n e h = rw (← e, ne_eqb n 0 h)

  module _ (items : item_outside D c q ≡ 0) where
    pub refuses_tail : tail_outside (length ys) k ≡ true → Err Tail ≡ extrapolated ys k c D P q
    unfolding extrapolated
    refuses_tail e = rw (items, e)

    module _ (tail : tail_outside (length ys) k ≡ false) where
      pub refuses_peak : (n : ℕ) → n ≡ first_out ys → n < length ys → Err (Peak n) ≡ extrapolated ys k c D P q
      unfolding extrapolated
      refuses_peak n e l = rw (items, tail, ← e, lt-ltb n (length ys) l)

      pub goes_on : length ys ≤ first_out ys → (x : Result (Times × Letter) Refusal) → x ≡ reached ys k c D P q → x ≡ extrapolated ys k c D P q
      unfolding extrapolated
      goes_on l x e = rw (items, tail, le-ltb (first_out ys) (length ys) l) e

      pub judges : length ys ≤ first_out ys → Judged ys k c D
      judges l =
          let (step, level, standard) = items_inside D c q items in
          record { step = step; level = level; tail = tail; in_place = l }

pub spread_is : (k : ℕ) {s g S G : ℕ} {b r : Bool} → s ≡ S → g ≡ G → b ≡ no_spread k s g → b ≡ r → no_spread k S G ≡ r
spread_is k e d f h = rw (← e, ← d, ← f) h

pub hill_within_lem : (ys : List ℕ) (k : ℕ) → tail_outside (length ys) k ≡ false → hill_within ys k ≡ hill_sum ys k
unfolding hill_within
hill_within_lem ys k e = rw e

-- ---- an answer with times passed every test
passed : (b : Bool) (r : Refusal) (x : Result (Times × Letter) Refusal) {t : Times} {l : Letter} → cond b (Err r) x ≡ Ok (t, l) → (b ≡ false) × (x ≡ Ok (t, l))
passed true r x e = impossible (cc)
passed false r x e = (refl, e)

pub record Answered (ys : List ℕ) (k c D P q : ℕ) (t : Times) (l : Letter) : Type 0 where
  pub standard : standard_in_range q ≡ true
  pub judged : Judged ys k c D
  pub samples : samples_outside k P ≡ false
  pub spread : no_spread k (hill_sum ys k) (our_figure c (kth ys k)) ≡ false
  pub is_ready : Ready (kth ys k) c k (hill_sum ys k) D P
  pub is : t ≡ times ys k c D P
  pub letter : l ≡ letter_for q t

module _ (ys : List ℕ) (k c D P q : ℕ) (t : Times) (l : Letter) where
  given : ◌≡◌ {A = Result (Times × Letter) Refusal} (Ok (times ys k c D P, letter_for q (times ys k c D P))) (Ok (t, l)) → (t ≡ times ys k c D P) × (l ≡ letter_for q t)
  given e =
      let both : ◌≡◌ {A = Times × Letter} (times ys k c D P, letter_for q (times ys k c D P)) (t, l) = cc in
      let d = ap (λ (p : Times × Letter). p.0) both in
      (sym d, rw (← d) (sym (ap (λ (p : Times × Letter). p.1) both)))

  pub answered : extrapolated ys k c D P q ≡ Ok (t, l) → Answered ys k c D P q t l
  unfolding extrapolated reached
  answered e =
      let (items, e₁) = passed (not (eqb (item_outside D c q) 0)) _ _ e in
      let (tail, e₂) = passed (tail_outside (length ys) k) _ _ e₁ in
      let (place, e₃) = passed (ltb (first_out ys) (length ys)) _ _ e₂ in
      let (samples, e₄) = passed (samples_outside k P) _ _ e₃ in
      let (level, e₅) = passed (ltb c (kth ys k)) _ _ e₄ in
      let (spread, e₆) = passed (no_spread k (hill_sum ys k) (our_figure c (kth ys k))) _ _ e₅ in
      let (step, in-level, standard) = items_inside D c q (eqb-true _ _ (not-false _ items)) in
      let j : Judged ys k c D = record { step = step; level = in-level; tail = tail; in_place = ltb-false _ _ place } in
      let (is, letter) = given e₆ in
      record {
        standard = standard;
        judged = j;
        samples = samples;
        spread = spread;
        is_ready = ready ys k c D j P samples (ltb-false _ _ level) spread;
        is = is;
        letter = letter;
      }

  -- and at any other standard the same times are answered
  pub at_another : Answered ys k c D P q t l → (p : ℕ) → standard_in_range p ≡ true → extrapolated ys k c D P p ≡ Ok (t, letter_for p t)
  unfolding extrapolated reached item_outside
  at_another a p e =
      rw (
        a.judged.step,
        a.judged.level,
        e,
        a.judged.tail,
        le-ltb (first_out ys) (length ys) a.judged.in_place,
        not-false (within k 100000000 P) a.samples,
        le-ltb c (kth ys k) a.is_ready.above,
        a.spread,
      )
      (ap (λ (x : Times). Ok (x, letter_for p x)) (sym a.is))

  pub answered_right : Answered ys k c D P q t l → Right ys k c P D t
  answered_right a = rw a.is (right ys k c (hill_sum ys k) D P (hill ys k c D a.judged) a.is_ready)

pub told : (ys : List ℕ) (k c D P q : ℕ) (x : Result (Times × Letter) Refusal) → x ≡ extrapolated ys k c D P q → Told ys k c P D x
told ys k c D P q (Ok (t, l)) e = answered_right ys k c D P q t l (answered ys k c D P q t l (sym e))
told ys k c D P q (Err r) e = tt
