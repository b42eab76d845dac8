-- Where nothing is refused of a file, its samples are those of the whole text, all in range and no more than a record
-- may have; so two readings of it, each in pieces and blocks cut anywhere, hand out the peaks of the text (`file-
-- peaks`). Assumes nothing.
use Rattle.std.proofs.Common.{◌≡◌, ℕ, suc, ◌+◌, ◌-◌, ◌/◌, ◌<◌, ◌≤◌, Bool, true, false, cond, ◌&&◌, eqb, ltb, leb, List, [], ◌∷◌, map, length, drop, ℤ, pos, nat_abs, sym, refl, ap, ◌∙◌, subst, arith, length-drop, ltb-false, eqb-true, leb-true}
use lib.ListN.{length-map}
use Rattle.truth.proofs.Cases.{by_test, by_order}
use Rattle.truth.proofs.Laws.{both_true, impossible}
use Rattle.refusal.specs.declared.Refusal.TheVariants.{Sample, TooLong, TooShort, CommaLine}
use Rattle.sample_items.specs.Limits.{step_in_range, ramp_in_range, decorrelation_in_range, most_samples, most_in_range}
use Rattle.sample_range.specs.Range.{sample_in_range, first_bad}
use Rattle.crossing_sets.specs.Parting.{together}
use Rattle.crossing_places.specs.Reading.{too_few}
use Rattle.text.specs.Pieces.{joined}
use Rattle.decimal.specs.Lines.{lines_of}
use Rattle.degrees.specs.Degrees.{sample_of}
use Rattle.comma_line.specs.Line.{roll}
use Rattle.comma_line.specs.Text.{first_wrong, samples_of}
use Rattle.comma_stream.specs.Follow.{held}
use Rattle.comma_stream.specs.Pieces.{nothing, passing}
use Rattle.comma_stream.proofs.Pieces.{followed_samples}
use Rattle.peak_groups.specs.Peaks.{handed}
use Rattle.peak_stream.specs.Survey.{none, Small}
use Rattle.peak_stream.specs.Hands.{begun, Pieces}
use Rattle.comma_peaks.specs.Timed.{blocks, handing_blocks}
use Rattle.comma_peaks.specs.Judged.{comes_to}
use Rattle.comma_peaks.proofs.Handed.{handed_anywhere}
use Rattle.comma_peaks.proofs.Files.{some_left}
use Rattle.refusal.specs.declared.Refusal.{Refusal}
use Rattle.std.specs.Prelude.{Result, Ok, Err}
use Rattle.truth.proofs.Answers.{err_not_ok}

-- ---- nothing is refused
pub record Fine (D R : ℕ) (lines : List (List ℕ)) : Type 0 where
  pub right : length lines ≤ first_wrong D 0 lines
  pub good : length lines ≤ first_bad (samples_of lines)
  pub most : length lines ≤ most_in_range D R

tests : (a b c d : Bool) (x y z w : Result (Unit {0}) (ℕ × Refusal)) → (x ≡ (Ok (tt {0})) → ⊥) → (y ≡ (Ok (tt {0})) → ⊥) → (z ≡ (Ok (tt {0})) → ⊥) → cond a x (cond b y (cond c z (cond d w (Ok (tt {0}))))) ≡ (Ok (tt {0}))
    → (a ≡ false) × (b ≡ false) × (c ≡ false)
tests true b c d x y z w p q r e = absurd (p e)
tests false true c d x y z w p q r e = absurd (q e)
tests false false true d x y z w p q r e = absurd (r e)
tests false false false d x y z w p q r e = (refl, refl, refl)

pub fine : (D R : ℕ) (lines : List (List ℕ)) → comes_to D R lines ≡ (Ok (tt {0})) → Fine D R lines
unfolding comes_to
fine D R lines e =
    let n = length lines in
    let t = tests (ltb (first_wrong D 0 lines) n) (ltb (first_bad (samples_of lines)) n) (ltb (most_in_range D R) n) (too_few R n) _ _ _ _ err_not_ok err_not_ok err_not_ok e in
    record { right = ltb-false _ _ t.0; good = ltb-false _ _ t.1; most = ltb-false _ _ t.2 }

-- ---- all samples in range
-- the first is, and so are the others
first_good : (x : ℤ) (xs : List ℤ) → length (x ∷ xs) ≤ first_bad (x ∷ xs) → (sample_in_range x ≡ true) × (length xs ≤ first_bad xs)
unfolding first_bad
first_good x xs = go (sample_in_range x)
  where
    go : (b : Bool) → suc (length xs) ≤ cond b (suc (first_bad xs)) 0 → (b ≡ true) × (length xs ≤ first_bad xs)
    go true h = (refl, omega arith)
    go false h = absurd (omega arith)

held_all : (xs : List ℤ) → length xs ≤ first_bad xs → map held xs ≡ xs
unfolding held
held_all [] h = refl
held_all (x ∷ xs) h =
    let g = first_good x xs h in
    ap (λ (l : List ℤ). held x ∷ l) (held_all xs g.1) ∙ ap (λ (b : Bool). cond b x (pos 0) ∷ xs) g.0

small_all : (xs : List ℤ) → length xs ≤ first_bad xs → Small xs
small_all [] h = tt
small_all (x ∷ xs) h =
    let g = first_good x xs h in
    (omega (arith, leb-true (nat_abs x) 1000000 g.0), small_all xs g.1)

-- no more timed samples than a record may have
room : (D R n : ℕ) → step_in_range D ≡ true → n ≤ most_in_range D R → n - R ≤ most_in_range D 0
unfolding most_in_range
room D R n d h = rw d (go (ramp_in_range R) (rw d at h))
  where
    go : (b : Bool) → n ≤ cond b (most_samples D R) 0 → n - R ≤ most_samples D 0
    go true h = omega arith
    go false h = omega arith

-- ---- the samples of a reading of which nothing is refused
module _ (D R : ℕ) (pieces : List (List ℕ)) (step : step_in_range D ≡ true) (ok : Fine D R (lines_of (joined pieces))) where
  abbrev L : List (List ℕ)
  L = lines_of (joined pieces)

  many : length (samples_of L) ≡ length L
  many = length-map L (λ line. sample_of (roll line))

  good : length (samples_of L) ≤ first_bad (samples_of L)
  good = omega (arith, many, ok.good)

  nothing_left : (passing (nothing D) pieces).left ≡ []
  nothing_left = none_of (passing (nothing D) pieces).left (by_test (eqb (length (passing (nothing D) pieces).left)
      0) (λ e. eqb-true _ 0 e) (λ e. absurd (omega (arith, some_left D pieces step e, ok.right))))
    where
      none_of : (l : List ℕ) → length l ≡ 0 → l ≡ []
      none_of [] e = refl
      none_of (b ∷ l) e = absurd (omega arith)

  -- held as they are
  pub samples_are : map held (passing (nothing D) pieces).samples ≡ samples_of L
  samples_are = ap (map held) (followed_samples D pieces nothing_left) ∙ held_all (samples_of L) good

  pub samples_small : Small (samples_of L)
  samples_small = small_all (samples_of L) good

  pub samples_few : length (drop R (samples_of L)) ≤ most_in_range D 0
  samples_few = omega (arith, length-drop R (samples_of L), many, room D R (length L) step ok.most)

-- TWO READINGS OF A FILE of which nothing is refused, each in pieces of its own, their samples in blocks cut anywhere
-- of at most n, into slices of at least n places: the peaks of the text
pub file_peaks : (n : ℕ) (sizes times : List ℕ) → n ≤ length sizes → n ≤ length times → (D R τ : ℕ) (ps qs : List (List ℕ)) (bs cs : List (List ℤ))
    → joined ps ≡ joined qs → step_in_range D ≡ true → decorrelation_in_range τ ≡ true → comes_to D R (lines_of (joined ps)) ≡ (Ok (tt {0}))
    → together bs ≡ map held (passing (nothing D) ps).samples → together cs ≡ map held (passing (nothing D) qs).samples → Pieces n cs
    → handing_blocks R (length sizes) (length times) 0 cs (begun D τ (blocks R 0 (none D) bs).number (blocks R 0 (none D) bs).sum)
    ≡ handed D R τ (samples_of (lines_of (joined ps)))
file_peaks n sizes times a b D R τ ps qs bs cs same d t e f g w =
    let X = samples_of (lines_of (joined ps)) in
    let o = fine D R (lines_of (joined ps)) e in
    let u = fine D R (lines_of (joined qs)) (subst (λ (text : List ℕ). comes_to D R (lines_of text) ≡ (Ok (tt {0}))) same e) in
    let x : together bs ≡ X = f ∙ samples_are D R ps d o in
    let y : together cs ≡ X = g ∙ samples_are D R qs d u ∙ ap (λ (text : List ℕ). samples_of (lines_of text)) (sym same) in
    handed_anywhere n R sizes times a b D τ bs cs (x ∙ sym y) d t (subst Small (sym x) (samples_small D R ps d o))
    (subst (λ (l : List ℤ). length (drop R l) ≤ most_in_range D 0) (sym x) (samples_few D R ps d o)) w
    ∙ ap (handed D R τ) x
