-- How long the line of the figures is: it has room in 128 bytes, since a list has at most 4,096 peaks, samples and times
-- are bounded, and only the number of files has up to 20 digits. Assumes nothing.
use Prim.Native.Nat.{ℕ, ◌-◌, ◌*◌, ◌/◌, ◌≤◌}
use mathlib.Core.Path.{◌≡◌, sym, subst}
use mathlib.Core.Bool.{Bool, true, false, cond}
use mathlib.Core.List.{List, [], ◌∷◌}
use native.Mathlib.Omega.{arith}
use lib.Dec.{eqb, leb, ltb}
use lib.ListN.{length, length-append}
use borrow.Author.Tests.{leb-false, ltb-true, ltb-false}
use Rattle.truth.proofs.Cases.{by_test}
use Rattle.truth.proofs.Laws.{neither}
use Rattle.decimal.specs.Field.{tab}
use Rattle.decimal.proofs.Text.{field_few}
use Rattle.desk_line.specs.Said.{longest_said}
use Rattle.desk_line.proofs.Few.{Small, field_small}
use Rattle.peak_tail.specs.Fitting.{longest_list, tail_outside}
use Rattle.peak_tail.specs.Hill.{hill_sum, kth}
use Rattle.peak_reach.specs.declared.Times.{Times}
use Rattle.peak_reach.specs.declared.Letter.{Letter}
use Rattle.peak_reach.specs.declared.Letter.TheVariants.{Accept, Reject, Continue}
use Rattle.exponential.specs.Exponential.{one, past}
use Rattle.exponential.specs.Ours.{down_times, up_times}
use Rattle.peak_reach.specs.Figures.{lesser, longest_standard, longest_within, longest_by, rejected_by, shortest_above, shortest_after, no_lower_end}
use Rattle.peak_reach.specs.Figures.{exponent_down, exponent_up}
use Rattle.peak_reach.proofs.Order.{answered}
use Rattle.reach_files.specs.declared.Job.{Job}
use Rattle.reach_files.specs.Line.{above_level, rejected_text, letter_text, figures_line, figures_of, extrapolated_for}
use Rattle.std.specs.Prelude.{Ok}

pub inside : (n k : ℕ) → tail_outside n k ≡ false → (n ≤ longest_list) × (2 ≤ k) × (k ≤ n)
inside n k e =
    let (a, b) = neither (ltb longest_list n) _ e in
    let (c, d) = neither (ltb k 2) (ltb n k) b in
    (ltb-false longest_list n a, ltb-false k 2 c, ltb-false n k d)

above_few : (c : ℕ) (ys : List ℕ) → above_level c ys ≤ length ys
unfolding above_level
above_few c [] = omega arith
above_few c (y ∷ ys) = by_test (ltb c y) (λ e. rw e (omega (arith, above_few c ys))) (λ e. rw e (omega (arith, above_few c ys)))

-- ---- no time is longer than a standard may be
lesser_few : (a b : ℕ) → lesser a b ≤ a
lesser_few a b = by_test (leb a b) (λ e. rw e (omega arith)) (λ e. rw e (omega (arith, leb-false a b e)))

longest_few : (kg H w n r less : ℕ) → longest_by kg H w n r less ≤ longest_standard
unfolding longest_by
longest_few kg H w n r less = lesser_few longest_standard ((r * down_times (exponent_down kg H w) - less) / (n * one))

after_few : (q : ℕ) → shortest_after q ≤ longest_standard
after_few q = by_test (ltb q longest_standard) (λ e. rw e (omega (arith, ltb-true q longest_standard e))) (λ e. rw e (omega arith))

cond_few : (b : Bool) (x n : ℕ) → x ≤ n → cond b 0 x ≤ n
cond_few true x n h = omega arith
cond_few false x n h = h

shortest_few : (kg H w n r : ℕ) → shortest_above kg H w n r ≤ longest_standard
unfolding shortest_above
shortest_few kg H w n r =
    let q = longest_within (r * up_times (exponent_up kg H w)) n in
    cond_few (leb past (exponent_up kg H w)) (shortest_after q) longest_standard (after_few q)

rejected_few : (k G S h w r : ℕ) → rejected_by k G S h w r ≤ longest_standard
unfolding rejected_by
rejected_few k G S h w r =
    cond_few (no_lower_end k h w) (shortest_above (k * G) S w (1000 * k - h) r) longest_standard (shortest_few (k * G) S w (1000 * k - h) r)

-- ---- the fields
dash_few : (B : ℕ) → B ≤ longest_standard → length (rejected_text B) ≤ 13
unfolding rejected_text
dash_few B h = by_test (eqb B 0) (λ e. rw e (omega arith)) (λ e. rw e (field_few B tab 11 (omega arith)))

letter_few : (l : Letter) → length (letter_text l) ≤ 2
letter_few Accept = omega arith
letter_few Reject = omega arith
letter_few Continue = omega arith

pub figures_few : (j : Job) (files P : ℕ) (ys : List ℕ) (t : Times) (l : Letter) → Small files → extrapolated_for j P ys ≡ Ok (t, l)
    → length (figures_line (figures_of j files P ys t l)) ≤ longest_said
unfolding figures_line
figures_few j files P ys t l h e =
    let k = j.tail in
    let a = answered ys k j.level j.step P j.standard t l e in
    let r = a.is_ready in
    let (long, two, most) = inside (length ys) k a.judged.tail in
    let E : t.estimate ≤ longest_standard = subst (λ (x : Times). x.estimate ≤ longest_standard) (sym a.is) (longest_few _ _ _ _ _ _) in
    let A : t.accepted ≤ longest_standard = subst (λ (x : Times). x.accepted ≤ longest_standard) (sym a.is) (longest_few _ _ _ _ _ _) in
    let B : t.rejected ≤ longest_standard = subst (λ (x : Times). x.rejected ≤ longest_standard) (sym a.is) (rejected_few _ _ _ _ _ _) in
    simp length-append
    (omega (
      arith,
      field_small files tab h,
      field_few (length ys) tab 3 (omega arith),
      field_few P tab 8 (omega (arith, r.samples_most)),
      field_few k tab 3 (omega arith),
      field_few (kth ys k) tab 6 (omega (arith, r.above, r.level_most)),
      field_few (hill_sum ys k) tab 9 (omega (arith, r.sum_most)),
      field_few (above_level j.level ys) tab 3 (omega (arith, above_few j.level ys)),
      field_few t.estimate tab 11 (omega arith),
      field_few t.accepted tab 11 (omega arith),
      dash_few t.rejected B,
      letter_few l,
    ))
