-- A report that is written has at most 28 bytes in each situation's line and 40 in the last: a number of 2 digits, N,
-- N* and blocks of 2, T of 13; sums of 7, 4, 14 and
-- 3. So 1,832 bytes are room for any. Assumes nothing.
use Prim.Native.Nat.{ℕ, ◌+◌, ◌*◌, ◌≤◌, ◌<◌}
use mathlib.Core.Path.{◌≡◌, refl}
use mathlib.Core.Bool.{true}
use mathlib.Core.List.{List, [], ◌∷◌}
use native.Mathlib.Omega.{arith}
use lib.Dec.{eqb, ltb}
use lib.ListN.{length, length-append}
use borrow.Author.Tests.{eqb-false}
use Rattle.truth.proofs.Cases.{by_test}
use Rattle.truth.proofs.Laws.{holds, impossible}
use Rattle.decimal.proofs.Text.{digits_below}
use Rattle.campaign_state.specs.declared.Campaign.{Campaign}
use Rattle.campaign_state.specs.Kept.{Kept}
use Rattle.campaign_state.specs.State.{censored, sound}
use Rattle.campaign_state.proofs.Relations.{censored_row, kept_from}
use Rattle.refusal.specs.declared.Refusal.{Refusal}
use Rattle.campaign_condition.specs.Answers.{broken_from, judging}
use Rattle.campaign_condition.specs.Standing.{standing}
use Rattle.campaign_condition.proofs.Whole.{stood, whole_next}
use Rattle.campaign_report.specs.Report.{blocks, situation_text, lines_from, report_text, standing_letter, sum_of, total_of, total_text}
use Rattle.campaign_report.specs.Answers.{after_judging, writing_report}
use Rattle.campaign_report.proofs.Texts.{line_bytes, next_bytes, total_bytes}
use Rattle.campaign_condition.specs.declared.Standing.{Standing}
use Rattle.std.specs.Prelude.{Result, Ok, Err}
use Rattle.truth.proofs.Answers.{err_not_ok, same_ok}

censored_few : (c : Campaign) → Kept c → censored c < 100
unfolding censored
censored_few c k =
    by_test (eqb c.records 0)
    (λ e. rw e (omega arith))
    (λ e. let ne : ¬ (c.records ≡ 0) = eqb-false c.records 0 e in omega (arith, (censored_row c k (omega arith)).high))

line_few : (number : ℕ) (c : Campaign) → number < 100 → sound c ≡ true → length (situation_text number c) ≤ 28
line_few number c h s =
    let k = kept_from c (holds s) in
    omega (
      arith,
      line_bytes number c,
      digits_below 1 number (omega arith),
      digits_below 1 c.failures (omega (arith, k.failures_rows)),
      digits_below 1 (censored c) (omega (arith, censored_few c k)),
      digits_below 12 c.exposure (omega (arith, k.exposure_high, k.records)),
      digits_below 1 (blocks c.failures) (omega (arith, k.failures_rows)),
    )

lines_few : (n : ℕ) (cs : List Campaign) → 1 ≤ n → n + length cs ≤ 100 → broken_from n cs ≡ 0 → length (lines_from n cs) ≤ 28 * length cs
unfolding lines_from
lines_few n [] h k w = omega arith
lines_few n (c ∷ cs) h k w =
    let (good, left) = whole_next n c cs h w in
    omega (arith, next_bytes n c cs, line_few n c (omega arith) good, lines_few (n + 1) cs (omega arith) (omega arith) left)

-- a figure that is small in every campaign has a small sum
sum_few : (figure : Campaign → ℕ) (most : ℕ) → ((c : Campaign) → Kept c → figure c ≤ most) → (n : ℕ) (cs : List Campaign) → 1 ≤ n → broken_from n cs ≡ 0
    → sum_of figure cs ≤ most * length cs
unfolding sum_of
sum_few figure most few n [] h w = omega arith
sum_few figure most few n (c ∷ cs) h w =
    let (good, left) = whole_next n c cs h w in
    omega (arith, few c (kept_from c (holds good)), sum_few figure most few (n + 1) cs (omega arith) left)

total_few : (cs : List Campaign) (letter : ℕ) → length cs ≤ 64 → broken_from 1 cs ≡ 0 → length (total_text (total_of cs) letter) ≤ 40
total_few cs letter h w =
    let m = sum_few (λ c. c.records) 100000 (λ c k. k.records) 1 cs (omega arith) w in
    let n = sum_few (λ c. c.failures) 64 (λ c k. k.failures_rows) 1 cs (omega arith) w in
    let t = sum_few (λ c. c.exposure) 1000000000000 (λ c k. omega (arith, k.exposure_high, k.records)) 1 cs (omega arith) w in
    let b = sum_few (λ c. blocks c.failures) 13 (λ c k. omega (arith, k.failures_rows)) 1 cs (omega arith) w in
    omega (
      arith,
      total_bytes (total_of cs) letter,
      digits_below 6 (total_of cs).records (omega arith),
      digits_below 3 (total_of cs).failures (omega arith),
      digits_below 13 (total_of cs).exposure (omega arith),
      digits_below 2 (total_of cs).blocks (omega arith),
    )

pub enough : (number : ℕ) (cs : List Campaign) (out : List ℕ) (n : ℕ) → length cs ≡ number → writing_report number cs out ≡ Ok n → n ≤ 40 + 28 * number
unfolding writing_report report_text
enough number cs out n all e = go (judging number cs) refl e
  where
    go : (a : Result Standing Refusal) → judging number cs ≡ a → after_judging a (length (report_text cs)) (length out) ≡ Ok n → n ≤ 40 + 28 * number
    go (Err r) is e = absurd (err_not_ok e)
    go (Ok s) is e =
        let st = stood number cs s is in
        by_test (ltb (length out) (length (report_text cs)))
        (λ t. absurd (err_not_ok (rw t at e)))
        (λ t.
        let f : length (report_text cs) ≡ n = same_ok (rw t at e) in
        let same : n ≡ length (report_text cs) = cc (f) in
        let letter = standing_letter (standing cs) in
        omega (
          arith,
          same,
          st.few,
          length-append (lines_from 1 cs) (total_text (total_of cs) letter),
          lines_few 1 cs (omega arith) (omega (arith, st.few)) st.whole,
          total_few cs letter (omega (arith, st.few)) st.whole,
        ))
