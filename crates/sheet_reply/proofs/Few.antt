-- How long the lines are: a record's has at most 30 bytes, the refused line 35. Assumes nothing.
use Prim.Native.Nat.{ℕ, ◌^◌, ◌≤◌, ◌<◌}
use mathlib.Core.Path.{◌≡◌}
use mathlib.Core.Bool.{true}
use native.Mathlib.Omega.{arith}
use lib.Dec.{eqb}
use lib.ListN.{length, length-append}
use borrow.Author.Tests.{eqb-false, eqb-true}
use Rattle.truth.proofs.Laws.{holds}
use Rattle.truth.proofs.Cases.{by_test}
use Rattle.refusal.specs.declared.Refusal.{Refusal}
use Rattle.refusal.specs.Numbers.{number_of}
use Rattle.refusal.proofs.Small.{number_small}
use Rattle.decimal.proofs.Text.{field_few}
use Rattle.campaign_state.specs.declared.Campaign.{Campaign}
use Rattle.campaign_state.specs.Kept.{Kept}
use Rattle.campaign_state.specs.State.{censored, sound}
use Rattle.campaign_state.proofs.Relations.{kept_from, censored_row}
use Rattle.sheet_reply.specs.Written.{figures, letter_for, malformed_number, reason_text, record_text, refused_text}

figures_few : (c : Campaign) (letter : ℕ) → Kept c → 1 ≤ c.records → length (figures c letter) ≤ 30
unfolding figures
figures_few c letter k some =
    let n = censored_row c k some in
    simp length-append
    (omega (
      arith,
      field_few c.records 9 5 (omega (arith, k.records)),
      field_few c.failures 9 1 (omega (arith, k.failures_rows)),
      field_few (censored c) 9 1 (omega (arith, n.high)),
      field_few c.exposure 9 12 (omega (arith, k.exposure_high, k.records)),
    ))

pub record_few : (c : Campaign) → sound c ≡ true → length (record_text c) ≤ 30
unfolding record_text
record_few c s =
    by_test (eqb c.records 0)
    (λ e. rw e (omega arith))
    (λ e. rw e (figures_few c (letter_for c) (kept_from c (holds s)) (let ne : ¬ (c.records ≡ 0) = eqb-false c.records 0 e in omega arith)))

reason_few : (number column : ℕ) → number < 100 → column < 1000 → length (reason_text number column) ≤ 6
unfolding reason_text
reason_few number column h k =
    by_test (eqb number malformed_number)
    (λ e. let nine : number ≡ malformed_number = eqb-true number malformed_number e in rw (e, length-append) (omega (arith, field_few number 9 0 (omega arith), field_few column 10 2 k)))
    (λ e. rw e (omega (arith, field_few number 10 1 h)))

pub refused_few : (line column : ℕ) (r : Refusal) → line < 10 ^ 20 → column < 1000 → length (refused_text line column r) ≤ 35
unfolding refused_text
refused_few line column r h k = simp length-append (omega (arith, field_few line 9 19 h, reason_few (number_of r) column (number_small r) k))
