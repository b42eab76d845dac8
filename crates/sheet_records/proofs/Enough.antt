-- A sheet that is written has at most 22 bytes in line 1 and 18 in each record's line: a standard of 12 digits, a
-- record number of 6, an exposure of 8. Assumes nothing.
use mathlib.Core.Path.{◌≡◌, ap}
use mathlib.Core.List.{List, [], ◌∷◌}
use Prim.Native.Nat.{ℕ, ◌+◌, ◌*◌, ◌^◌, ◌≤◌, ◌<◌}
use native.Mathlib.Omega.{arith}
use lib.Dec.{T, leb→le}
use lib.Ieee.Fits.{and_r}
use lib.IntN.{ℤ}
use lib.ListN.{length}
use Rattle.campaign_state.specs.declared.Campaign.{Campaign}
use Rattle.campaign_state.specs.Answers.{opened}
use Rattle.campaign_state.specs.State.{standard_in_range}
use Rattle.campaign_state.proofs.Answered.{entered_from, opened_from}
use Rattle.campaign_state.proofs.Keeping.{entering_sound}
use Rattle.campaign_state.proofs.Relations.{kept_from}
use Rattle.decimal.specs.Decimal.{longest}
use Rattle.decimal.proofs.Text.{digits_below}
use Rattle.sheet_line.specs.Line.{telling, line_outcome}
use Rattle.sheet_line.proofs.Theorems.{told_entered}
use Rattle.sheet_records.specs.Answers.{judged, judged_from}
use Rattle.sheet_records.specs.Ledger.{exposure_in, failed_in, lines_from, sheet_text}
use Rattle.sheet_records.proofs.Entered.{went_on}
use Rattle.sheet_records.proofs.Puts.{head_bytes, line_bytes, next_bytes, sheet_bytes}
use Rattle.std.specs.Prelude.{Ok}

lines_few : (c : Campaign) (xs : List ℤ) (d : Campaign) → judged_from c xs ≡ Ok d → length (lines_from (c.records + 1) xs) ≤ 18 * length xs
unfolding judged_from lines_from
lines_few c [] d e = omega arith
lines_few c (x ∷ xs) d e =
    let f = failed_in x in
    let t = exposure_in x in
    let n = c.records + 1 in
    let (b, taken, rest) = went_on (telling c f t) (λ b. judged_from b xs) d e in
    let enters = told_entered c f t b taken in
    let o = entered_from c (line_outcome f t) b enters in
    let one_more : b.records ≡ n = ap (λ (y : Campaign). y.records) o.room.after in
    let few = (kept_from b (entering_sound c (line_outcome f t) b enters)).records in
    let after : length (lines_from (n + 1) xs) ≤ 18 * length xs = rw one_more at (lines_few b xs d rest) in
    omega (arith, after, next_bytes n x xs, line_bytes n x, digits_below 5 n (omega (arith, one_more, few)), digits_below 7 t (omega (arith, o.high)))

-- a standard in range has at most 12 digits
pub in_range : (q : ℕ) → T (standard_in_range q) → q < 10 ^ longest
in_range q range = let high : q ≤ 100000000000 = search (and_r, leb→le) in omega arith

pub enough : (q : ℕ) (xs : List ℤ) (d : Campaign) → judged q xs ≡ Ok d → length (sheet_text q xs) ≤ 22 + 18 * length xs
unfolding judged
enough q xs d e =
    let (c, opens, rest) = went_on (opened q) (λ c. judged_from c xs) d e in
    let (range, is) = opened_from q c opens in
    let none : c.records ≡ 0 = ap (λ (y : Campaign). y.records) is in
    let lines : length (lines_from 1 xs) ≤ 18 * length xs = rw none at (lines_few c xs d rest) in
    omega (arith, lines, sheet_bytes q xs, head_bytes q, digits_below 11 q (in_range q range))
