-- Document 01, "The campaign", computed: N, N*, T, the verdict just inside and just past each bound, which rates it
-- carries, and of which whole numbers each rate is the quotient. Assumes nothing.
use mathlib.Core.Path.{◌≡◌, refl}
use mathlib.Core.Bool.{Bool, false, true}
use mathlib.Core.List.{List, [], ◌∷◌, map}
use Prim.Native.Nat.{ℕ, ◌*◌}
use lib.Ieee.{Float, binary64, div, of_bits, of_int}
use Rattle.poisson.specs.Fractions.{Fraction, over}
use Rattle.poisson.specs.Rows.{millionth_less, millionth_more}
use Rattle.poisson.specs.Tables.{l, lower_rows, u, upper_rows}
use Rattle.record_end.specs.declared.Outcome.{Outcome}
use Rattle.campaign_state.specs.declared.Campaign.{Campaign}
use Rattle.campaign_state.specs.Answers.{entering}
use Rattle.campaign_state.specs.Records.{but_last, campaign_of, censored_in, exposure_in, failures_in, last_failed}
use Rattle.campaign_state.specs.State.{censored, empty, sound}
use Rattle.campaign_verdict.specs.declared.Rates.{Rates}
use Rattle.campaign_verdict.specs.declared.Verdict.{Verdict}
use Rattle.campaign_verdict.specs.declared.Verdict.TheVariants.{Accept, Continue, NoRecord, Reject}
use Rattle.campaign_verdict.specs.Answers.{judging, rating}
use Rattle.campaign_verdict.specs.Figures.{quotient, rates_of, verdict_of}
use Rattle.campaign_verdict.specs.Letters.{letter_e, letter_of}
use Rattle.std.specs.Prelude.{Some, None, Ok}

-- q, M, N, whether the last record failed, T
abbrev at : ℕ → ℕ → ℕ → Bool → ℕ → Campaign
at q M N f T = record { standard = q; records = M; failures = N; exposure = T; failed = f }

abbrev after : Bool → ℕ → Outcome
after f t = record { failed = f; exposure = t }

-- ---- M, N, T
-- with a first failure N grows by 1, T by that failure's time
pub failed_enters : entering (at 9 2 1 false 20) (after true 3) ≡ Ok (at 9 3 2 true 23)
unfolding entering sound
failed_enters = refl

-- without, T grows by the full time
pub unfailed_enters : entering (at 9 2 1 false 20) (after false 3) ≡ Ok (at 9 3 1 false 23)
unfolding entering sound
unfailed_enters = refl

-- N* is N before the last record, plus 1: it failed, or it did not
pub censored_count : map censored (at 9 3 2 true 23 ∷ at 9 3 2 false 23 ∷ []) ≡ 2 ∷ 3 ∷ []
unfolding censored
censored_count = refl

-- by the list of records: of four the first and the last failed
pub over_records : campaign_of 9 (after true 1 ∷ after false 20 ∷ after false 300 ∷ after true 4000 ∷ [])
    ≡ at 9 4 2 true 4321
unfolding campaign_of failures_in exposure_in last_failed
over_records = refl

pub censored_over_records : censored_in (after true 1 ∷ after false 20 ∷ after false 300 ∷ after true 4000 ∷ []) ≡ 2
unfolding censored_in but_last failures_in
censored_over_records = refl

-- for M = 0, N = N* = T = 0
pub nothing_yet : empty 9 ≡ at 9 0 0 false 0
nothing_yet = refl

pub nothing_censored : censored (at 9 0 0 false 0) ≡ 0
unfolding censored
nothing_censored = refl

-- ---- the verdict, by its letter, of M records of which N failed and the last not, at one failure in 1,000,000 ms:
-- a row is then a time in ms
abbrev weighs : ℕ → ℕ → List ℕ → List ℕ
weighs M N Ts = map (λ (T : ℕ). letter_of letter_e (verdict_of (at 1000000 M N false T))) Ts

-- reject below l(N), and not at it: N = 2
pub reject_below_row : weighs 3 2 (242208 ∷ 242209 ∷ []) ≡ 82 ∷ 67 ∷ []
unfolding censored l lower_rows u upper_rows
reject_below_row = refl

-- accept above u(N*), and not at it: N* = 3
pub accept_above_row : weighs 3 2 (7224688 ∷ 7224689 ∷ []) ≡ 67 ∷ 65 ∷ []
unfolding censored l lower_rows u upper_rows
accept_above_row = refl

-- l(0) = 0: without a failure nothing is rejected, not even at the longest standard
pub none_rejected : letter_of letter_e (verdict_of (at 100000000000 3 0 false 3)) ≡ 67
unfolding censored l lower_rows u upper_rows
none_rejected = refl

-- M = 0: a fourth verdict
pub no_record_lem : judging (empty 9) ≡ Ok NoRecord
unfolding judging sound
no_record_lem = refl

-- ---- what demand 3 leaves to spare, of 3/2 expected failures: one millionth less, or more, 0 where that falls below
pub spared : millionth_less (over 3 2) ∷ millionth_less (over 0 2) ∷ millionth_more (over 3 2) ∷ []
    ≡ over 2999998 2000000 ∷ over 0 2000000 ∷ over 3000002 2000000 ∷ []
spared = refl

-- ---- the rates: 7 records with 2 failures in 2,733,980 ms, the last without one, so N* = 3
abbrev seen : Campaign
seen = at 7200000 7 2 false 2733980

-- N·1,000 / T
pub estimate_of : (rates_of seen).estimate ≡ quotient 2000 2733980
estimate_of = refl

-- l(N) / (T·1,000)
pub lower_of : (rates_of seen).lower ≡ quotient 242209 2733980000
unfolding l lower_rows
lower_of = refl

-- u(N*) / (T·1,000)
pub upper_of : (rates_of seen).upper ≡ quotient 7224688 2733980000
unfolding censored u upper_rows
upper_of = refl

-- the first whole number over the second: 1 over 2 is one half
pub halved : quotient 1 2 ≡ of_bits binary64 4602678819172646912
unfolding of_bits div of_int
halved = refl

-- rounded once: 3 over 10 is the f64 nearest to 0.3, and 3 times the f64 of 1 over 10 is the next one
pub rounded_once : quotient 3 10 ≡ of_bits binary64 4599075939470750515
unfolding of_bits div of_int
rounded_once = refl

-- with a record they are given, and without one there are none
pub rates_without : rating (empty 9) ≡ Ok None
unfolding rating sound
rates_without = refl

pub rates_with : rating seen ≡ Ok (Some (rates_of seen))
unfolding rating sound
rates_with = refl

-- also where none of them failed: 3 records in 26,559,936 ms, so N = 0 and N* = 1
pub rates_unfailed : rating (at 7200000 3 0 false 26559936)
    ≡ Ok (Some (record { estimate = quotient 0 26559936; lower = quotient 0 26559936000; upper = quotient 3688880 26559936000 }))
unfolding rating sound censored l lower_rows u upper_rows
rates_unfailed = refl

-- accept carries the upper rate
pub accept_carries : verdict_of (at 1000000 3 2 false 7224689) ≡ Accept (quotient 7224688 7224689000)
unfolding censored l lower_rows u upper_rows
accept_carries = refl

-- reject the lower
pub reject_carries : verdict_of (at 1000000 3 2 false 242208) ≡ Reject (quotient 242209 242208000)
unfolding censored l lower_rows u upper_rows
reject_carries = refl

-- continue both, the lower first
pub continue_carries : verdict_of (at 1000000 3 2 false 242209)
    ≡ Continue (quotient 242209 242209000) (quotient 7224688 242209000)
unfolding censored l lower_rows u upper_rows
continue_carries = refl
