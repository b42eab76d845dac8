-- Document 01, "The campaign": the rates and the verdict of a campaign's state. u and l are the upper and the lower
-- rows, proved to meet their rule in the crate `poisson`. Assumes nothing.
use Rattle.std.specs.Prelude.{◌≡◌, Bool, cond, false, not, true, ◌&&◌, ℕ, ◌*◌, ◌≤◌, eqb, ltb, Float, pos}
use Rattle.std.specs.Float.{binary64}
use Rattle.std.specs.Float.Ieee.{div, of_bits, of_int}
use Rattle.poisson.specs.Rows.{million}
use Rattle.poisson.specs.Tables.{l, u}
use Rattle.campaign_state.specs.declared.Campaign.{Campaign}
use Rattle.campaign_verdict.specs.declared.Rates.{Rates}
use Rattle.campaign_verdict.specs.declared.Verdict.{Verdict}
use Rattle.campaign_verdict.specs.declared.Verdict.TheVariants.{Accept, Continue, NoRecord, Reject}
use Rattle.campaign_state.specs.State.{censored}

-- one rounded division of two whole numbers, each exactly an f64
abbrev pub quotient : ℕ → ℕ → Float
quotient n t = div binary64 (of_int binary64 (pos n)) (of_int binary64 (pos t))

abbrev pub zero64 : Float
zero64 = of_bits binary64 0

-- in 1/s, T being in ms and the rows in millionths
abbrev pub estimate : Campaign → Float
estimate c = quotient (c.failures * 1000) c.exposure

abbrev pub lower_rate : Campaign → Float
lower_rate c = quotient (l c.failures) (c.exposure * 1000)

abbrev pub upper_rate : Campaign → Float
upper_rate c = quotient (u (censored c)) (c.exposure * 1000)

-- the three together
abbrev pub three : Campaign → Rates
three c = record { estimate = estimate c; lower = lower_rate c; upper = upper_rate c }

-- without a record each is 0
abbrev pub rates_of : Campaign → Rates
rates_of c = cond (eqb c.records 0) (record { estimate = zero64; lower = zero64; upper = zero64 }) (three c)

-- T·1,000,000 < l(N)·q
abbrev pub rejects : Campaign → Bool
rejects c = ltb (c.exposure * million) (l c.failures * c.standard)

-- T·1,000,000 > u(N*)·q
abbrev pub accepts : Campaign → Bool
accepts c = ltb (u (censored c) * c.standard) (c.exposure * million)

-- which verdict a campaign has, and the rates that it carries. The two tests never both hold in a state that we take,
-- so there is one (proofs/Only)
abbrev pub IsVerdict : Campaign → Verdict → Type 0
IsVerdict c (Reject x) = (1 ≤ c.records) × (rejects c ≡ true) × (x ≡ lower_rate c)
IsVerdict c (Accept y) = (1 ≤ c.records) × (accepts c ≡ true) × (y ≡ upper_rate c)
IsVerdict c (Continue x y) = (1 ≤ c.records) × (rejects c ≡ false) × (accepts c ≡ false) × (x ≡ lower_rate c) × (y ≡ upper_rate c)
IsVerdict c NoRecord = c.records ≡ 0

-- that one verdict, for those who compute with it: the test that holds alone decides, else continue
abbrev pub weighed : Campaign → Verdict
weighed c =
    cond (rejects c && not (accepts c)) (Reject (lower_rate c))
    (cond (accepts c && not (rejects c)) (Accept (upper_rate c))
    (Continue (lower_rate c) (upper_rate c)))

abbrev pub verdict_of : Campaign → Verdict
verdict_of c = cond (eqb c.records 0) NoRecord (weighed c)
