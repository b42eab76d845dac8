-- `decimal::number_or` meets its contract: the text is a number if the digits that it starts with are one and all of
-- it. Assumes nothing.
use Prim.Native.Nat.{ℕ}
use mathlib.Core.Path.{◌≡◌, sym, ap, ◌∙◌}
use mathlib.Core.Bool.{true, false, cond}
use mathlib.Core.List.{List}
use native.Mathlib.Omega.{arith}
use lib.ListN.{length}
use Rattle.truth.proofs.Cases.{by_test}
use Rattle.truth.proofs.Laws.{true≢false}
use Rattle.decimal.specs.Decimal.{is_number, value_of}
use Rattle.decimal.specs.Leading.{leading}
use Rattle.decimal.proofs.Leading.{LeadsTo, all_lead, led_all, leads_none, leads_number}
use Rattle.decimal.proofs.number_or.Goals as goal
use Rattle.decimal.proofs.number_or.Goals.{In-Some}

-- a text whose leading digits are no number, or not all of it, is none
other-than : (s : List ℕ) (other : ℕ) → (is_number s ≡ true → leading s ≡ s → true ≡ false)
    → other ≡ cond (is_number s) (value_of s) other
other-than s other never = by_test (is_number s) (λ n. absurd (true≢false (never n (all_lead s n)))) (λ n. rw n)

pub returns-in_default : goal.returns-in_default
returns-in_default c =
    let a = c.args in
    let none = leads_none a.s.now 0 (sym c.leading_at.ensures ∙ c.in_default.is) in
    other-than a.s.now a.other (λ n same. sym n ∙ sym (ap is_number same) ∙ none)

-- the number that was found, and where it ends
leads : (c : In-Some) → LeadsTo c.args.s.now 0 c.in-Some.v c.in-Some.end
leads c =
    leads_number _ 0 _ _ (sym c.leading_at.ensures ∙ c.in-Some.is)

pub returns-then-end-s : goal.returns-then-end-s
returns-then-end-s c =
    let l = leads (goal.at.returns-then-end-s c).In-Some in
    let a = c.args in
    other-than a.s.now a.other (λ n same. absurd (omega (arith, l.place, ap length same, c.if-end-s.true)))

pub returns : goal.returns
returns c =
    let l = leads (goal.at.returns c).In-Some in
    let a = c.args in
    let same = led_all a.s.now (omega (arith, l.place, c.if-end-s.false)) in
    rw (← same, l.number) l.value
