use native.Mathlib.Omega.{arith}
use mathlib.Core.Path.{◌≡◌, sym, ◌∙◌}
use lib.ListN.{length}
use Rattle.truth.proofs.Cases.{by_order}
use Rattle.decimal.proofs.Ends.{digit_here, digit_none, digit_on}
use Rattle.decimal.proofs.digits_end.Goals as goal

pub returns-then-not-is_digit : goal.returns-then-not-is_digit
returns-then-not-is_digit c =
    sym (digit_here c.args.s.now c.loop-i.i c.loop-i-test.true (sym c.is_digit.ensures ∙ c.if-not-is_digit.true))
    ∙ c.loop-i.invariant.0

pub loop-i-preserved : goal.loop-i-preserved
loop-i-preserved c =
    let on = digit_on c.args.s.now c.loop-i.i c.loop-i-test.true (sym c.is_digit.ensures ∙ c.if-not-is_digit.false) in
    (sym on ∙ c.loop-i.invariant.0, λ past. absurd (omega arith))

pub returns : goal.returns
returns c =
    let l = c.before in
    let end : c.max.result ≡ l.loop-i.i =
    by_order (length c.args.s.now) c.args.at
    (λ past. omega (arith, l.loop-i.invariant.1 past))
    (λ within. omega (arith, l.loop-i.auto.i-end within))
    in
    end ∙ sym (digit_none c.args.s.now l.loop-i.i (omega arith)) ∙ l.loop-i.invariant.0
