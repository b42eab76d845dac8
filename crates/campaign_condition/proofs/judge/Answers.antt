-- `campaign_condition::judge` meets its contract: each answer has the tests that led to it. Assumes nothing.
use mathlib.Core.Path.{◌≡◌}
use mathlib.Core.Bool.{true}
use Rattle.campaign_condition.specs.Answers.{situations_in_range, judging}
use Rattle.campaign_condition.proofs.Judging.{all_open, at_fault, one_bad, all_good}
use Rattle.campaign_condition.proofs.judge.Goals as goal
use mathlib.Core.Path.{sym}
use mathlib.Core.Path.{◌∙◌}

pub returns-then-not-both : goal.returns-then-not-both
unfolding judging
returns-then-not-both c =
    rw ((sym c.both.ensures ∙ c.if-not-both.true))

pub returns-then-s-ne0 : goal.returns-then-s-ne0
returns-then-s-ne0 c =
    let as_many : situations_in_range c.args.number ≡ true = (sym c.both.ensures ∙ c.if-not-both.false) in
    at_fault _ _ (as_many) c.look-s.ensures c.if-s-ne0.true

pub returns-then-s : goal.returns-then-s
returns-then-s c =
    let as_many : situations_in_range c.args.number ≡ true = (sym c.both.ensures ∙ c.if-not-both.false) in
    one_bad _ _ (as_many) c.look-s.ensures c.if-s-ne0.false c.if-s.true

pub returns-then-s-2 : goal.returns-then-s-2
returns-then-s-2 c =
    let as_many : situations_in_range c.args.number ≡ true = (sym c.both.ensures ∙ c.if-not-both.false) in
    all_good _ _ (as_many) c.look-s.ensures c.if-s-ne0.false c.if-s.false c.if-s-2.true

pub returns : goal.returns
returns c =
    let as_many : situations_in_range c.args.number ≡ true = (sym c.both.ensures ∙ c.if-not-both.false) in
    all_open _ _ (as_many) c.look-s.ensures c.if-s-ne0.false c.if-s.false c.if-s-2.false
