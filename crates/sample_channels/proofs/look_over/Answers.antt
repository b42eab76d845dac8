-- `sample_channels::look_over` meets its contract: its test is that of the definition. Assumes nothing.
use borrow.Author.Rules.{rules}
use mathlib.Core.Path.{◌≡◌, sym, ◌∙◌}
use Rattle.sample_channels.specs.Channels.{any_bad, looked}
use Rattle.sample_channels.proofs.look_over.Goals as goal
use Rattle.sample_channels.proofs.look_over.Goals.{After-either, After-first_bad-p}

tested : (c : After-either) →
    let a = c.args in
    c.either.result ≡ any_bad a.roll.now a.acceleration.now
tested c =
    let after-first-bad : After-first_bad-p = search rules in
    rw (c.either.ensures, after-first-bad.first_bad-p.ensures, c.first_bad-q.ensures)

pub returns-then-either : goal.returns-then-either
unfolding looked
returns-then-either c =
    let b : After-either = search rules in
    let p = c.first_bad-p.ensures in
    let q = b.first_bad-q.ensures in
    rw (sym (tested b) ∙ c.if-either.true, c.bad_of.ensures, p, q)

pub returns : goal.returns
unfolding looked
returns c = rw (sym (tested c.before) ∙ c.if-either.false)
