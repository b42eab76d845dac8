-- `comma_pair::some` meets its contract: what was taken, since the step is in range. Assumes nothing.
use mathlib.Core.Path.{refl}
use Rattle.comma_count.proofs.Way.{never_refused}
use Rattle.comma_pair.proofs.Way.{told}
use borrow.Author.Rules.{rules}
use Rattle.comma_pair.proofs.some.Goals as goal

pub returns-in-Ok : goal.returns-in-Ok
returns-in-Ok c =
    told c.args.f c.args.text.now c.args.samples.now c.requires c.take.ensures.value c.take.ensures.samples_after c.in-Ok.is

pub returns-in-Err : goal.returns-in-Err
returns-in-Err c =
    absurd (never_refused c.args.f c.args.text.now c.args.samples.now c.requires refl c.take.ensures.value c.in-Err.is)
