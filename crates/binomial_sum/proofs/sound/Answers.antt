-- `binomial_sum::sound` meets its contract, word for word. Assumes nothing.
use Rattle.binomial_sum.specs.State.{sound}
use Rattle.binomial_sum.proofs.sound.Goals as goal

pub returns : goal.returns
unfolding sound
returns c =
    rw (c.both-4.ensures, c.both.ensures, c.both-3.ensures, c.both-2.ensures)
