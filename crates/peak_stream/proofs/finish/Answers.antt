-- `peak_stream::finish` meets its contract, by its test. Assumes nothing.
use borrow.Author.Tests.{lt-ltb, le-ltb}
use Rattle.peak_stream.specs.Hands.{last_of}
use Rattle.peak_stream.proofs.finish.Goals as goal

pub returns-then-chains-gt0 : goal.returns-then-chains-gt0
unfolding last_of
returns-then-chains-gt0 c = rw (lt-ltb _ _ c.if-chains-gt0.true)

pub returns : goal.returns
unfolding last_of
returns c = rw (le-ltb _ _ c.if-chains-gt0.false)
