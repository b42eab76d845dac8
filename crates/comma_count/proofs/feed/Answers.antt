-- `comma_count::feed` meets its contract: so many zeros are lent beside the samples. Assumes nothing.
use mathlib.Core.Path.{◌≡◌, sym, ap, ◌∙◌}
use lib.IntN.{pos}
use lib.ListN.{length, take, replicate}
use borrow.Author.Rules.{rules}
use Rattle.record_feed.specs.Answers.{fed}
use Rattle.comma_count.specs.Line.{zeros}
use Rattle.comma_count.proofs.Zeros.{zeros_take, zeros_length}
use Rattle.comma_count.proofs.feed.Goals as goal
use Rattle.comma_count.proofs.feed.Goals.{Start}

-- the zeros that are lent
lent : (c : Start) → take (length c.args.samples.now) (replicate 1024 (pos 0)) ≡ zeros c.args.samples.now
lent c = zeros_take 1024 c.args.samples.now c.requires

pub returns : goal.returns
returns c =
    c.feed.ensures ∙ ap (fed c.args.r c.args.samples.now) (lent (goal.at.returns c).Start)
