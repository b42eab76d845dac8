-- `sample_block::loud` meets its contract: the ends say it. Assumes nothing.
use mathlib.Core.Path.{◌∙◌}
use Rattle.sample_block.proofs.Sides.{ends_say}
use Rattle.sample_block.proofs.loud.Goals as goal

pub returns : goal.returns
returns c =
    let b = c.args in
    let a = b.level in
    let xs = b.samples.now in
    c.past.ensures ∙ rw (c.ends_of.ensures.lowest_value, c.ends_of.ensures.highest_value) (ends_say a xs)
