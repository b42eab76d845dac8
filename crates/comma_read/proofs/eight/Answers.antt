-- `comma_read::eight` meets its contract: four bytes after four. Assumes nothing.
use Rattle.comma_word.proofs.Row.{eight_beside, eight_small}
use Rattle.comma_read.proofs.eight.Goals as goal

pub returns : goal.returns
returns c =
    let p = c.four.ensures in
    let q = c.four-2.ensures in
    (rw (p.0, q.0) (eight_beside c.args.s.now c.args.at c.requires), eight_small c.args.s.now c.args.at p.2 p.3 p.4 p.5 q.2 q.3 q.4 q.5)
